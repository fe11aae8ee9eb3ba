-- What is wrong with a program, in words of its section.
use Rattle.std.specs.Prelude.{◌≡◌, ℕ, ◌+◌, ◌≤◌, List, [], ◌++◌, length, ◌≢◌}
use Rattle.std.specs.List.{AllByRecursion}
use Rattle.lines.specs.declared.reader.LineFault.{LineFault}
use Rattle.lines.specs.Families.{Family, all_spelled}
use Rattle.lines.specs.LineLaws.{NoLine}
use Rattle.languages.specs.declared.read_program.ProgramFault.{ProgramFault}
use Rattle.languages.specs.declared.read_program.ProgramFault.TheVariants.{Line, TooMany}

-- the line of a section that is none of a program, by its number, and why; those before it are all in range
pub data NoProgram {K I : Type 0} (F : Family K I) (Fits : I → Type 0) (section : List ℕ)
    : ProgramFault → ℕ → Type 0 where
  no_line : {fault : LineFault} (lines : List I) (rest : List ℕ) → section ≡ all_spelled F lines ++ rest
      → AllByRecursion Fits lines → length lines ≤ 64 → rest ≢ [] → NoLine F Fits rest fault
      → NoProgram F Fits section (Line fault) (length lines + 1)
  too_many : (lines : List I) (rest : List ℕ) → section ≡ all_spelled F lines ++ rest
      → AllByRecursion Fits lines → length lines ≡ 65 → NoProgram F Fits section TooMany 65
