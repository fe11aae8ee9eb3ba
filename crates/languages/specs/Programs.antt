-- A program: the lines of its section, at most 64.
use Rattle.std.specs.Prelude.{◌≡◌, ℕ, if◌then◌else◌, List, [], ◌∷◌, ◌++◌, length, Ok, Err, Result, nat_lt}
use Rattle.bounded.specs.Fixed.{elements}
use Rattle.lines.specs.declared.reader.LineFault.{LineFault}
use Rattle.lines.specs.declared.refusal.LineRefusal.{LineRefusal}
use Rattle.lines.specs.Walks.{walked}
use Rattle.languages.specs.declared.read_program.Program.{Program}
use Rattle.languages.specs.declared.read_program.ProgramFault.{ProgramFault}
use Rattle.languages.specs.declared.read_program.ProgramFault.TheVariants.{Line, TooMany}

-- one line more, if there is room for it
abbrev pub with_line : {I : Type 0} → List I → Result (I × List ℕ) LineFault → Result (List I × List ℕ) ProgramFault
with_line lines (Err f) = Err (Line f)
with_line lines (Ok p) = if nat_lt (length lines) 64 then Ok (lines ++ (p.0 ∷ []), p.1) else Err TooMany

-- the lines of a section, where `reads` reads the one in front
abbrev pub program : {I : Type 0} → (List ℕ → Result (I × List ℕ) LineFault) → List ℕ → Result (List I) (LineRefusal ProgramFault)
program {I} reads bs = walked (λ (lines : List I) xs. with_line lines (reads xs)) [] bs

abbrev pub program_lines : {I : Type 0} → Program I → List I
program_lines p = elements p.lines

abbrev pub lines_of : {I : Type 0} → Result (Program I) (LineRefusal ProgramFault) → Result (List I) (LineRefusal ProgramFault)
lines_of (Ok p) = Ok (program_lines p)
lines_of (Err f) = Err f

-- one line was added, and what follows it is left, or it was refused
abbrev pub Adds : {I : Type 0} → Result (List I × List ℕ) ProgramFault → Result (Unit {0}) ProgramFault → List I → List ℕ → Type 0
Adds (Err f) r lines after = r ≡ Err f
Adds (Ok p) r lines after = (r ≡ Ok tt) × (lines ≡ p.0) × (after ≡ p.1)
