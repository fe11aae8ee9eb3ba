-- The programs of a job.
use Rattle.std.specs.Prelude.{ℕ, ◌+◌, List, [], ◌∷◌, ◌++◌, map, take, drop, Ok, Err, Result}
use Rattle.lines.specs.declared.reader.LineFault.{LineFault}
use Rattle.languages.specs.declared.read_program.Program.{Program}
use Rattle.languages.specs.Programs.{program, program_lines}
use Rattle.jobs.specs.declared.fault.FileFault.{FileFault}
use Rattle.jobs.specs.declared.fault.Refusal.{Refusal}
use Rattle.jobs.specs.declared.section.Section.{Section}
use Rattle.jobs.specs.Faults.{in_section, program_fault}
use Rattle.jobs.specs.Heads.{and_then}

-- the bytes of a section
abbrev pub cut : List ℕ → Section → List ℕ
cut file s = take s.length (drop s.offset file)

abbrev pub nowhere : Section
nowhere = record { offset = 0; length = 0 }

-- the programs in these sections after those that were read, where s is the number of the next section
abbrev pub programs_after : {I : Type 0} → (List ℕ → Result (I × List ℕ) LineFault) → List ℕ → ℕ → List (List I) → List Section → Result (List (List I)) (Refusal FileFault)
programs_after reads file s ps [] = Ok ps
programs_after reads file s ps (d ∷ ds) =
    and_then (in_section program_fault s (program reads (cut file d))) (λ p. programs_after reads file (s + 1) (ps ++ (p ∷ [])) ds)

-- what the reader of the programs answers, of the first n
abbrev pub programs_of : {I : Type 0} → ℕ → Result (List (Program I)) (Refusal FileFault) → Result (List (List I)) (Refusal FileFault)
programs_of n (Ok ps) = Ok (map program_lines (take n ps))
programs_of n (Err e) = Err e
