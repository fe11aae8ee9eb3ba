-- The head of a job file.
use Rattle.std.specs.Prelude.{◌≡◌, ℕ, zero, suc, ◌+◌, ◌-◌, if◌then◌else◌, List, [], ◌∷◌, ◌++◌, length, Some, None, Ok, Err, Option, Result, nat_lt}
use Rattle.lines.specs.declared.reader.LineFault.{LineFault}
use Rattle.lines.specs.declared.refusal.LineRefusal.{LineRefusal}
use Rattle.lines.specs.Families.{reads}
use Rattle.jobs.specs.declared.fault.FileFault.{FileFault}
use Rattle.jobs.specs.declared.fault.FileFault.TheVariants.{FileSize, Line, Sections}
use Rattle.jobs.specs.declared.fault.Refusal.{Refusal}
use Rattle.jobs.specs.declared.section.Section.{Section}
use Rattle.jobs.specs.Faults.{in_section}
use Rattle.jobs.specs.Jobs.{Job, job_lines}
use Rattle.jobs.specs.Sections.{section_lines, first_wrong}

-- so many section lines more, after those that were read, and what follows them; n is the next line's number
abbrev pub and_section : Result (Section × List ℕ) LineFault → ℕ → (Section → List ℕ → Result (List Section × List ℕ) (LineRefusal LineFault)) → Result (List Section × List ℕ) (LineRefusal LineFault)
and_section (Err f) n on = Err (record { fault = f; line = n })
and_section (Ok p) n on = on p.0 p.1

abbrev pub sections_from : ℕ → ℕ → List Section → List ℕ → Result (List Section × List ℕ) (LineRefusal LineFault)
sections_from zero n ss bs = Ok (ss, bs)
sections_from (suc k) n ss bs = and_section (reads section_lines bs) n (λ s rest. sections_from k (n + 1) (ss ++ (s ∷ [])) rest)

-- what the reader of the sections answers, and what it leaves where all are read
abbrev pub ReadsSections : Result (List Section × List ℕ) (LineRefusal LineFault) → Result (List Section) (LineRefusal LineFault) → List ℕ → Type 0
ReadsSections (Err e) r after = r ≡ Err e
ReadsSections (Ok p) r after = (r ≡ Ok p.0) × (after ≡ p.1)

-- the first line and the sections of a job
pub record Heading : Type 0 where
  pub job : Job
  pub sections : List Section

abbrev pub and_then : {A B E : Type 0} → Result A E → (A → Result B E) → Result B E
and_then (Ok a) on = on a
and_then (Err e) on = Err e

abbrev pub at_line : {A : Type 0} → ℕ → Result A LineFault → Result A (LineRefusal LineFault)
at_line n (Ok a) = Ok a
at_line n (Err f) = Err (record { fault = f; line = n })

abbrev pub tiled : Job → List Section → Option ℕ → Result Heading (Refusal FileFault)
tiled j ss None = Ok (record { job = j; sections = ss })
tiled j ss (Some k) = Err (record { fault = Sections; section = 0; line = k + 2 })

-- the head of a file: J, then a D line for each thread and the trace, whose sections tile the rest of the file
abbrev pub heading : List ℕ → Result Heading (Refusal FileFault)
heading file =
    and_then (in_section Line 0 (at_line 1 (reads job_lines file))) (λ j.
    and_then (in_section Line 0 (sections_from (j.0.threads + 1) 2 [] j.1)) (λ d.
    tiled j.0 d.0 (first_wrong 0 (length file - length d.1) d.0 (length file))))

-- a file over 65,535 bytes is refused
abbrev pub file_heading : List ℕ → Result Heading (Refusal FileFault)
file_heading file = if nat_lt 65535 (length file) then Err (record { fault = FileSize; section = 0; line = 0 }) else heading file
