-- What is found of a job file.
use Rattle.std.specs.Prelude.{ℕ, ◌+◌, List, [], map, take, Ok, Err, Result, slice_index_or}
use Rattle.lines.specs.declared.reader.LineFault.{LineFault}
use Rattle.lines.specs.Families.{reads}
use Rattle.languages.specs.Behaviours.{Behaviour}
use Rattle.languages.specs.RegisterLines.{register_lines}
use Rattle.languages.specs.Registers.{register_start}
use Rattle.languages.specs.StripLines.{strip_lines}
use Rattle.languages.specs.Strips.{strip_start}
use Rattle.rules.specs.Models.{Run}
use Rattle.rules.specs.Rules.{Tried, went, refused, made}
use Rattle.judge.specs.declared.fault.Fault.{Fault}
use Rattle.judge.specs.declared.fault.Fault.TheVariants.{File, Step}
use Rattle.jobs.specs.declared.fault.Refusal.{Refusal}
use Rattle.jobs.specs.Faults.{in_section, widened}
use Rattle.jobs.specs.declared.job.LanguageChoice.{LanguageChoice}
use Rattle.jobs.specs.declared.job.LanguageChoice.TheVariants.{Registers, Strips}
use Rattle.jobs.specs.declared.section.Section.{Section}
use Rattle.jobs.specs.Heads.{and_then, file_heading}
use Rattle.jobs.specs.Programs.{cut, nowhere, programs_after}
use Rattle.judge.specs.Traces.{Progress, trace_judged}

-- a run that cannot be made is refused at the J line
abbrev pub run_made : Tried Run → Result Run (Refusal Fault)
run_made (went r) = Ok r
run_made (refused e) = Err (record { fault = Step e; section = 0; line = 1 })

-- a run of these threads, in a store of this capacity, by the trace
abbrev pub with_trace : ℕ → List ℕ → ℕ → ℕ → List Section → List Behaviour → Result Progress (Refusal Fault)
with_trace capacity file n l sections threads =
    and_then (run_made (made threads n l capacity)) (λ r.
    in_section (λ f. f) (n + 1) (trace_judged n l r (cut file (slice_index_or sections n nowhere))))

-- the programs in order, then the trace
abbrev pub read_as : {I : Type 0} → (List ℕ → Result (I × List ℕ) LineFault) → (List I → Behaviour)
    → ℕ → List ℕ → ℕ → ℕ → List Section → Result Progress (Refusal Fault)
read_as reads start capacity file n l sections =
    and_then (widened File (programs_after reads file 1 [] (take n sections)))
    (λ ps. with_trace capacity file n l sections (map start ps))

-- the language chooses how program lines are read, and what they do
abbrev pub read_in : LanguageChoice → ℕ → List ℕ → ℕ → ℕ → List Section → Result Progress (Refusal Fault)
read_in Registers capacity file n l sections =
    read_as (reads (register_lines l)) register_start capacity file n l sections
read_in Strips capacity file n l sections =
    read_as (reads (strip_lines l)) strip_start capacity file n l sections

-- the head of the file, then its sections
abbrev pub judged : ℕ → List ℕ → Result Progress (Refusal Fault)
judged capacity file =
    and_then (widened File (file_heading file))
    (λ h. read_in h.job.language capacity file h.job.threads h.job.locations h.sections)
