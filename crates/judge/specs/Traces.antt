-- The trace of a job, line by line on a run.
use Rattle.std.specs.Prelude.{◌≡◌, ℕ, ◌+◌, if◌then◌else◌, List, Ok, Err, Result}
use Rattle.lines.specs.declared.reader.LineFault.{LineFault}
use Rattle.lines.specs.declared.refusal.LineRefusal.{LineRefusal}
use Rattle.lines.specs.declared.trace.Line as trace
use Rattle.lines.specs.Families.{reads}
use Rattle.lines.specs.TraceLines.{trace_lines}
use Rattle.lines.specs.Walks.{walked, reached}
use Rattle.rules.specs.Models.{Run}
use Rattle.rules.specs.Rules.{Tried, went, refused, line_result}
use Rattle.run.specs.Reports.{is_between}
use Rattle.judge.specs.declared.fault.Fault.{Fault}
use Rattle.jobs.specs.declared.fault.FileFault.TheVariants.{Line}
use Rattle.judge.specs.declared.fault.Fault.TheVariants.{File, Step, Unfinished}
use Rattle.jobs.specs.Heads.{and_then}

-- the run after a line, and what follows the line in the section
abbrev pub step_taken : List ℕ → Tried Run → Result (Run × List ℕ) Fault
step_taken rest (went r) = Ok (r, rest)
step_taken rest (refused e) = Err (Step e)

abbrev pub line_taken : Run → Result (trace.Line × List ℕ) LineFault → Result (Run × List ℕ) Fault
line_taken r (Err f) = Err (File (Line f))
line_taken r (Ok p) = step_taken p.1 (line_result p.0 r)

-- the lines that were accepted, and the run that they led to
pub record Progress : Type 0 where
  pub count : ℕ
  pub run : Run

abbrev pub counted : ℕ → Result (Run × List ℕ) Fault → Result (Progress × List ℕ) Fault
counted k (Err f) = Err f
counted k (Ok p) = Ok (record { count = k + 1; run = p.0 }, p.1)

-- one line more, of n threads and l locations
abbrev pub one_line : ℕ → ℕ → Progress → List ℕ → Result (Progress × List ℕ) Fault
one_line n l s bs = counted s.count (line_taken s.run (reads (trace_lines n l) bs))

-- each line is judged on the run that the ones before it led to; the first that is refused ends it
abbrev pub followed : ℕ → ℕ → Run → List ℕ → Result Progress (LineRefusal Fault)
followed n l r bs = walked (one_line n l) (record { count = 0; run = r }) bs

-- the run that the accepted lines led to, up to the first that is refused
abbrev pub run_left : ℕ → ℕ → Run → List ℕ → Run
run_left n l r bs = (reached (one_line n l) (record { count = 0; run = r }) bs).run

-- a trace ends between turns
abbrev pub finished : Progress → Result Progress (LineRefusal Fault)
finished s = if is_between s.run.phase then Ok s else Err (record { fault = Unfinished; line = s.count })

abbrev pub trace_judged : ℕ → ℕ → Run → List ℕ → Result Progress (LineRefusal Fault)
trace_judged n l r bs = and_then (followed n l r bs) finished

-- what the code answers, and the run that it leaves: where the line is refused, the one before it
abbrev pub Took : Run → Result (Run × List ℕ) Fault → Result (Unit {0}) Fault → Run → Type 0
Took before (Ok p) r run = (r ≡ Ok tt) × (run ≡ p.0)
Took before (Err f) r run = (r ≡ Err f) × (run ≡ before)

-- the same of more lines: where one is refused, or the trace is, the run is the last that was reached
abbrev pub Follows : Result Progress (LineRefusal Fault) → Run → Result ℕ (LineRefusal Fault) → Run → Type 0
Follows (Ok s) last r run = (r ≡ Ok s.count) × (run ≡ s.run)
Follows (Err e) last r run = (r ≡ Err e) × (run ≡ last)
