-- What the report on a file says, in words of the file.
use Rattle.std.specs.Prelude.{◌≡◌, ◌≢◌, ℕ, ◌+◌, ◌<◌, ◌≤◌, ◌⊎◌, List, [], ◌∷◌, ◌++◌, map, length, take}
use Rattle.std.specs.Prelude.{slice_index_or}
use Rattle.std.specs.Prelude.{Err, Result}
use Rattle.std.specs.List.{AllByRecursion}
use Rattle.lines.specs.declared.trace.Line.{Line}
use Rattle.lines.specs.declared.reader.LineFault.{LineFault}
use Rattle.lines.specs.Families.{Family, spells, all_spelled}
use Rattle.lines.specs.LineLaws.{NoLine}
use Rattle.lines.specs.TraceLines.{trace_lines, TraceFits}
use Rattle.languages.specs.declared.registers.RegisterLine.{RegisterLine}
use Rattle.languages.specs.declared.strips.StripLine.{StripLine}
use Rattle.languages.specs.declared.read_program.ProgramFault.{ProgramFault}
use Rattle.languages.specs.Behaviours.{Behaviour}
use Rattle.languages.specs.ProgramLaws.{NoProgram}
use Rattle.languages.specs.RegisterLines.{register_lines, RegisterFits}
use Rattle.languages.specs.Registers.{register_start}
use Rattle.languages.specs.StripLines.{strip_lines, StripFits}
use Rattle.languages.specs.Strips.{strip_start}
use Rattle.rules.specs.Models.{Run, between}
use Rattle.rules.specs.Rules.{went, made}
use Rattle.rules.specs.declared.fault.StepFault.{StepFault}
use Rattle.rules.specs.Steps.{Leads}
use Rattle.rules.specs.Histories.{Event, no_turn, Move, Given, Did}
use Rattle.rules.specs.Reasons.{FirstReason}
use Rattle.rules.specs.Laws.{Lawful}
use Rattle.jobs.specs.declared.job.LanguageChoice.{LanguageChoice}
use Rattle.jobs.specs.declared.job.LanguageChoice.TheVariants.{Registers, Strips}
use Rattle.jobs.specs.declared.section.Section.{Section}
use Rattle.jobs.specs.Heads.{Heading}
use Rattle.jobs.specs.declared.fault.FileFault.{FileFault}
use Rattle.jobs.specs.declared.fault.FileFault.TheVariants.{FileSize, Line as LineOf}
use Rattle.jobs.specs.declared.fault.Refusal.{Refusal}
use Rattle.jobs.specs.Faults.{program_fault, refused_text}
use Rattle.jobs.specs.Reports.{said}
use Rattle.jobs.specs.HeadLaws.{Begins, NoHead}
use Rattle.jobs.specs.Programs.{cut, nowhere}
use Rattle.judge.specs.declared.fault.Fault.{Fault}
use Rattle.judge.specs.declared.fault.Fault.TheVariants.{File, Step, Unfinished}
use Rattle.judge.specs.Faults.{fault_number, fault_layer}
use Rattle.judge.specs.Reports.{accepted_text}

-- a section is the spelling of these lines, all in range, and nothing else
pub record HoldsLines {K A : Type 0} (F : Family K A) (Fits : A → Type 0) (file : List ℕ) (s : Section)
    (lines : List A) : Type 0 where
  pub spelled : cut file s ≡ all_spelled F lines
  pub fit : AllByRecursion Fits lines

-- each section has the lines of a program, at most 64
abbrev pub HoldPrograms : {K A : Type 0} → Family K A → (A → Type 0) → List ℕ → List Section → List (List A)
    → Type 0
HoldPrograms F Fits file [] [] = Unit {0}
HoldPrograms F Fits file [] (p ∷ ps) = ⊥
HoldPrograms F Fits file (d ∷ ds) [] = ⊥
HoldPrograms F Fits file (d ∷ ds) (p ∷ ps) =
    HoldsLines F Fits file d p × (length p ≤ 64) × HoldPrograms F Fits file ds ps

-- what threads with these programs do, by the language
abbrev pub ThreadsIn : LanguageChoice → ℕ → List ℕ → List Section → List Behaviour → Type 0
ThreadsIn Registers l file ds threads =
    (ps : List (List RegisterLine))
    × HoldPrograms (register_lines l) (RegisterFits l) file ds ps × (threads ≡ map register_start ps)
ThreadsIn Strips l file ds threads =
    (ps : List (List StripLine))
    × HoldPrograms (strip_lines l) (StripFits l) file ds ps × (threads ≡ map strip_start ps)

-- the head and the programs of a job, as they stand in the file
pub record JobIn (file : List ℕ) (h : Heading) (threads : List Behaviour) : Type 0 where
  pub small : length file ≤ 65535
  pub begins : Begins file h
  pub programs : ThreadsIn h.job.language h.job.locations file (take h.job.threads h.sections) threads

-- the bytes of the trace
abbrev pub trace_bytes : List ℕ → Heading → List ℕ
trace_bytes file h = cut file (slice_index_or h.sections h.job.threads nowhere)

-- the trace of the file begins with these lines, and they lead a run of its programs, just made, to r
pub record Reaches (file : List ℕ) (h : Heading) (lines : List Line) (rest : List ℕ) (r : Run) : Type 0 where
  pub threads : List Behaviour
  pub job : JobIn file h threads
  pub spelled : trace_bytes file h ≡ all_spelled (trace_lines h.job.threads h.job.locations) lines ++ rest
  pub fit : AllByRecursion (TraceFits h.job.threads h.job.locations) lines
  pub first : Run
  pub start : made threads h.job.threads h.job.locations 64 ≡ went first
  pub led : Leads first lines r

-- the trace of the file is a run of its programs, from one just made to r, and ends between turns
pub record IsRun (file : List ℕ) (trace : List Line) (r : Run) : Type 0 where
  pub heading : Heading
  pub reaches : Reaches file heading trace [] r
  pub ended : r.phase ≡ between

-- the law of that run: its lines have a history, with which it is lawful
abbrev pub LawfulRun : (file : List ℕ) (trace : List Line) (r : Run) → IsRun file trace r → Type 0
LawfulRun file trace r w = (moves : List Move) × (events : List Event)
    × Given w.reaches.first trace moves r × Did no_turn moves events
    × Lawful w.heading.job.locations r moves events

-- of these sections, the one that holds no program, the line in it, and why; those before it hold programs
pub record WrongProgram {K I : Type 0} (F : Family K I) (Fits : I → Type 0) (file : List ℕ)
    (ds : List Section) (fault : ProgramFault) (section line : ℕ) : Type 0 where
  pub before : List Section
  pub wrong : Section
  pub later : List Section
  pub programs : List (List I)
  pub parts : ds ≡ before ++ (wrong ∷ later)
  pub right : HoldPrograms F Fits file before programs
  pub number : section ≡ length before + 1
  pub none : NoProgram F Fits (cut file wrong) fault line

-- the same, by the language
abbrev pub NoThreads : LanguageChoice → ℕ → List ℕ → List Section → ProgramFault → ℕ → ℕ → Type 0
NoThreads Registers l file ds = WrongProgram (register_lines l) (RegisterFits l) file ds
NoThreads Strips l file ds = WrongProgram (strip_lines l) (StripFits l) file ds

-- why a file is refused, by section and line: the first thing that is wrong with it
pub data Refuses (file : List ℕ) : Fault → ℕ → ℕ → Type 0 where
  too_long : 65535 < length file → Refuses file (File FileSize) 0 0
  no_head : {fault : FileFault} {line : ℕ} → length file ≤ 65535 → NoHead file fault line
      → Refuses file (File fault) 0 line
  no_program : {section line : ℕ} (h : Heading) (fault : ProgramFault) → length file ≤ 65535 → Begins file h
      → NoThreads h.job.language h.job.locations file (take h.job.threads h.sections) fault section line
      → Refuses file (File (program_fault fault)) section line
  -- in the trace: these lines are accepted, and what follows is no line
  no_line : {fault : LineFault} (h : Heading) (lines : List Line) (rest : List ℕ) (r : Run)
      → Reaches file h lines rest r → rest ≢ []
      → NoLine (trace_lines h.job.threads h.job.locations) (TraceFits h.job.threads h.job.locations)
      rest fault
      → Refuses file (File (LineOf fault)) (h.job.threads + 1) (length lines + 1)
  -- or a line that the run refuses, for its first reason
  no_step : (h : Heading) (lines : List Line) (line : Line) (rest : List ℕ) (r : Run) (e : StepFault)
      → Reaches file h lines (spells (trace_lines h.job.threads h.job.locations) line ++ rest) r
      → TraceFits h.job.threads h.job.locations line → FirstReason r line e
      → Refuses file (Step e) (h.job.threads + 1) (length lines + 1)
  -- or the trace ends in a turn or in a showing
  no_end : (h : Heading) (lines : List Line) (r : Run) → Reaches file h lines [] r → r.phase ≢ between
      → Refuses file Unfinished (h.job.threads + 1) (length lines)

-- the line of that refusal
abbrev pub refusal_line : Fault → ℕ → ℕ → List ℕ
refusal_line fault section line =
    refused_text fault_number fault_layer (record { fault = fault; section = section; line = line })

abbrev pub StartsWithOk : List ℕ → Type 0
StartsWithOk text = (rest : List ℕ) × (text ≡ 79 ∷ 75 ∷ rest)

abbrev pub StartsWithNo : List ℕ → Type 0
StartsWithNo text = (rest : List ℕ) × (text ≡ 78 ∷ 79 ∷ rest)

-- the report on a file
pub record Reported (file text : List ℕ) : Type 0 where
  -- the file is accepted or refused
  pub verdict : StartsWithOk text ⊎ StartsWithNo text
  -- it is accepted exactly when its trace is a run of its programs, and the report is then that of the run
  pub only_runs : StartsWithOk text
      → (trace : List Line) × (r : Run) × IsRun file trace r
      × (text ≡ accepted_text (record { count = length trace; run = r }))
  pub every_run : (trace : List Line) (r : Run) → IsRun file trace r
      → text ≡ accepted_text (record { count = length trace; run = r })
  -- and that run obeys the laws
  pub lawful : (trace : List Line) (r : Run) (w : IsRun file trace r) → LawfulRun file trace r w
  -- it is refused exactly when something is wrong with it, and the report is then the line of the first thing
  pub only_refusals : StartsWithNo text
      → (fault : Fault) × (section : ℕ) × (line : ℕ) × Refuses file fault section line
      × (text ≡ refusal_line fault section line)
  pub every_refusal : (fault : Fault) (section line : ℕ) → Refuses file fault section line
      → text ≡ refusal_line fault section line

-- the verdict on a file is the report of its run, or the refusal of the first thing that is wrong with it
pub record Judges (file : List ℕ) (verdict : Result (List ℕ) (Refusal Fault)) : Type 0 where
  pub reported : Reported file (said fault_number fault_layer verdict)
  pub refuses : (fault : Fault) (section line : ℕ)
      → let refusal : Refusal Fault = record { fault = fault; section = section; line = line } in
      (verdict ≡ Err refusal → Refuses file fault section line) × (Refuses file fault section line → verdict ≡ Err refusal)
