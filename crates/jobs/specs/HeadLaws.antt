-- When a file has a head, and what is wrong with it where it has none, in words of the file.
use Rattle.std.specs.Prelude.{◌≡◌, ℕ, ◌+◌, ◌-◌, ◌<◌, ◌≤◌, List, [], ◌∷◌, ◌++◌, length, Ok, Err, Result, ◌≢◌}
use Rattle.std.specs.List.{AllByRecursion}
use Rattle.lines.specs.declared.reader.LineFault.{LineFault}
use Rattle.lines.specs.Families.{spells, all_spelled}
use Rattle.lines.specs.LineLaws.{NoLine}
use Rattle.jobs.specs.declared.fault.FileFault.{FileFault}
use Rattle.jobs.specs.declared.fault.FileFault.TheVariants.{Line, Sections}
use Rattle.jobs.specs.declared.fault.Refusal.{Refusal}
use Rattle.jobs.specs.declared.section.Section.{Section}
use Rattle.jobs.specs.Jobs.{Job, job_lines, JobFits}
use Rattle.jobs.specs.Sections.{section_lines, SectionFits, Tiles}
use Rattle.jobs.specs.Heads.{Heading}

-- a J line and these D lines, all in range, stand in front of the rest of the file
pub record HeadLines (file : List ℕ) (j : Job) (ds : List Section) (rest : List ℕ) : Type 0 where
  pub spelled : file ≡ spells job_lines j ++ (all_spelled section_lines ds ++ rest)
  pub job_fits : JobFits j
  pub sections_fit : AllByRecursion SectionFits ds

-- the file begins with a J line and a D line for each thread and the trace,
-- and the sections tile the rest of the file
pub record Begins (file : List ℕ) (h : Heading) : Type 0 where
  pub rest : List ℕ
  pub lines : HeadLines file h.job h.sections rest
  pub many : length h.sections ≡ h.job.threads + 1
  pub tiles : Tiles (length file - length rest) h.sections (length file)

-- the reader goes on past the head exactly when the file begins so
abbrev pub HeadExact : List ℕ → Result Heading (Refusal FileFault) → Type 0
HeadExact file r = (h : Heading) → (r ≡ Ok h → Begins file h) × (Begins file h → r ≡ Ok h)

-- a section that should begin at `start` does not, or passes the end, or is the last and does not end there
pub data LiesWrong (start : ℕ) (d : Section) (later : List Section) (end : ℕ) : Type 0 where
  elsewhere : d.offset ≢ start → LiesWrong start d later end
  past_the_end : end < start + d.length → LiesWrong start d later end
  too_short : later ≡ [] → start + d.length ≢ end → LiesWrong start d later end

-- the line of the head that is wrong, by its number, and why; the lines before it are right
pub data NoHead (file : List ℕ) : FileFault → ℕ → Type 0 where
  no_job : {fault : LineFault} → NoLine job_lines JobFits file fault → NoHead file (Line fault) 1
  -- these D lines are too few, and no other follows
  no_section : {fault : LineFault} (j : Job) (ds : List Section) (rest : List ℕ) → HeadLines file j ds rest
      → length ds ≤ j.threads → NoLine section_lines SectionFits rest fault
      → NoHead file (Line fault) (length ds + 2)
  -- all D lines are there, those before d lie one after another, and d does not follow them
  out_of_order : (j : Job) (before : List Section) (d : Section) (later : List Section) (rest : List ℕ)
      (start : ℕ) → HeadLines file j (before ++ (d ∷ later)) rest
      → length (before ++ (d ∷ later)) ≡ j.threads + 1
      → Tiles (length file - length rest) before start → start ≤ length file
      → LiesWrong start d later (length file) → NoHead file Sections (length before + 2)

-- the head is refused exactly for what is wrong with it
abbrev pub RefusesHead : List ℕ → Result Heading (Refusal FileFault) → Type 0
RefusesHead file r = (fault : FileFault) (line : ℕ)
    → (r ≡ Err (record { fault = fault; section = 0; line = line }) → NoHead file fault line)
    × (NoHead file fault line → r ≡ Err (record { fault = fault; section = 0; line = line }))
