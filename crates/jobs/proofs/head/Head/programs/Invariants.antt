use Rattle.std.proofs.Common.{◌≡◌, ◌+◌, [], map, length, take, drop}
use Rattle.languages.specs.Programs.{program_lines}
use Rattle.jobs.specs.Programs.{programs_after}
use Rattle.jobs.proofs.head.Head.programs.Given as goal

abbrev pub invariant-loop-i : goal.invariant-loop-i
invariant-loop-i g l =
    (length l.programs ≡ 4) × (programs_after (g.I.ProgramLine.reads l.self.job.scope.locations) l.file (l.i + 1) (map program_lines (take l.i l.programs)) (drop l.i l.section-items) ≡ programs_after (g.I.ProgramLine.reads l.self.job.scope.locations) l.file 1 [] l.section-items)
