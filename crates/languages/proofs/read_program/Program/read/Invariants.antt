use Rattle.std.proofs.Common.{◌≡◌, ◌+◌, length}
use Rattle.lines.specs.Walks.{walk}
use Rattle.languages.specs.Programs.{program}
use Rattle.languages.proofs.ProgramSteps.{program_step}
use Rattle.languages.proofs.read_program.Program.read.Given as goal

abbrev pub invariant-loop-reader : goal.invariant-loop-reader
invariant-loop-reader g l =
    walk (program_step (g.I.ProgramLine.reads l.scope.locations)) (length l.reader.rest.now) l.lines (length l.lines + 1) l.reader.rest.now ≡ program (g.I.ProgramLine.reads l.scope.locations) l.section

abbrev pub decreases-loop-reader : goal.decreases-loop-reader
decreases-loop-reader g l = length l.reader.rest.now
