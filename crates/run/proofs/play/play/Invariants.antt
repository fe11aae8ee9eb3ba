use Rattle.std.proofs.Common.{◌≡◌, ℕ, List, take}
use Rattle.lines.specs.declared.trace.Line.{Line}
use Rattle.rules.specs.Models.{Run}
use Rattle.rules.specs.Rules.{played, accepted_count}
use Rattle.run.specs.Models.{run_of}
use Rattle.run.proofs.play.play.Given as goal

-- the run and the number of accepted lines are those of the lines so far
pub record SoFar (first now : Run) (lines : List Line) (accepted : ℕ) : Type 0 where
  pub run : now ≡ played first lines
  pub many : accepted ≡ accepted_count first lines

abbrev pub invariant-loop-line : goal.invariant-loop-line
invariant-loop-line g l =
    SoFar (run_of g.L.Language g.S.Store l.initial.run) (run_of g.L.Language g.S.Store l.run) (take l.line-index l.lines) l.accepted
