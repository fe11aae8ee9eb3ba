use Rattle.std.proofs.Common.{◌≡◌, ◌∷◌}
use Rattle.rules.specs.Models.{thread_at}
use Rattle.run.specs.Models.{run_of}
use Rattle.judge.specs.Reports.{first_ends}
use Rattle.judge.proofs.Lengths.{Narrow}
use Rattle.judge.proofs.account.view_numbers.Given as goal

abbrev pub invariant-loop-x : goal.invariant-loop-x
invariant-loop-x g l =
    let r = run_of g.L.Language g.S.Store l.run in
    (l.numbers ≡ l.thread ∷ first_ends l.x (thread_at r l.thread).views.cur) × Narrow l.numbers
