use Rattle.std.proofs.Common.{◌≡◌}
use Rattle.rules.specs.Rules.{initials}
use Rattle.run.proofs.making.fill.Given as goal

abbrev pub invariant-loop-x : goal.invariant-loop-x
invariant-loop-x g l = (g.S.Store.held l.store ≡ initials l.x) × (g.S.Store.capacity l.store ≡ g.S.Store.capacity l.initial.store)
