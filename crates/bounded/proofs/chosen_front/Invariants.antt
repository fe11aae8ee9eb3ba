use Rattle.std.proofs.Common.{◌≡◌, ◌+◌, drop}
use Rattle.std.specs.List.{prefix_len}
use Rattle.bounded.proofs.chosen_front.Given as goal

abbrev pub invariant-loop-k : goal.invariant-loop-k
invariant-loop-k g l = l.k + prefix_len (g.C.Choice.chooses l.choice) (drop l.k l.elements) ≡ prefix_len (g.C.Choice.chooses l.choice) l.elements
