use Rattle.std.proofs.Common.{◌≡◌, max, drop}
use Rattle.stores.specs.Memory.{greatest_end}
use Rattle.stores.proofs.flat.FlatStore.greatest_end.Given as goal

abbrev pub invariant-loop-m : goal.invariant-loop-m
invariant-loop-m l = max l.end (greatest_end l.location (drop l.m-index l.m-items)) ≡ greatest_end l.location l.m-items
