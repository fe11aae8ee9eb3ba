use Rattle.std.proofs.Common.{◌≡◌, drop}
use Rattle.stores.specs.Memory.{find_from}
use Rattle.stores.proofs.flat.FlatStore.find.Given as goal

abbrev pub invariant-loop-k : goal.invariant-loop-k
invariant-loop-k l = find_from l.k l.location l.end (drop l.k l.m-items) ≡ find_from 0 l.location l.end l.m-items
