use Rattle.std.proofs.Common.{◌≡◌, drop}
use Rattle.stores.specs.Memory.{overlap_from}
use Rattle.stores.proofs.flat.Flat.first_overlap.Given as goal

abbrev pub invariant-loop-k : goal.invariant-loop-k
invariant-loop-k l = overlap_from l.k l.location l.span (drop l.k l.m-items) ≡ overlap_from 0 l.location l.span l.m-items
