use Rattle.std.proofs.lemmas.List.Filters.{FiltersInPlace}
use Rattle.bounded.proofs.to_front.Given as goal

abbrev pub invariant-loop-k : goal.invariant-loop-k
invariant-loop-k g l = FiltersInPlace (g.C.Choice.chooses l.choice) l.initial.elements l.elements l.kept l.k
