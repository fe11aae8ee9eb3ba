-- The elements of a list that grows no more.
use Rattle.std.specs.Prelude.{ℕ, List, take}
use Rattle.bounded.specs.declared.fixed.Fixed.{Fixed}

abbrev pub elements : {T : Type 0} {N : ℕ} → Fixed T N → List T
elements f = take f.len f.slots
