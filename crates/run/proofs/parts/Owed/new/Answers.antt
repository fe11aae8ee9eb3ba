use Rattle.std.proofs.Common.{false, replicate, refl}
use Rattle.run.proofs.Marks.{uncounted}
use Rattle.run.proofs.parts.Owed.new.Goals as goal

pub invariant_of-result : goal.invariant_of-result
invariant_of-result c =
    let none = uncounted (replicate 64 false) refl in
    record { whole = refl; counted = refl; before = λ k l. none k; past = λ k l. none k }
