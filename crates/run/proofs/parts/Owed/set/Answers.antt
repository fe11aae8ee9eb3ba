use Rattle.std.proofs.Common.{◌≡◌, ◌+◌, ◌-◌, slice_index_or, slice_set, sym, ◌∙◌, arith, rules, false}
use Rattle.std.specs.List.{count_by}
use Rattle.std.proofs.lemmas.Grind.{common_steps}
use Rattle.run.proofs.Marks.{uncounted}
use Rattle.run.proofs.parts.Owed.set.Goals as goal

-- where the last mark is cleared none is left
pub invariant_of-self-then-self-eq0 : goal.invariant_of-self-then-self-eq0
invariant_of-self-then-self-eq0 c =
    let s = c.args.self.now in
    let counted : s.count - mir.Val.bool_byte (slice_index_or s.marks c.args.k false) + mir.Val.bool_byte c.args.owed ≡ count_by (λ b. b) (slice_set s.marks c.args.k c.args.owed) =
    grind (arith, common_steps) in
    let none = uncounted _ (sym counted ∙ c.if-self-eq0.true) in
    record { whole = search rules; counted = counted; before = λ k l. none k; past = λ k l. none k }
