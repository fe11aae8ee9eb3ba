use Rattle.std.proofs.Common.{ℕ, ◌-◌, eqb, refl, ◌∙◌, arith, rules, tests}
use Rattle.std.proofs.lemmas.Iterator.{YieldsList-from_range}
use Rattle.std.proofs.lemmas.Iterator.Search.{any_from_yields_List}
use Rattle.stores.specs.declared.message.Message.{Message}
use Rattle.run.proofs.Marks.{Between, passes_at, some_marked}
use Rattle.run.proofs.parts.Owed.owes_at.Goals as goal

pub returns : goal.returns
returns g c =
    let bs = c.args.self.now.marks in
    let ms = g.S.Store.held c.args.store.now in
    let fits = g.met.S.Store.bounded c.args.store.now in
    let few = g.met.S.Store.small c.args.store.now in
    let here = λ (m : Message). eqb m.location c.args.location in
    let marks = c.args.self.now in
    let n : ℕ = c.min.result - marks.from in
    let within : Between 0 marks.from n bs ms = (
      λ k l. marks.before k (omega arith),
      λ k l i. marks.past k (omega arith),
    ) in
    any_from_yields_List (passes_at here bs ms) _ _ _ c.any.ensures.ran (YieldsList-from_range marks.from c.min.result n refl refl) (λ x b q k. search (rules, tests))
    ∙ some_marked here bs ms (omega arith) marks.from n (omega arith) within
