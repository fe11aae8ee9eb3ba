use Rattle.std.proofs.Common.{◌≡◌, ℕ, ◌-◌, Some, None, Option, sym, refl, ◌∙◌, arith, rules, tests}
use Rattle.std.specs.Option.{option_map}
use Rattle.std.proofs.lemmas.Iterator.{YieldsList-from_range}
use Rattle.std.proofs.lemmas.Iterator.Search.{find_from_yields_List}
use Rattle.stores.specs.Memory.{ends_at}
use Rattle.run.proofs.Marks.{Between, passes_at, first_marked}
use Rattle.run.proofs.parts.Owed.find.Goals as goal

same : (r : Option ℕ) → option_map (λ n. n) r ≡ r
same None = refl
same (Some n) = refl

pub returns : goal.returns
returns g c =
    let bs = c.args.self.now.marks in
    let ms = g.S.Store.held c.args.store.now in
    let fits = g.met.S.Store.bounded c.args.store.now in
    let few = g.met.S.Store.small c.args.store.now in
    let here = ends_at c.args.location c.args.end in
    let marks = c.args.self.now in
    let n : ℕ = c.min.result - marks.from in
    let within : Between 0 marks.from n bs ms = (
      λ k l. marks.before k (omega arith),
      λ k l i. marks.past k (omega arith),
    ) in
    sym (same c.find.result)
    ∙ find_from_yields_List (passes_at here bs ms) _ _ c.find.result c.find.ensures.ran (YieldsList-from_range marks.from c.min.result n refl refl) (λ x b q k. search (rules, tests))
    ∙ first_marked here bs ms (omega arith) marks.from n (omega arith) within
