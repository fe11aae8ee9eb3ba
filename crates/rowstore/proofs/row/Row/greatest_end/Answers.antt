use Rattle.std.proofs.Common.{◌≡◌, eqb, reverse, ap, ◌∙◌, subst, rules, tests}
use Rattle.std.specs.List.{find}
use Rattle.std.specs.Option.{option_map, option_map_or}
use Rattle.std.proofs.lemmas.Iterator.Adapters.{YieldsList-from_rev_slice}
use Rattle.std.proofs.lemmas.Iterator.Search.{find_from_yields_List}
use Rattle.rowstore.specs.declared.entry.Entry.{Entry}
use Rattle.rowstore.specs.Entries.{InOrder}
use Rattle.rowstore.proofs.Ups.{up_from_order}
use Rattle.rowstore.proofs.Fronts.{last_end_found}
use Rattle.rowstore.proofs.row.Row.greatest_end.Goals as goal

pub returns : goal.returns
returns c =
    let w = c.args.self.now in
    let x = c.args.location in
    let chain : option_map (λ y. y.now) c.find.result ≡ find (λ (e : Entry). eqb e.location x) (reverse w) =
    find_from_yields_List (λ (e : Entry). eqb e.location x) c.find.new.self _ c.find.result c.find.ensures.ran (YieldsList-from_rev_slice w (cc)) (λ x b q k. search (rules, tests)) in
    let mapped : c.map_or.result ≡ option_map_or (λ (e : Entry). e.span.to) (option_map (λ y. y.now) c.find.result) 0 = search (rules, tests) in
    mapped ∙ ap (λ o. option_map_or (λ (e : Entry). e.span.to) o 0) chain ∙ last_end_found x w (up_from_order w (subst InOrder c.self.view_is c.self.invariant.order))
