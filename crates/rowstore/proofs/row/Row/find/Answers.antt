use Rattle.std.proofs.Common.{◌≡◌, eqb, take, drop, ap, ◌∙◌, subst, rules, tests}
use Rattle.std.specs.List.{find, prefix_len}
use Rattle.std.specs.Option.{option_map}
use Rattle.std.proofs.lemmas.Iterator.{YieldsList-from_slice}
use Rattle.std.proofs.lemmas.Iterator.Consumers.{YieldsList-at}
use Rattle.std.proofs.lemmas.Iterator.Search.{find_from_yields_List, YieldsList-from_take_while}
use Rattle.std.proofs.lemmas.List.{take_rest}
use Rattle.rowstore.specs.declared.entry.Entry.{Entry}
use Rattle.rowstore.specs.Entries.{before, InOrder}
use Rattle.rowstore.proofs.Ups.{up_from_order}
use Rattle.rowstore.proofs.Fronts.{number_found}
use Rattle.rowstore.proofs.row.Row.find.Goals as goal

pub returns : goal.returns
returns c =
    let w = c.args.self.now in
    let x = c.args.location in
    let t = c.args.end in
    let n = c.before-start.result in
    let at_front : n ≡ before t w = c.before-start.ensures.value ∙ ap (λ k. before k w) c.from.ensures in
    let rest = take_rest c.as_slice.result.now n ∙ ap (drop n) (c.as_slice.ensures.value ∙ c.self.view_is) in
    let chain : option_map (λ y. y.now) c.find.result ≡ find (λ (a : Entry). eqb a.location x) (take (prefix_len (λ (a : Entry). eqb a.span.to t) (drop n w)) (drop n w)) =
    find_from_yields_List (λ (a : Entry). eqb a.location x) c.find.new.self _ c.find.result c.find.ensures.ran (YieldsList-from_take_while _ (λ (a : Entry). eqb a.span.to t) (YieldsList-at c.take_while.ensures.source (YieldsList-from_slice (drop n w) (c.iter.ensures.rest ∙ rest))) c.take_while.ensures.closure c.take_while.ensures.done (λ x b q k. search (rules, tests))) (λ x b q k. search (rules, tests)) in
    let mapped : c.map.result ≡ option_map (λ (a : Entry). a.number) (option_map (λ y. y.now) c.find.result) = search (rules, tests) in
    mapped ∙ ap (option_map (λ (a : Entry). a.number)) chain ∙ number_found x t w (up_from_order w (subst InOrder c.self.view_is c.self.invariant.order)) n at_front
