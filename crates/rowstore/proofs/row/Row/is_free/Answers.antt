use Rattle.std.proofs.Common.{◌≡◌, ◌+◌, ◌&&◌, not, eqb, ltb, drop, ap, ◌∙◌, subst, rules, tests}
use Rattle.std.specs.List.{list_any}
use Rattle.std.proofs.lemmas.Iterator.{YieldsList-from_slice}
use Rattle.std.proofs.lemmas.Iterator.Search.{any_from_yields_List}
use Rattle.std.proofs.lemmas.List.{take_rest}
use Rattle.rowstore.specs.declared.entry.Entry.{Entry}
use Rattle.rowstore.specs.Entries.{before, InOrder}
use Rattle.rowstore.proofs.Ups.{up_from_order}
use Rattle.rowstore.proofs.Fronts.{clear_past}
use Rattle.rowstore.proofs.row.Row.is_free.Goals as goal

pub returns : goal.returns
returns c =
    let w = c.args.self.now in
    let x = c.args.location in
    let s = c.args.span in
    let n = c.before-start.result in
    let at_front : n ≡ before (s.from + 1) w = c.before-start.ensures.value ∙ ap (λ k. before (k + 1) w) c.from.ensures in
    let rest = take_rest c.as_slice.result.now n ∙ ap (drop n) (c.as_slice.ensures.value ∙ c.self.view_is) in
    let chain : c.any.result ≡ list_any (λ (e : Entry). eqb e.location x && ltb e.span.from s.to) (drop n w) =
    any_from_yields_List (λ (e : Entry). eqb e.location x && ltb e.span.from s.to) c.any.new.self _ c.any.result c.any.ensures.ran (YieldsList-from_slice (drop n w) (c.iter.ensures.rest ∙ rest)) (λ x b q k. search (rules, tests)) in
    ap not chain ∙ clear_past x s w (up_from_order w (subst InOrder c.self.view_is c.self.invariant.order)) n at_front
