use Rattle.std.proofs.Common.{◌≡◌, ◌+◌, ap, ◌∙◌, subst, sym}
use Rattle.bounded.specs.Bounds.{insert_within}
use Rattle.rowstore.specs.Entries.{before, WellFormed}
use Rattle.rowstore.proofs.Placed.{inserted, formed_placed}
use Rattle.rowstore.proofs.row.Row.insert.Goals as goal

pub returns : goal.returns
returns c =
    let w = c.args.self.now in
    let e = c.args.entry in
    let at_place : c.before-place.result ≡ before (e.span.to + 1) w = c.before-place.ensures.value ∙ ap (λ n. before (n + 1) w) c.from.ensures in
    c.insert.ensures.after ∙ ap (λ es. insert_within 64 es c.before-place.result e) c.self.view_is ∙ inserted w c.before-place.result e c.requires at_place

pub invariant_of-self : goal.invariant_of-self
invariant_of-self c =
    let w = c.args.self.now in
    subst WellFormed (sym (returns c)) (formed_placed w c.args.entry c.requires (subst WellFormed c.self.view_is c.self.invariant))
