use Rattle.std.proofs.Common.{◌≡◌, rules}
use Rattle.stores.specs.declared.view.View.{View}
use Rattle.stores.specs.Views.{single}
use Rattle.stores.proofs.ViewLaws.{is_single, single_law}
use Rattle.stores.proofs.view.View.single.Goals as goal

pub returns : goal.returns
returns c =
    let made = c.from_fn.ensures.items in
    let long = made.long in
    let r : View = record { ends = c.from_fn.result } in
    let e : r ≡ single c.args.location c.args.end = is_single c.args.location c.args.end r made.long (λ x h. let k = (made.at x 0 h).2 in search rules) in
    record { value = e; places = single_law _ _ _ e }
