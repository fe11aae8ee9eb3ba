use Rattle.std.proofs.Common.{◌≡◌, ℕ, List, ap, arith, rules}
use Rattle.stores.specs.declared.view.View.{View}
use Rattle.stores.specs.Views.{join}
use Rattle.stores.proofs.ViewLaws.{is_greater, join_places, join_law}
use Rattle.stores.proofs.view.View.join.Goals as goal

pub returns : goal.returns
returns c =
    let a = c.args.self in
    let b = c.args.other in
    let made = c.from_fn.ensures.items in
    let long = made.long in
    let r : View = record { ends = c.from_fn.result } in
    let e : r ≡ join a b =
    ap (λ (l : List ℕ). record { ends = l }) (is_greater c.from_fn.result a.ends b.ends (omega arith) (omega arith) (omega arith) (λ x h. let k = (made.at x 0 h).2 in search rules)) in
    record { value = e; places = join_places a b r e; bound = join_law a b r e }
