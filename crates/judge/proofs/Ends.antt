-- The ends of a view in a report.
use Rattle.std.proofs.Common.{◌≡◌, ℕ, zero, suc, ◌≤◌, ◌<◌, ◌∷◌, length, refl, arith}
use Rattle.std.proofs.lemmas.List.{length_push}
use Rattle.stores.specs.declared.view.View.{View}
use Rattle.stores.specs.Views.{at}
use Rattle.judge.specs.Reports.{first_ends, view_line}
use Rattle.judge.proofs.Lengths.{Narrow, digit_and_fives}

pub ends_length : (l : ℕ) (v : View) → length (first_ends l v) ≡ l
ends_length zero v = refl
ends_length (suc l) v = let a = length_push (first_ends l v) (at v l) in let b = ends_length l v in omega arith

pub view_short : (l i : ℕ) (v : View) → l ≤ 8 → i < 4 → Narrow (i ∷ first_ends l v) → length (view_line l i v) ≤ 52
view_short l i v few small h =
    let a = digit_and_fives i (first_ends l v) (omega arith) h in
    let b = ends_length l v in
    omega arith
