-- The chosen elements at the front of a list stay where they are.
use Rattle.std.proofs.Common.{◌≡◌, ℕ, suc, ◌+◌, Bool, List, [], ◌∷◌, take, sym, refl, ap, ◌∙◌, inl, inr, arith}
use Rattle.std.specs.List.{filter, prefix_len}
use Rattle.std.proofs.lemmas.Bool.{cases_Bool, cond-true, cond-false}
use Rattle.std.proofs.lemmas.List.Sums.{prefix_len-le-length}
use Rattle.std.proofs.lemmas.List.Filters.{FiltersInPlace}

module _ {X : Type 0} (p : X → Bool) where
  filter_front : (xs : List X) → take (prefix_len p xs) xs ≡ filter p (take (prefix_len p xs) xs)
  filter_front [] = refl
  filter_front (x ∷ xs) = elim (cases_Bool (p x)) [
    | inl y ↦
        let more : prefix_len p (x ∷ xs) ≡ suc (prefix_len p xs) = let f = cond-true (p x) (1 + prefix_len p xs) 0 y in omega arith in
        rw more (ap (λ (l : List X). x ∷ l) (filter_front xs) ∙ sym (cond-true (p x) _ _ y))
    | inr n ↦ rw (cond-false (p x) (1 + prefix_len p xs) 0 n)
  ]

  pub front_stays : (xs : List X) (n : ℕ) → n ≡ prefix_len p xs → FiltersInPlace p xs xs n n
  front_stays xs n is =
      let within = prefix_len-le-length p xs in
      record { front = rw is (filter_front xs); rest = refl; behind = omega arith; within = omega arith; long = refl }
