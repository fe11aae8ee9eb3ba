-- One element more in the front of an array.
use Rattle.std.proofs.Common.{◌≡◌, ℕ, ◌+◌, ◌-◌, ◌<◌, ◌≤◌, min, List, [], ◌∷◌, ◌++◌, length, get_or, take, drop, set, sym, ap, inl, inr, ◌∙◌, subst, append_assoc, arith, length-drop, length-take}
use lib.Seq.{paste, take-paste, take-set-lt}
use Rattle.std.proofs.lemmas.List.{take_more, take-take, take_min, drop_all, set_at, length-take-le}
use Rattle.std.proofs.lemmas.Bool.{cond-true, lt-ltb, cases_lt}
use Rattle.bounded.specs.Bounds.{insert_within}
use Rattle.std.proofs.lemmas.Slice.{between_is}

-- those from place k on of the first n move up by one, and x goes to place k
pub opened : {A : Type 0} (xs : List A) (n k : ℕ) (x : A) → k ≤ n → n < length xs → take (n + 1) (set (paste xs (k + 1) (drop k xs) (n - k)) k x) ≡ take k (take n xs) ++ x ∷ drop k (take n xs)
opened xs n k x far room =
    let m = n - k in
    let moved = drop k xs in
    let sum : n + 1 ≡ k + 1 + m = omega arith in
    let front : take (n + 1) (paste xs (k + 1) moved m) ≡ take (k + 1) xs ++ take m moved =
    ap (λ j. take j (paste xs (k + 1) moved m)) sum ∙ take-paste xs (k + 1) moved m (omega arith) (let l = length-drop k xs in omega arith) in
    let first : take (k + 1) xs ++ take m moved ≡ take k xs ++ get_or xs k x ∷ take m moved =
    ap (λ l. l ++ take m moved) (take_more xs k x (omega arith)) ∙ append_assoc (take k xs) (get_or xs k x ∷ []) (take m moved) in
    take-set-lt (n + 1) (paste xs (k + 1) moved m) k x (omega arith) ∙ ap (λ l. set l k x) (front ∙ first) ∙ set_at (take k xs) (get_or xs k x) (take m moved) x k (let l = length-take k xs in omega arith) ∙ ap (λ l. l ++ x ∷ take m moved) (sym (take-take k n xs far)) ∙ ap (λ l. take k (take n xs) ++ x ∷ l) (between_is xs k n)

-- a place past the end is the end
clamped : {A : Type 0} (xs : List A) (k : ℕ) (x : A) → take (min k (length xs)) xs ++ x ∷ drop (min k (length xs)) xs ≡ take k xs ++ x ∷ drop k xs
clamped xs k x = elim (cases_lt k (length xs)) [
  | inl l ↦ let e : min k (length xs) ≡ k = omega arith in ap (λ j. take j xs ++ x ∷ drop j xs) e
  | inr g ↦
      ap (λ l. l ++ x ∷ drop (min k (length xs)) xs) (take_min k xs) ∙ ap (λ l. take k xs ++ x ∷ l) (drop_all (min k (length xs)) xs (omega arith) ∙ sym (drop_all k xs g))
]

pub one_more : {A : Type 0} (xs : List A) (n k : ℕ) (x : A) (most : ℕ) → n < length xs → n < most → take (n + 1) (set (paste xs (min k n + 1) (drop (min k n) xs) (n - min k n)) (min k n) x) ≡ insert_within most (take n xs) k x
one_more xs n k x most room few =
    let l : length (take n xs) ≡ n = length-take-le n xs (omega arith) in
    let there = opened xs n (min k n) x (omega arith) room in
    let at_end : take (min k n) (take n xs) ++ x ∷ drop (min k n) (take n xs) ≡ take k (take n xs) ++ x ∷ drop k (take n xs) = subst (λ j. take (min k j) (take n xs) ++ x ∷ drop (min k j) (take n xs) ≡ take k (take n xs) ++ x ∷ drop k (take n xs)) l (clamped (take n xs) k x) in
    there ∙ at_end ∙ sym (cond-true _ _ _ (lt-ltb (length (take n xs)) most (omega arith)))
