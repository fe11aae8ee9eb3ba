-- Texts added to a text, one after another.
use Rattle.std.proofs.Common.{◌≡◌, ℕ, zero, suc, ◌+◌, ◌*◌, ◌<◌, ◌≤◌, List, [], ◌∷◌, ◌++◌, length, get_or, take, sym, refl, ap, ◌∙◌, inl, inr, append_assoc, arith, length-append, add-zero, zero-add, mul-add}
use Rattle.std.proofs.lemmas.List.{append-nil, take_all, take_more, take-append-le, length-take-le}
use Rattle.std.proofs.lemmas.Bool.{cond-true, cond-false, lt-ltb, le-ltb, cases_lt}
use Rattle.bounded.specs.Bounds.{push_within}
use Rattle.jobs.specs.Texts.{most_text, added, texts}

-- one byte more, where there is room for it
pub added_one : (t : List ℕ) (b : ℕ) → length t ≤ most_text → push_within most_text t b ≡ added t (b ∷ [])
added_one t b few = elim (cases_lt (length t) most_text) [
  | inl l ↦ cond-true _ _ _ (lt-ltb (length t) most_text l) ∙ sym (take_all most_text (t ++ b ∷ []) (let a = length-append t (b ∷ []) in omega arith))
  | inr g ↦ cond-false _ _ _ (le-ltb (length t) most_text g) ∙ sym (take-append-le most_text t (b ∷ []) (omega arith) ∙ take_all most_text t few)
]

pub added_none : (t : List ℕ) → length t ≤ most_text → t ≡ added t []
added_none t few = sym (ap (take most_text) (append-nil t) ∙ take_all most_text t few)

-- the front of a text and another one is the front of the front and the other one
front_of : {A : Type 0} (n : ℕ) (xs ys : List A) → take n (take n xs ++ ys) ≡ take n (xs ++ ys)
front_of zero xs ys = refl
front_of (suc n) [] ys = refl
front_of (suc n) (x ∷ xs) ys = ap (λ l. x ∷ l) (front_of n xs ys)

-- a text after a text
pub added_two : (t a b : List ℕ) → added (added t a) b ≡ added t (a ++ b)
added_two t a b = front_of most_text (t ++ a) b ∙ ap (take most_text) (append_assoc t a b)

pub added_fits : (t a : List ℕ) → length t + length a ≤ most_text → added t a ≡ t ++ a
added_fits t a h = take_all most_text (t ++ a) (omega (arith, length-append t a))

-- where what is left of a text was added, all of it was
pub added_then : (t u v a b : List ℕ) → u ≡ added t a → v ≡ added u b → v ≡ added t (a ++ b)
added_then t u v a b e f = f ∙ ap (λ x. added x b) e ∙ added_two t a b

-- the texts of the elements of a list, one after another
module _ {A : Type 0} (text : ℕ → A → List ℕ) where
  texts_push : (k : ℕ) (xs : List A) (a : A) → texts text k (xs ++ (a ∷ [])) ≡ texts text k xs ++ text (k + length xs) a
  texts_push k [] a = append-nil (text k a) ∙ ap (λ n. text n a) (sym (add-zero k))
  texts_push k (x ∷ xs) a =
      let far : k + 1 + length xs ≡ k + length (x ∷ xs) = omega arith in
      ap (λ ts. text k x ++ ts) (texts_push (k + 1) xs a) ∙ sym (append_assoc (text k x) (texts text (k + 1) xs) (text (k + 1 + length xs) a))
      ∙ ap (λ n. (text k x ++ texts text (k + 1) xs) ++ text n a) far

  texts_more : (xs : List A) (i : ℕ) (d : A) → i < length xs → texts text 0 (take (i + 1) xs) ≡ texts text 0 (take i xs) ++ text i (get_or xs i d)
  texts_more xs i d h =
      let n : 0 + length (take i xs) ≡ i = zero-add (length (take i xs)) ∙ length-take-le i xs (omega arith) in
      ap (texts text 0) (take_more xs i d h) ∙ texts_push 0 (take i xs) (get_or xs i d) ∙ ap (λ k. texts text 0 (take i xs) ++ text k (get_or xs i d)) n

  -- the first i texts were added to t, each of at most w bytes
  pub record Added (xs : List A) (w : ℕ) (t : List ℕ) (i : ℕ) (now : List ℕ) : Type 0 where
    pub is : now ≡ added t (texts text 0 (take i xs))
    pub short : length (texts text 0 (take i xs)) ≤ w * i

  pub none_yet : (xs : List A) (w : ℕ) (t : List ℕ) → length t ≤ most_text → Added xs w t 0 t
  none_yet xs w t few = record { is = added_none t few; short = omega arith }

  module _ (xs : List A) (w : ℕ) (t : List ℕ) (i : ℕ) (now : List ℕ) (h : Added xs w t i now) where
    pub one_more : (d : A) (next : List ℕ) → i < length xs → length (text i (get_or xs i d)) ≤ w → next ≡ added now (text i (get_or xs i d)) → Added xs w t (i + 1) next
    one_more d next lt narrow e =
        let more = texts_more xs i d lt in
        let l : length (texts text 0 (take (i + 1) xs)) ≡ length (texts text 0 (take i xs)) + length (text i (get_or xs i d)) = ap length more ∙ length-append (texts text 0 (take i xs)) (text i (get_or xs i d)) in
        let wide : w * (i + 1) ≡ w * i + w * 1 = mul-add w i 1 in
        let s = h.short in
        record { is = added_then t now next _ _ h.is e ∙ ap (added t) (sym more); short = omega arith }

    pub all_there : length xs ≤ i → (now ≡ added t (texts text 0 xs)) × (length (texts text 0 xs) ≤ w * i)
    all_there le = let e = take_all i xs le in (rw (sym e) h.is, rw (sym e) h.short)
