-- Owed messages, as they are found by their numbers and by the marks beside them.
use Rattle.std.proofs.Common.{◌≡◌, ℕ, zero, suc, ◌+◌, ◌-◌, ◌<◌, ◌≤◌, Bool, true, false, cond, ◌&&◌, List, [], ◌∷◌, length, get_or, zip, Some, None, sym, refl, ap, ◌∙◌, inl, inr, arith}
use Rattle.std.specs.List.{range_with_len, find, list_any, position_from, count_by}
use Rattle.std.proofs.lemmas.List.Sums.{sum_by-cons}
use Rattle.std.specs.Option.{is_some}
use Rattle.std.proofs.lemmas.Bool.{true≢false, cases_lt}
use Rattle.stores.specs.declared.message.Message.{Message}
use Rattle.stores.specs.Memory.{zero_message}

-- where no mark is counted none is set
pub uncounted : (bs : List Bool) → count_by (λ b. b) bs ≡ 0 → (k : ℕ) → get_or bs k false ≡ false
uncounted [] e k = refl
uncounted (true ∷ bs) e k = absurd (omega (arith, sum_by-cons (λ (b : Bool). cond b 1 0) true bs))
uncounted (false ∷ bs) e zero = refl
uncounted (false ∷ bs) e (suc k) = uncounted bs (omega (arith, sum_by-cons (λ (b : Bool). cond b 1 0) false bs)) k

any_found : {A : Type 0} (p : A → Bool) (xs : List A) → list_any p xs ≡ is_some (find p xs)
any_found p [] = refl
any_found p (x ∷ xs) = by_first (p x) (any_found p xs)
  where
    by_first : (b : Bool) → list_any p xs ≡ is_some (find p xs) → list_any p (x ∷ xs) ≡ is_some (find p (x ∷ xs))
    by_first b e = grind arith

-- where a message is marked, its number is one of the n from s on
abbrev pub Between : ℕ → ℕ → ℕ → List Bool → List Message → Type 0
Between a s n bs ms = ((k : ℕ) → a + k < s → get_or bs k false ≡ false) × ((k : ℕ) → s + n ≤ a + k → k < length ms → get_or bs k false ≡ false)

module _ (test : Message → Bool) where
  -- message k is marked and passes the test
  abbrev pub passes_at : List Bool → List Message → ℕ → Bool
  passes_at bs ms k = get_or bs k false && test (get_or ms k zero_message)

  -- h is that, for the numbers from a on
  abbrev pub Passes : (ℕ → Bool) → ℕ → List Bool → List Message → Type 0
  Passes h a bs ms = (k : ℕ) → h (a + k) ≡ passes_at bs ms k

  first_passes : (h : ℕ → Bool) (a : ℕ) (b : Bool) (bs : List Bool) (m : Message) (ms : List Message) → Passes h a (b ∷ bs) (m ∷ ms) → h a ≡ (b && test m)
  first_passes h a b bs m ms p = let e : a ≡ a + 0 = omega arith in ap h e ∙ p 0

  rest_passes : (h : ℕ → Bool) (a : ℕ) (b : Bool) (bs : List Bool) (m : Message) (ms : List Message) → Passes h a (b ∷ bs) (m ∷ ms) → Passes h (a + 1) bs ms
  rest_passes h a b bs m ms p k = let e : a + 1 + k ≡ a + suc k = omega arith in ap h e ∙ p (suc k)

  none_first : (a : ℕ) (bs : List Bool) (ms : List Message) → ((k : ℕ) → k < length ms → get_or bs k false ≡ false)
      → None ≡ position_from (λ p. p.0 && test p.1) a (zip bs ms)
  none_first a [] ms h = refl
  none_first a (b ∷ bs) [] h = refl
  none_first a (true ∷ bs) (m ∷ ms) h = absurd (true≢false (h 0 (omega arith)))
  none_first a (false ∷ bs) (m ∷ ms) h = none_first (a + 1) bs ms (λ k l. h (suc k) (omega arith))

  first_from : (h : ℕ → Bool) (a s n : ℕ) (bs : List Bool) (ms : List Message) → length ms ≤ length bs → a ≤ s → n ≤ a + length ms - s → Passes h a bs ms
      → Between a s n bs ms → find h (range_with_len s n) ≡ position_from (λ p. p.0 && test p.1) a (zip bs ms)
  first_from h a s zero bs ms l o f p w = none_first a bs ms (λ k i. elim (cases_lt (a + k) s) [ inl q ↦ w.0 k q | inr q ↦ w.1 k (omega arith) i ])
  first_from h a s (suc n) [] ms l o f p w = absurd (omega arith)
  first_from h a s (suc n) (b ∷ bs) [] l o f p w = absurd (omega arith)
  first_from h a s (suc n) (b ∷ bs) (m ∷ ms) l o f p w =
      let rest = rest_passes h a b bs m ms p in
      let here = first_passes h a b bs m ms p in
      elim (cases_lt a s) [
        | inl q ↦
            let unset : b ≡ false = w.0 0 (omega arith) in
            first_from h (a + 1) s (suc n) bs ms (omega arith) (omega arith) (omega arith) rest
            (λ k i. w.0 (suc k) (omega arith), λ k i j. w.1 (suc k) (omega arith) (omega arith))
            ∙ ap (λ (c : Bool). cond (c && test m) (Some a) (position_from (λ p. p.0 && test p.1) (a + 1) (zip bs ms))) (sym unset)
        | inr q ↦
            let same : s ≡ a = omega arith in
            ap (λ (t : ℕ). find h (range_with_len t (suc n))) same
            ∙ ap (λ (c : Bool). cond c (Some a) (find h (range_with_len (a + 1) n))) here
            ∙ ap (cond (b && test m) (Some a))
            (first_from h (a + 1) (a + 1) n bs ms (omega arith) (omega arith) (omega arith) rest
            (λ k i. w.0 (suc k) (omega arith), λ k i j. w.1 (suc k) (omega arith) (omega arith)))
      ]

  module _ (bs : List Bool) (ms : List Message) (few : length ms ≤ length bs) (s n : ℕ) (f : n ≤ length ms - s) (w : Between 0 s n bs ms) where
    pub first_marked : find (passes_at bs ms) (range_with_len s n) ≡ position_from (λ p. p.0 && test p.1) 0 (zip bs ms)
    first_marked = first_from (passes_at bs ms) 0 s n bs ms few (omega arith) (omega arith) (λ k. let e : 0 + k ≡ k = omega arith in ap (passes_at bs ms) e) w

    pub some_marked : list_any (passes_at bs ms) (range_with_len s n) ≡ list_any (λ p. p.0 && test p.1) (zip bs ms)
    some_marked = any_found (passes_at bs ms) (range_with_len s n) ∙ ap is_some first_marked ∙ sym (any_position 0 (zip bs ms))
      where
        any_position : (a : ℕ) (ps : List (Bool × Message)) → list_any (λ p. p.0 && test p.1) ps ≡ is_some (position_from (λ p. p.0 && test p.1) a ps)
        any_position a [] = refl
        any_position a (p ∷ ps) = let e = any_position (a + 1) ps in grind arith
