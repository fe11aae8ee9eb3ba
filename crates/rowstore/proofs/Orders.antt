-- The rows of a list of messages answer as the list does.
use Rattle.std.proofs.Common.{◌≡◌, ℕ, zero, suc, ◌+◌, ◌<◌, ◌≤◌, max, Bool, true, false, cond, not, ◌&&◌, eqb, List, [], ◌∷◌, ◌++◌, length, take, drop, Some, None, Option, sym, refl, ap, ◌∙◌, inl, inr, arith}
use Rattle.std.specs.List.{AllByRecursion as All}
use Rattle.std.specs.Option.{option_or}
use Rattle.std.proofs.Math.Bool.{and-true}
use Rattle.std.proofs.lemmas.Bool.{cond-true, cond-false, eq-eqb, ne_eqb, cases_eq, cond_both, and_left}
use Rattle.lines.specs.declared.span.Span.{Span}
use Rattle.stores.specs.declared.message.Message.{Message}
use Rattle.stores.specs.Memory.{ends_at, overlaps, find_from, find, is_free, greatest_end}
use Rattle.rowstore.specs.declared.entry.Entry.{Entry}
use Rattle.rowstore.specs.Entries.{placed, number_at, clear, last_end, earlier}
use Rattle.rowstore.specs.Tables.{row_of, entry_of}
use Rattle.rowstore.specs.Ordered.{ordered_from, ordered}
use Rattle.rowstore.proofs.Ups.{Up}
use Rattle.rowstore.proofs.Placed.{up_placed, all_placed, length_placed, or_none, both_more, number_at_placed, clear_placed, last_end_placed, earlier_placed, earlier_all}

-- row y after the message that arrived as number k
abbrev pub taken : ℕ → Message → ℕ → List Entry → List Entry
taken y m k es = cond (eqb (row_of m.location) y) (placed (entry_of m k) es) es

up_taken : (y : ℕ) (m : Message) (k : ℕ) (es : List Entry) → Up es → Up (taken y m k es)
up_taken y m k es u = cond_both (eqb (row_of m.location) y) (placed (entry_of m k) es) es Up (λ _. up_placed (entry_of m k) es u) (λ _. u)

up_ordered_from : (y k : ℕ) (ms : List Message) (es : List Entry) → Up es → Up (ordered_from y k ms es)
up_ordered_from y k [] es u = u
up_ordered_from y k (m ∷ ms) es u = up_ordered_from y (k + 1) ms (taken y m k es) (up_taken y m k es u)

length_taken : (y : ℕ) (m : Message) (k : ℕ) (es : List Entry) → length (taken y m k es) ≤ length es + 1
length_taken y m k es =
    cond_both (eqb (row_of m.location) y) (placed (entry_of m k) es) es (λ l. length l ≤ length es + 1) (λ _. let h = length_placed (entry_of m k) es in omega arith) (λ _. omega arith)

length_ordered_from : (y k : ℕ) (ms : List Message) (es : List Entry) → length (ordered_from y k ms es) ≤ length es + length ms
length_ordered_from y k [] es = omega arith
length_ordered_from y k (m ∷ ms) es =
    let h = length_ordered_from y (k + 1) ms (taken y m k es) in
    let l = length_taken y m k es in
    omega arith

-- a row is no longer than the list
pub length_ordered : (y : ℕ) (ms : List Message) → length (ordered y ms) ≤ length ms
length_ordered y ms = let h = length_ordered_from y 0 ms [] in omega arith

-- one message more
ordered_from_push : (y k n : ℕ) (ms : List Message) (m : Message) (es : List Entry) → k + length ms ≡ n → ordered_from y k (ms ++ m ∷ []) es ≡ taken y m n (ordered_from y k ms es)
ordered_from_push y k n [] m es h = let same : k ≡ n = omega arith in ap (λ j. taken y m j es) same
ordered_from_push y k n (a ∷ ms) m es h = ordered_from_push y (k + 1) n ms m (taken y a k es) (omega arith)

pub ordered_push : (y : ℕ) (ms : List Message) (m : Message) → ordered y (ms ++ m ∷ []) ≡ taken y m (length ms) (ordered y ms)
ordered_push y ms m = ordered_from_push y 0 (length ms) ms m [] (omega arith)

-- only the first n messages
below_taken : (y n : ℕ) (m : Message) (k : ℕ) (es : List Entry) → k < n → All (λ e. e.number < n) es → All (λ e. e.number < n) (taken y m k es)
below_taken y n m k es l h =
    cond_both (eqb (row_of m.location) y) (placed (entry_of m k) es) es (All (λ (e : Entry). e.number < n)) (λ _. all_placed (entry_of m k) (λ (e : Entry). e.number < n) es l h) (λ _. h)

earlier_taken : (y n : ℕ) (m : Message) (k : ℕ) (es : List Entry) → n ≤ k → earlier n (taken y m k es) ≡ earlier n es
earlier_taken y n m k es l =
    cond_both (eqb (row_of m.location) y) (placed (entry_of m k) es) es (λ as'. earlier n as' ≡ earlier n es) (λ _. earlier_placed n (entry_of m k) es l) (λ _. refl)

earlier_ordered_from : (y n k : ℕ) (ms : List Message) (es : List Entry) → n ≤ k → earlier n (ordered_from y k ms es) ≡ earlier n es
earlier_ordered_from y n k [] es l = refl
earlier_ordered_from y n k (m ∷ ms) es l = earlier_ordered_from y n (k + 1) ms (taken y m k es) (omega arith) ∙ earlier_taken y n m k es l

ordered_from_take : (y n j k : ℕ) (ms : List Message) (es : List Entry) → k + j ≡ n → All (λ e. e.number < n) es → earlier n (ordered_from y k ms es) ≡ ordered_from y k (take j ms) es
ordered_from_take y n zero k ms es l h = earlier_ordered_from y n k ms es (omega arith) ∙ earlier_all n es h
ordered_from_take y n (suc j) k [] es l h = earlier_all n es h
ordered_from_take y n (suc j) k (m ∷ ms) es l h = ordered_from_take y n j (k + 1) ms (taken y m k es) (omega arith) (below_taken y n m k es (omega arith) h)

-- dropping from a row is dropping from the list
pub ordered_take : (y n : ℕ) (ms : List Message) → earlier n (ordered y ms) ≡ ordered y (take n ms)
ordered_take y n ms = ordered_from_take y n n 0 ms [] (omega arith) tt

-- row y, kept to those that arrived before n for each of the messages that is in it
abbrev pub kept : ℕ → ℕ → List Message → List Entry → List Entry
kept y n [] es = es
kept y n (m ∷ ms) es = kept y n ms (cond (eqb (row_of m.location) y) (earlier n es) es)

kept_same : (y n : ℕ) (ms : List Message) (es : List Entry) → earlier n es ≡ es → kept y n ms es ≡ es
kept_same y n [] es h = refl
kept_same y n (m ∷ ms) es h =
    ap (kept y n ms) (cond_both (eqb (row_of m.location) y) (earlier n es) es (λ as'. as' ≡ es) (λ _. h) (λ _. refl)) ∙ kept_same y n ms es h

kept_ordered_from : (y n k : ℕ) (ms : List Message) (es : List Entry) → n ≤ k → earlier n es ≡ es → kept y n ms (ordered_from y k ms es) ≡ es
kept_ordered_from y n k [] es l h = refl
kept_ordered_from y n k (m ∷ ms) es l h = elim (cases_eq (row_of m.location) y) [
  | inl e ↦
      ap (kept y n ms) (cond-true _ _ _ (eq-eqb _ _ e) ∙ earlier_ordered_from y n k (m ∷ ms) es l ∙ h) ∙ kept_same y n ms es h
  | inr e ↦
      ap (kept y n ms) (cond-false _ _ _ (ne_eqb _ _ e) ∙ ap (ordered_from y (k + 1) ms) (cond-false _ _ _ (ne_eqb _ _ e))) ∙ kept_ordered_from y n (k + 1) ms es (omega arith) h
]

kept_drop_from : (y n j k : ℕ) (ms : List Message) (es : List Entry) → k + j ≡ n → All (λ e. e.number < n) es → kept y n (drop j ms) (ordered_from y k ms es) ≡ ordered_from y k (take j ms) es
kept_drop_from y n zero k ms es l h = kept_ordered_from y n k ms es (omega arith) (earlier_all n es h)
kept_drop_from y n (suc j) k [] es l h = refl
kept_drop_from y n (suc j) k (m ∷ ms) es l h = kept_drop_from y n j (k + 1) ms (taken y m k es) (omega arith) (below_taken y n m k es (omega arith) h)

pub kept_drop : (y n : ℕ) (ms : List Message) → kept y n (drop n ms) (ordered y ms) ≡ ordered y (take n ms)
kept_drop y n ms = kept_drop_from y n n 0 ms [] (omega arith) tt

-- a message that is not in the row of x is not at x
elsewhere : (x : ℕ) (m : Message) → (row_of m.location ≡ row_of x → ⊥) → eqb m.location x ≡ false
elsewhere x m h = ne_eqb m.location x (λ e. h (ap row_of e))

module _ (x t : ℕ) where
  or_more : (b : Bool) (k : ℕ) (o r : Option ℕ) → option_or (option_or o (cond b (Some k) None)) r ≡ option_or o (cond b (Some k) r)
  or_more b k (Some j) r = refl
  or_more true k None r = refl
  or_more false k None r = refl

  number_at_taken : (m : Message) (k : ℕ) (es : List Entry) → Up es → number_at x t (taken (row_of x) m k es) ≡ option_or (number_at x t es) (cond (ends_at x t m) (Some k) None)
  number_at_taken m k es u = elim (cases_eq (row_of m.location) (row_of x)) [
    | inl e ↦ ap (number_at x t) (cond-true _ _ _ (eq-eqb _ _ e)) ∙ number_at_placed x t (entry_of m k) es u
    | inr e ↦ ap (number_at x t) (cond-false _ _ _ (ne_eqb _ _ e)) ∙ or_none (number_at x t es) ∙ ap (option_or (number_at x t es)) (sym (cond-false _ _ _ (and_left _ _ (elsewhere x m e))))
  ]

  number_at_ordered_from : (k : ℕ) (ms : List Message) (es : List Entry) → Up es → number_at x t (ordered_from (row_of x) k ms es) ≡ option_or (number_at x t es) (find_from k x t ms)
  number_at_ordered_from k [] es u = or_none (number_at x t es)
  number_at_ordered_from k (m ∷ ms) es u =
      number_at_ordered_from (k + 1) ms (taken (row_of x) m k es) (up_taken (row_of x) m k es u) ∙ ap (λ o. option_or o (find_from (k + 1) x t ms)) (number_at_taken m k es u) ∙ or_more (ends_at x t m) k (number_at x t es) (find_from (k + 1) x t ms)

  pub number_at_ordered : (ms : List Message) → number_at x t (ordered (row_of x) ms) ≡ find x t ms
  number_at_ordered ms = number_at_ordered_from 0 ms [] tt

module _ (x : ℕ) (s : Span) where
  clear_taken : (m : Message) (k : ℕ) (es : List Entry) → clear x s (taken (row_of x) m k es) ≡ (not (overlaps x s m) && clear x s es)
  clear_taken m k es = elim (cases_eq (row_of m.location) (row_of x)) [
    | inl e ↦ ap (clear x s) (cond-true _ _ _ (eq-eqb _ _ e)) ∙ clear_placed x s (entry_of m k) es
    | inr e ↦ ap (clear x s) (cond-false _ _ _ (ne_eqb _ _ e)) ∙ ap (λ b. not b && clear x s es) (sym (and_left _ _ (elsewhere x m e)))
  ]

  clear_ordered_from : (k : ℕ) (ms : List Message) (es : List Entry) → clear x s (ordered_from (row_of x) k ms es) ≡ (clear x s es && is_free x s ms)
  clear_ordered_from k [] es = sym (and-true (clear x s es))
  clear_ordered_from k (m ∷ ms) es =
      clear_ordered_from (k + 1) ms (taken (row_of x) m k es) ∙ ap (λ b. b && is_free x s ms) (clear_taken m k es) ∙ both_more (not (overlaps x s m)) (clear x s es) (is_free x s ms)

  pub clear_ordered : (ms : List Message) → clear x s (ordered (row_of x) ms) ≡ is_free x s ms
  clear_ordered ms = clear_ordered_from 0 ms []

module _ (x : ℕ) where
  last_end_taken : (m : Message) (k : ℕ) (es : List Entry) → last_end x (taken (row_of x) m k es) ≡ max (cond (eqb m.location x) m.span.to 0) (last_end x es)
  last_end_taken m k es = elim (cases_eq (row_of m.location) (row_of x)) [
    | inl e ↦ ap (last_end x) (cond-true _ _ _ (eq-eqb _ _ e)) ∙ last_end_placed x (entry_of m k) es
    | inr e ↦
        let h = ap (last_end x) (cond-false _ (placed (entry_of m k) es) es (ne_eqb _ _ e)) in
        let c = cond-false _ m.span.to 0 (elsewhere x m e) in
        omega arith
  ]

  last_end_ordered_from : (k : ℕ) (ms : List Message) (es : List Entry) → last_end x (ordered_from (row_of x) k ms es) ≡ max (last_end x es) (greatest_end x ms)
  last_end_ordered_from k [] es = omega arith
  last_end_ordered_from k (m ∷ ms) es =
      let h = last_end_ordered_from (k + 1) ms (taken (row_of x) m k es) in
      let l = last_end_taken m k es in
      omega arith

  pub last_end_ordered : (ms : List Message) → last_end x (ordered (row_of x) ms) ≡ greatest_end x ms
  last_end_ordered ms = let h = last_end_ordered_from 0 ms [] in omega arith
