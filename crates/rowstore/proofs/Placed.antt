-- One entry more in a row.
use Rattle.std.proofs.Common.{◌≡◌, ℕ, suc, ◌+◌, ◌<◌, ◌≤◌, max, Bool, true, false, cond, not, ◌&&◌, eqb, ltb, List, [], ◌∷◌, length, Some, None, Option, sym, refl, ap, ◌∙◌, subst, inl, inr, arith}
use Rattle.std.specs.List.{insert, AllByRecursion as All}
use Rattle.std.specs.Option.{option_or}
use Rattle.std.proofs.ByRecursion.{All-weaker}
use Rattle.std.proofs.Math.Bool.{and_assoc, and_comm}
use Rattle.std.proofs.lemmas.Bool.{cond-true, cond-false, lt-ltb, le-ltb, le-leb, lt-leb, cases_lt, eqb-true, and_parts, cases_Bool}
use Rattle.std.proofs.lemmas.List.Kept.{IsNonDecreasingBy-filter}
use Rattle.std.proofs.lemmas.List.Filters.{length-filter_both}
use Rattle.bounded.specs.Bounds.{insert_within}
use Rattle.lines.specs.declared.span.Span.{Span}
use Rattle.rowstore.specs.declared.entry.Entry.{Entry}
use Rattle.rowstore.specs.Entries.{WellFormed, before, placed, number_at, clear, last_end, earlier}
use Rattle.rowstore.proofs.Ups.{Up, up_from_order, order_from_up}
use Rattle.rowstore.proofs.Fronts.{number_at_none}

module _ (e : Entry) where
  placed_after : (a : Entry) (es : List Entry) → a.span.to ≤ e.span.to → placed e (a ∷ es) ≡ a ∷ placed e es
  placed_after a es h = cond-true _ _ _ (le-leb a.span.to e.span.to h)

  placed_before : (a : Entry) (es : List Entry) → e.span.to < a.span.to → placed e (a ∷ es) ≡ e ∷ a ∷ es
  placed_before a es h = cond-false _ _ _ (lt-leb a.span.to e.span.to h)

  pub all_placed : (P : Entry → Type 0) (es : List Entry) → P e → All P es → All P (placed e es)
  all_placed P [] p h = (p, tt)
  all_placed P (a ∷ es) p h = elim (cases_lt e.span.to a.span.to) [
    | inl l ↦ subst (All P) (sym (placed_before a es l)) (p, h)
    | inr l ↦ subst (All P) (sym (placed_after a es l)) (h.0, all_placed P es p h.1)
  ]

  pub up_placed : (es : List Entry) → Up es → Up (placed e es)
  up_placed [] u = (tt, tt)
  up_placed (a ∷ es) u = elim (cases_lt e.span.to a.span.to) [
    | inl l ↦
        subst Up (sym (placed_before a es l)) ((omega arith, All-weaker (λ (b : Entry). a.span.to ≤ b.span.to) (λ (b : Entry). e.span.to ≤ b.span.to) (λ b h. omega arith) es u.0), u)
    | inr l ↦ subst Up (sym (placed_after a es l)) (all_placed (λ (b : Entry). a.span.to ≤ b.span.to) es l u.0, up_placed es u.1)
  ]

  pub length_placed : (es : List Entry) → length (placed e es) ≡ length es + 1
  length_placed [] = omega arith
  length_placed (a ∷ es) = elim (cases_lt e.span.to a.span.to) [
    | inl l ↦ let p = ap length (placed_before a es l) in omega arith
    | inr l ↦ let p = ap length (placed_after a es l) in let h = length_placed es in omega arith
  ]

  -- its place is after those that end before the next end
  pub placed_is : (es : List Entry) → placed e es ≡ insert es (before (e.span.to + 1) es) e
  placed_is [] = refl
  placed_is (a ∷ es) = elim (cases_lt e.span.to a.span.to) [
    | inl l ↦
        let none : before (e.span.to + 1) (a ∷ es) ≡ 0 = cond-false _ _ _ (le-ltb a.span.to (e.span.to + 1) (omega arith)) in
        placed_before a es l ∙ ap (λ n. insert (a ∷ es) n e) (sym none)
    | inr l ↦
        let one : before (e.span.to + 1) (a ∷ es) ≡ 1 + before (e.span.to + 1) es = cond-true _ _ _ (lt-ltb a.span.to (e.span.to + 1) (omega arith)) in
        let more : before (e.span.to + 1) (a ∷ es) ≡ suc (before (e.span.to + 1) es) = omega arith in
        placed_after a es l ∙ ap (λ (l : List Entry). a ∷ l) (placed_is es) ∙ ap (λ n. insert (a ∷ es) n e) (sym more)
  ]

pub or_none : (o : Option ℕ) → o ≡ option_or o None
or_none None = refl
or_none (Some k) = refl

or_cond : (b : Bool) (k : ℕ) (o r : Option ℕ) → cond b (Some k) (option_or o r) ≡ option_or (cond b (Some k) o) r
or_cond true k o r = refl
or_cond false k o r = refl

pub both_more : (a b c : Bool) → ((a && b) && c) ≡ (b && (a && c))
both_more a b c = ap (λ d. d && c) (and_comm a b) ∙ and_assoc b a c

module _ (x t : ℕ) (e : Entry) where
  abbrev asked : Entry → Bool
  asked a = eqb a.location x && eqb a.span.to t

  -- of several with one end the first to arrive is found
  pub number_at_placed : (es : List Entry) → Up es → number_at x t (placed e es) ≡ option_or (number_at x t es) (cond (asked e) (Some e.number) None)
  number_at_placed [] u = refl
  number_at_placed (a ∷ es) u = elim (cases_lt e.span.to a.span.to) [
    | inl l ↦ ap (number_at x t) (placed_before e a es l) ∙ early l
    | inr l ↦
        ap (number_at x t) (placed_after e a es l) ∙ ap (cond (asked a) (Some a.number)) (number_at_placed es u.1) ∙ or_cond (asked a) a.number (number_at x t es) (cond (asked e) (Some e.number) None)
  ]
    where
      early : e.span.to < a.span.to → cond (asked e) (Some e.number) (number_at x t (a ∷ es)) ≡ option_or (number_at x t (a ∷ es)) (cond (asked e) (Some e.number) None)
      early l = elim (cases_Bool (asked e)) [
        | inl y ↦
            let ends : e.span.to ≡ t = eqb-true e.span.to t (and_parts (eqb e.location x) (eqb e.span.to t) y).1 in
            let later : All (λ (b : Entry). t < b.span.to) (a ∷ es) = (omega arith, All-weaker (λ (b : Entry). a.span.to ≤ b.span.to) (λ (b : Entry). t < b.span.to) (λ b h. omega arith) es u.0) in
            let none = number_at_none x t (a ∷ es) later in
            ap (cond (asked e) (Some e.number)) none ∙ ap (λ o. option_or o (cond (asked e) (Some e.number) None)) (sym none)
        | inr n ↦
            cond-false _ _ _ n ∙ or_none (number_at x t (a ∷ es)) ∙ ap (option_or (number_at x t (a ∷ es))) (sym (cond-false _ _ _ n))
      ]

module _ (x : ℕ) (s : Span) (e : Entry) where
  abbrev misses : Entry → Bool
  misses a = not (eqb a.location x && (ltb s.from a.span.to && ltb a.span.from s.to))

  pub clear_placed : (es : List Entry) → clear x s (placed e es) ≡ (misses e && clear x s es)
  clear_placed [] = refl
  clear_placed (a ∷ es) = elim (cases_lt e.span.to a.span.to) [
    | inl l ↦ ap (clear x s) (placed_before e a es l)
    | inr l ↦
        ap (clear x s) (placed_after e a es l) ∙ ap (λ b. misses a && b) (clear_placed es) ∙ sym (and_assoc (misses a) (misses e) (clear x s es)) ∙ both_more (misses a) (misses e) (clear x s es)
  ]

module _ (x : ℕ) (e : Entry) where
  pub last_end_placed : (es : List Entry) → last_end x (placed e es) ≡ max (cond (eqb e.location x) e.span.to 0) (last_end x es)
  last_end_placed [] = refl
  last_end_placed (a ∷ es) = elim (cases_lt e.span.to a.span.to) [
    | inl l ↦ ap (last_end x) (placed_before e a es l)
    | inr l ↦ let p = ap (last_end x) (placed_after e a es l) in let h = last_end_placed es in omega arith
  ]

module _ (n : ℕ) where
  -- one that arrived as n or later is dropped again
  pub earlier_placed : (e : Entry) (es : List Entry) → n ≤ e.number → earlier n (placed e es) ≡ earlier n es
  earlier_placed e es h = by es
    where
      drops : (as' : List Entry) → earlier n (e ∷ as') ≡ earlier n as'
      drops as' = cond-false _ _ _ (le-ltb e.number n h)

      by : (as' : List Entry) → earlier n (placed e as') ≡ earlier n as'
      by [] = drops []
      by (a ∷ as') = elim (cases_lt e.span.to a.span.to) [
        | inl l ↦ ap (earlier n) (placed_before e a as' l) ∙ drops (a ∷ as')
        | inr l ↦ ap (earlier n) (placed_after e a as' l) ∙ ap (λ (l : List Entry). cond (ltb a.number n) (a ∷ l) l) (by as')
      ]

  pub earlier_all : (es : List Entry) → All (λ e. e.number < n) es → earlier n es ≡ es
  earlier_all [] h = refl
  earlier_all (e ∷ es) h =
      cond-true _ _ _ (lt-ltb e.number n h.0) ∙ ap (λ (l : List Entry). e ∷ l) (earlier_all es h.1)

-- the bounded list takes an entry where a row has room, at its place
pub inserted : (es : List Entry) (n : ℕ) (e : Entry) → length es < 64 → n ≡ before (e.span.to + 1) es → insert_within 64 es n e ≡ placed e es
inserted es n e room is = cond-true _ _ _ (lt-ltb (length es) 64 room) ∙ ap (λ k. insert es k e) is ∙ sym (placed_is e es)

pub formed_placed : (es : List Entry) (e : Entry) → length es < 64 → WellFormed es → WellFormed (placed e es)
formed_placed es e room h =
    let l = length_placed e es in
    record { fits = omega arith; order = order_from_up (placed e es) (up_placed e es (up_from_order es h.order)) }

pub formed_earlier : (n : ℕ) (es : List Entry) → WellFormed es → WellFormed (earlier n es)
formed_earlier n es h =
    let p = λ (e : Entry). ltb e.number n in
    let l = length-filter_both p (λ e. not (p e)) (λ _. refl) es in
    record { fits = omega (arith, h.fits); order = IsNonDecreasingBy-filter (λ (e : Entry). e.span.to) p es h.order }
