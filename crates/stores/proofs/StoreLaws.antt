-- What the questions about a list of messages say of its members.
use Rattle.std.proofs.Common.{◌≡◌, ℕ, zero, suc, ◌+◌, ◌<◌, ◌≤◌, Bool, true, false, cond, not, ◌&&◌, eqb, ltb, ◌⊎◌, List, [], ◌∷◌, length, get_or, IfSome, is_some, Some, None, Option, sym, refl, ap, ◌∙◌, subst, inl, inr, arith}
use Rattle.std.proofs.lemmas.Bool.{and_parts, and_from, not-true, not_from_false, both_ways, eqb-true, ltb-true, eq-eqb, ne_eqb, lt-ltb, cases_Bool, cases_eq, cases_lt, cond-true, cond-false}
use Rattle.lines.specs.declared.span.Span.{Span}
use Rattle.stores.specs.declared.message.Message.{Message}
use Rattle.stores.specs.Memory.{zero_message, ends_at, overlaps, find_from, find, overlap_from, is_free, greatest_end}
use Rattle.stores.specs.StoreLaws.{In, EndsAt, Overlaps, Free, Finds, Greatest}
use Rattle.stores.specs.ViewLaws.{Decides}

pub in_at : (ms : List Message) (k : ℕ) (d : Message) → k < length ms → In (get_or ms k d) ms
in_at [] k d h = absurd (omega arith)
in_at (m ∷ ms) zero d h = inl refl
in_at (m ∷ ms) (suc k) d h = inr (in_at ms k d (omega arith))

pub ends_at_sound : (x t : ℕ) (m : Message) → ends_at x t m ≡ true → EndsAt x t m
ends_at_sound x t m e =
    let p = and_parts (eqb m.location x) (eqb m.span.to t) e in
    (eqb-true m.location x p.0, eqb-true m.span.to t p.1)

pub ends_at_complete : (x t : ℕ) (m : Message) → EndsAt x t m → ends_at x t m ≡ true
ends_at_complete x t m h = and_from _ _ (eq-eqb m.location x h.0) (eq-eqb m.span.to t h.1)

pub ends_at_law : (x t : ℕ) (m : Message) (r : Bool) → r ≡ ends_at x t m → Decides r (EndsAt x t m)
unfolding Decides
ends_at_law x t m r e = (λ h. ends_at_sound x t m (sym e ∙ h), λ h. e ∙ ends_at_complete x t m h)

pub overlaps_sound : (x : ℕ) (s : Span) (m : Message) → overlaps x s m ≡ true → Overlaps x s m
overlaps_sound x s m e =
    let p = and_parts (eqb m.location x) (ltb s.from m.span.to && ltb m.span.from s.to) e in
    let q = and_parts (ltb s.from m.span.to) (ltb m.span.from s.to) p.1 in
    (eqb-true m.location x p.0, ltb-true s.from m.span.to q.0, ltb-true m.span.from s.to q.1)

pub overlaps_complete : (x : ℕ) (s : Span) (m : Message) → Overlaps x s m → overlaps x s m ≡ true
overlaps_complete x s m h =
    and_from _ _ (eq-eqb m.location x h.0) (and_from _ _ (lt-ltb s.from m.span.to h.1) (lt-ltb m.span.from s.to h.2))

pub overlaps_law : (x : ℕ) (s : Span) (m : Message) (r : Bool) → r ≡ overlaps x s m → Decides r (Overlaps x s m)
unfolding Decides
overlaps_law x s m r e = (λ h. overlaps_sound x s m (sym e ∙ h), λ h. e ∙ overlaps_complete x s m h)

pub is_free_sound : (x : ℕ) (s : Span) (ms : List Message) → is_free x s ms ≡ true → Free x s ms
is_free_sound x s [] e m i o = i
is_free_sound x s (n ∷ ns) e m (inl i) o =
    let p = and_parts (not (overlaps x s n)) (is_free x s ns) e in
    both_ways (overlaps x s n) (not-true _ p.0) (overlaps_complete x s n (subst (Overlaps x s) i o))
is_free_sound x s (n ∷ ns) e m (inr i) o =
    is_free_sound x s ns (and_parts (not (overlaps x s n)) (is_free x s ns) e).1 m i o

pub is_free_complete : (x : ℕ) (s : Span) (ms : List Message) → Free x s ms → is_free x s ms ≡ true
is_free_complete x s [] h = refl
is_free_complete x s (n ∷ ns) h =
    and_from _ _
    (elim (cases_Bool (overlaps x s n)) [
      | inl o ↦ absurd (h n (inl refl) (overlaps_sound x s n o))
      | inr a ↦ not_from_false _ a
    ])
    (is_free_complete x s ns (λ m i. h m (inr i)))

pub is_free_law : (x : ℕ) (s : Span) (ms : List Message) (r : Bool) → r ≡ is_free x s ms → Decides r (Free x s ms)
unfolding Decides
is_free_law x s ms r e = (λ h. is_free_sound x s ms (sym e ∙ h), λ h. e ∙ is_free_complete x s ms h)

-- the number found is the first one's, counted from the number of the list's first
pub find_from_some : (k x t : ℕ) (ms : List Message) (d : Message) (j : ℕ) → find_from k x t ms ≡ Some j
    → (i : ℕ) × (j ≡ k + i) × (i < length ms) × EndsAt x t (get_or ms i d) × ((h : ℕ) → h < i → EndsAt x t (get_or ms h d) → ⊥)
find_from_some k x t [] d j e = absurd (cc)
find_from_some k x t (m ∷ ms) d j e =
    elim (cases_Bool (ends_at x t m)) [
      | inl b ↦
          let s : Some k ≡ Some j = sym (cond-true _ (Some k) (find_from (k + 1) x t ms) b) ∙ e in
          let same : k ≡ j = cc in
          (0, omega arith, omega arith, ends_at_sound x t m b, λ h l. absurd (omega arith))
      | inr b ↦
          let r = find_from_some (k + 1) x t ms d j (sym (cond-false _ (Some k) (find_from (k + 1) x t ms) b) ∙ e) in
          (suc r.0, omega arith, omega arith, r.3, earlier b r.0 r.4)
    ]
  where
    earlier : ends_at x t m ≡ false → (i : ℕ) → ((h : ℕ) → h < i → EndsAt x t (get_or ms h d) → ⊥)
        → (h : ℕ) → h < suc i → EndsAt x t (get_or (m ∷ ms) h d) → ⊥
    earlier b i rest zero l here = both_ways _ b (ends_at_complete x t m here)
    earlier b i rest (suc h) l here = rest h (omega arith) here

pub find_from_none : (k x t : ℕ) (ms : List Message) → find_from k x t ms ≡ None → (m : Message) → In m ms → EndsAt x t m → ⊥
find_from_none k x t [] e m i h = i
find_from_none k x t (n ∷ ns) e m (inl i) h =
    let found = sym e ∙ cond-true _ (Some k) (find_from (k + 1) x t ns) (ends_at_complete x t n (subst (EndsAt x t) i h)) in absurd (cc)
find_from_none k x t (n ∷ ns) e m (inr i) h =
    elim (cases_Bool (ends_at x t n)) [
      | inl b ↦ let found = sym e ∙ cond-true _ (Some k) (find_from (k + 1) x t ns) b in absurd (cc)
      | inr b ↦ find_from_none (k + 1) x t ns (sym (cond-false _ (Some k) (find_from (k + 1) x t ns) b) ∙ e) m i h
    ]

pub find_inside : (x t : ℕ) (ms : List Message) (r : Option ℕ) → r ≡ find x t ms → IfSome r (λ k. k < length ms)
find_inside x t ms None e = tt
find_inside x t ms (Some j) e = let r = find_from_some 0 x t ms zero_message j (sym e) in omega arith

pub find_law : (x t : ℕ) (ms : List Message) (r : Option ℕ) → r ≡ find x t ms → Finds x t ms r
unfolding Finds
find_law x t ms None e = find_from_none 0 x t ms (sym e)
find_law x t ms (Some j) e =
    let r = find_from_some 0 x t ms zero_message j (sym e) in
    let same : r.0 ≡ j = omega arith in
    let At : ℕ → Type 0 = λ k. (k < length ms) × In (get_or ms k zero_message) ms × EndsAt x t (get_or ms k zero_message) × ((i : ℕ) → i < k → EndsAt x t (get_or ms i zero_message) → ⊥) in
    subst At same (r.2, in_at ms r.0 zero_message r.2, r.3, r.4)

-- a span is free where there is no first overlap
pub free_overlap : (k x : ℕ) (s : Span) (ms : List Message) → not (is_some (overlap_from k x s ms)) ≡ is_free x s ms
free_overlap k x s [] = refl
free_overlap k x s (m ∷ ms) = by (overlaps x s m) (free_overlap (k + 1) x s ms)
  where
    by : (b : Bool) → not (is_some (overlap_from (k + 1) x s ms)) ≡ is_free x s ms
        → not (is_some (cond b (Some k) (overlap_from (k + 1) x s ms))) ≡ (not b && is_free x s ms)
    by true h = refl
    by false h = h

pub greatest_end_bound : (x : ℕ) (ms : List Message) (m : Message) → In m ms → m.location ≡ x → m.span.to ≤ greatest_end x ms
greatest_end_bound x [] m i e = absurd i
greatest_end_bound x (n ∷ ns) m (inl i) e =
    let l : n.location ≡ x = sym (ap (λ (k : Message). k.location) i) ∙ e in
    let t : m.span.to ≡ n.span.to = ap (λ (k : Message). k.span.to) i in
    let c : cond (eqb n.location x) n.span.to 0 ≡ n.span.to = cond-true _ n.span.to 0 (eq-eqb n.location x l) in
    omega arith
greatest_end_bound x (n ∷ ns) m (inr i) e = let h = greatest_end_bound x ns m i e in omega arith

abbrev OneEnd : ℕ → List Message → ℕ → Type 0
OneEnd x ms e = (e ≡ 0) ⊎ ((m : Message) × In m ms × (m.location ≡ x) × (m.span.to ≡ e))

pub greatest_end_one : (x : ℕ) (ms : List Message) → OneEnd x ms (greatest_end x ms)
greatest_end_one x [] = inl refl
greatest_end_one x (n ∷ ns) = elim (cases_eq n.location x) [
  | inl l ↦
      let c : cond (eqb n.location x) n.span.to 0 ≡ n.span.to = cond-true _ n.span.to 0 (eq-eqb n.location x l) in
      elim (cases_lt (greatest_end x ns) n.span.to) [
        | inl h ↦ inr (n, inl refl, l, omega arith)
        | inr h ↦ later (omega arith) (greatest_end_one x ns)
      ]
  | inr l ↦
      let c : cond (eqb n.location x) n.span.to 0 ≡ 0 = cond-false _ n.span.to 0 (ne_eqb n.location x l) in
      later (omega arith) (greatest_end_one x ns)
]
  where
    later : greatest_end x (n ∷ ns) ≡ greatest_end x ns → OneEnd x ns (greatest_end x ns) → OneEnd x (n ∷ ns) (greatest_end x (n ∷ ns))
    later e (inl z) = inl (e ∙ z)
    later e (inr m) = inr (m.0, inr m.1, m.2, m.3 ∙ sym e)

pub greatest_end_law : (x : ℕ) (ms : List Message) (r : ℕ) → r ≡ greatest_end x ms → Greatest x ms r
unfolding Greatest
greatest_end_law x ms r e =
    let Law : ℕ → Type 0 = λ k. ((m : Message) → In m ms → m.location ≡ x → m.span.to ≤ k) × OneEnd x ms k in
    subst Law (sym e) (greatest_end_bound x ms, greatest_end_one x ms)
