-- What a row answers, past the entries at its front that end before a limit.
use Rattle.std.proofs.Common.{◌≡◌, ℕ, suc, ◌+◌, ◌-◌, ◌<◌, ◌≤◌, Bool, true, false, cond, not, ◌&&◌, ◌||◌, eqb, ltb, List, [], ◌∷◌, reverse, length, get_or, take, drop, Some, None, Option, sym, refl, ap, ◌∙◌, subst, ◌⊎◌, inl, inr, arith}
use Rattle.std.specs.List.{find, list_any, prefix_len, AllByRecursion as All}
use Rattle.std.specs.List.Sorted.{IsPartitionPoint}
use Rattle.std.specs.Option.{option_map, option_map_or, option_or}
use Rattle.std.proofs.ByRecursion.{All-weaker}
use Rattle.std.proofs.lemmas.Grind.{reverse_onto}
use Rattle.std.proofs.lemmas.List.Folds.{find-append}
use Rattle.std.proofs.lemmas.List.Sums.{prefix_len_is}
use Rattle.std.proofs.lemmas.Bool.{cond-true, cond-false, lt-ltb, le-ltb, eq-eqb, ne_eqb, and_right, cases_lt, cases_eq, cond_both}
use Rattle.lines.specs.declared.span.Span.{Span}
use Rattle.rowstore.specs.declared.entry.Entry.{Entry}
use Rattle.rowstore.specs.Entries.{InOrder, before, number_at, clear, last_end}
use Rattle.rowstore.proofs.Ups.{Up}

before_yes : (t : ℕ) (e : Entry) (es : List Entry) → e.span.to < t → before t (e ∷ es) ≡ suc (before t es)
before_yes t e es h = let f = cond-true _ (1 + before t es) 0 (lt-ltb e.span.to t h) in omega arith

before_no : (t : ℕ) (e : Entry) (es : List Entry) → t ≤ e.span.to → before t (e ∷ es) ≡ 0
before_no t e es h = cond-false _ _ _ (le-ltb e.span.to t h)

-- a function of entries that passes over one that ends before t passes over all of them at the front
past_front : {Y : Type 0} (F : List Entry → Y) (t : ℕ) → ((e : Entry) (es : List Entry) → e.span.to < t → F es ≡ F (e ∷ es)) → (es : List Entry) → F (drop (before t es) es) ≡ F es
past_front F t skip [] = refl
past_front F t skip (e ∷ es) = elim (cases_lt e.span.to t) [
  | inl k ↦ ap (λ n. F (drop n (e ∷ es))) (before_yes t e es k) ∙ past_front F t skip es ∙ skip e es k
  | inr k ↦ ap (λ n. F (drop n (e ∷ es))) (before_no t e es k)
]

-- no entry ends before the limit
abbrev Late : ℕ → List Entry → Type 0
Late t es = All (λ (e : Entry). t ≤ e.span.to) es

-- where one does not, no later one does
later : (t : ℕ) (e : Entry) (es : List Entry) → t ≤ e.span.to → Up (e ∷ es) → Late t es
later t e es h u =
    All-weaker (λ (a : Entry). e.span.to ≤ a.span.to) (λ (a : Entry). t ≤ a.span.to) (λ a l. omega arith) es u.0

record Front (t : ℕ) (es : List Entry) : Type 0 where
  pub up : Up es
  pub late : Late t es

front_past : (t : ℕ) (es : List Entry) → Up es → Front t (drop (before t es) es)
front_past t [] u = record { up = tt; late = tt }
front_past t (e ∷ es) u = elim (cases_lt e.span.to t) [
  | inl k ↦ rw (before_yes t e es k) (front_past t es u.1)
  | inr k ↦ rw (before_no t e es k) (record { up = u; late = (k, later t e es k u) })
]

module _ (x t : ℕ) where
  skips : (e : Entry) (es : List Entry) → e.span.to < t → number_at x t es ≡ number_at x t (e ∷ es)
  skips e es h = sym (cond-false _ _ _ (and_right _ _ (ne_eqb e.span.to t (λ q. omega arith))))

  -- none of those that end later
  pub number_at_none : (es : List Entry) → All (λ e. t < e.span.to) es → number_at x t es ≡ None
  number_at_none [] h = refl
  number_at_none (e ∷ es) h =
      let after : t < e.span.to = h.0 in
      cond-false _ _ _ (and_right _ _ (ne_eqb e.span.to t (λ q. omega arith))) ∙ number_at_none es h.1

  abbrev at : Entry → Bool
  at e = eqb e.location x

  abbrev ends : Entry → Bool
  ends e = eqb e.span.to t

  number : (e : Entry) (c : Bool) → c ≡ true → (b : Bool) (r : Option Entry) (s : Option ℕ) → option_map (λ (a : Entry). a.number) r ≡ s
      → option_map (λ (a : Entry). a.number) (cond b (Some e) r) ≡ cond (b && c) (Some e.number) s
  number e c y true r s h = sym (cond-true c (Some e.number) s y)
  number e c y false r s h = h

  -- the first of x among those at the front that end at t
  found : (es : List Entry) → Up es → Late t es → option_map (λ (a : Entry). a.number) (find at (take (prefix_len ends es) es)) ≡ number_at x t es
  found [] u l = refl
  found (e ∷ es) u l = elim (cases_eq e.span.to t) [
    | inl same ↦
        let more : prefix_len ends (e ∷ es) ≡ suc (prefix_len ends es) = let f = cond-true _ (1 + prefix_len ends es) 0 (eq-eqb e.span.to t same) in omega arith in
        ap (λ n. option_map (λ (a : Entry). a.number) (find at (take n (e ∷ es)))) more ∙ number e (ends e) (eq-eqb e.span.to t same) (at e) (find at (take (prefix_len ends es) es)) (number_at x t es) (found es u.1 l.1)
    | inr other ↦
        let first : t ≤ e.span.to = l.0 in
        let past : t + 1 ≤ e.span.to = elim (cases_lt t e.span.to) [ inl k ↦ omega arith | inr k ↦ absurd (other (omega arith)) ] in
        ap (λ n. option_map (λ (a : Entry). a.number) (find at (take n (e ∷ es)))) (cond-false _ _ _ (ne_eqb e.span.to t other)) ∙ sym (number_at_none (e ∷ es) (omega arith, All-weaker (λ (a : Entry). t + 1 ≤ a.span.to) (λ (a : Entry). t < a.span.to) (λ a k. omega arith) es (later (t + 1) e es past u)))
  ]

  pub number_found : (es : List Entry) → Up es → (n : ℕ) → n ≡ before t es
      → option_map (λ (a : Entry). a.number) (find at (take (prefix_len ends (drop n es)) (drop n es))) ≡ number_at x t es
  number_found es u n is =
      let f = front_past t es u in
      ap (λ k. option_map (λ (a : Entry). a.number) (find at (take (prefix_len ends (drop k es)) (drop k es)))) is ∙ found (drop (before t es) es) f.up f.late ∙ past_front (number_at x t) t skips es

module _ (x : ℕ) (s : Span) where
  passes : (e : Entry) (es : List Entry) → e.span.to < s.from + 1 → clear x s es ≡ clear x s (e ∷ es)
  passes e es h = sym (ap (λ b. not b && clear x s es) (and_right (eqb e.location x) _ (early (ltb s.from e.span.to) (ltb e.span.from s.to) (le-ltb s.from e.span.to (omega arith)))))
    where
      early : (a b : Bool) → a ≡ false → (a && b) ≡ false
      early true b h = cc
      early false b h = refl

  free_more : (b c d : Bool) → c ≡ true → (r k : Bool) → not r ≡ k → not ((b && d) || r) ≡ (not (b && (c && d)) && k)
  free_more b false d y r k h = cc
  free_more true true true y r k h = refl
  free_more true true false y r k h = h
  free_more false true d y r k h = h

  abbrev hits : Entry → Bool
  hits e = eqb e.location x && ltb e.span.from s.to

  free : (es : List Entry) → Late (s.from + 1) es → not (list_any hits es) ≡ clear x s es
  free [] l = refl
  free (e ∷ es) l =
      let first : s.from + 1 ≤ e.span.to = l.0 in
      free_more (eqb e.location x) (ltb s.from e.span.to) (ltb e.span.from s.to) (lt-ltb s.from e.span.to (omega arith)) (list_any hits es) (clear x s es) (free es l.1)

  pub clear_past : (es : List Entry) → Up es → (n : ℕ) → n ≡ before (s.from + 1) es → not (list_any hits (drop n es)) ≡ clear x s es
  clear_past es u n is =
      ap (λ k. not (list_any hits (drop k es))) is ∙ free (drop (before (s.from + 1) es) es) (front_past (s.from + 1) es u).late ∙ past_front (clear x s) (s.from + 1) passes es

module _ (x : ℕ) where
  abbrev here : Entry → Bool
  here e = eqb e.location x

  -- the last entry of x, if there is one, has the greatest end of those of x, and this is at least t if each end is
  record Last (es : List Entry) (o : Option Entry) : Type 0 where
    pub value : option_map_or (λ (e : Entry). e.span.to) o 0 ≡ last_end x es
    pub least : (t : ℕ) → Late t es → (o ≡ None) ⊎ (t ≤ last_end x es)

  last_found : (es : List Entry) → Up es → Last es (find here (reverse es))
  last_found [] u = record { value = refl; least = λ t l. inl refl }
  last_found (e ∷ es) u =
      subst (Last (e ∷ es)) (sym (ap (find here) (reverse_onto es e []) ∙ find-append here (reverse es) (e ∷ []))) (more (find here (reverse es)) (here e) refl (last_found es u.1))
    where
      small : cond (here e) e.span.to 0 ≤ e.span.to
      small = cond_both (here e) e.span.to 0 (λ n. n ≤ e.span.to) (λ _. omega arith) (λ _. omega arith)

      more : (o : Option Entry) (b : Bool) → here e ≡ b → Last es o → Last (e ∷ es) (option_or o (cond b (Some e) None))
      more None true y r =
          let v = r.value in
          let c = cond-true (here e) e.span.to 0 y in
          record { value = omega arith; least = λ t l. let k : t ≤ e.span.to = l.0 in inr (omega arith) }
      more None false y r =
          let v = r.value in
          let c = cond-false (here e) e.span.to 0 y in
          record { value = omega arith; least = λ t l. inl refl }
      more (Some f) b y r =
          let v = r.value in
          let k = small in
          record {
            value = elim (r.least e.span.to u.0) [ inl n ↦ absurd (cc) | inr h ↦ omega arith ];
            least = λ t l. elim (r.least t l.1) [ inl n ↦ absurd (cc) | inr h ↦ inr (omega arith) ];
          }

  pub last_end_found : (es : List Entry) → Up es → option_map_or (λ (e : Entry). e.span.to) (find here (reverse es)) 0 ≡ last_end x es
  last_end_found es u = (last_found es u).value

abbrev pub none : Entry
none = record { location = 0; span = record { from = 0; to = 0 }; number = 0 }

-- where a search by halving ends
pub partition_is : (t n : ℕ) (es : List Entry) → n ≤ length es → IsPartitionPoint (λ (e : Entry). ltb e.span.to t ≡ true) (λ (e : Entry). ltb e.span.to t ≡ false) es n → n ≡ before t es
partition_is t n es l p =
    sym (prefix_len_is (λ (e : Entry). ltb e.span.to t) es n none l (λ k h. p.0 k none (omega arith) h) (λ h. p.1 n none (omega arith) h))

-- a place in a row where the entry in front ends before t, and the one that follows, if there is one, does not
pub before_place : (t n : ℕ) (es : List Entry) → InOrder es → 1 ≤ n → n ≤ length es → (get_or es (n - 1) none).span.to < t → (n < length es → t ≤ (get_or es n none).span.to) → n ≡ before t es
before_place t n es order first within early late =
    sym (prefix_len_is (λ (e : Entry). ltb e.span.to t) es n none within
    (λ k h. let l = order k (n - 1) none (omega arith) (omega arith) in lt-ltb _ _ (omega arith))
    (λ h. le-ltb _ _ (late h)))
