-- Steps that write above a closing line can be made later, in every memory that has the messages. Assumes nothing.
use Rattle.std.proofs.Common.{◌≡◌, ℕ, zero, suc, ◌+◌, ◌-◌, ◌<◌, ◌≤◌, max, cond, leb, List, [], ◌∷◌, ◌++◌, map, get_or, set, replicate, Some, None, sym, refl, ap, ◌∙◌, subst, inl, inr, append_assoc, append-nil, arith}
use lib.ListN.{get_or-map}
use Rattle.std.proofs.lemmas.Bool.{le-leb, lt-leb, cond-true, cond-false, cases_lt}
use Rattle.std.proofs.lemmas.List.{map_push, map-set}
use Rattle.lines.specs.declared.span.Span.{Span}
use Rattle.lines.specs.declared.trace.Line.{Line}
use Rattle.lines.specs.declared.trace.Line.TheVariants.{Next as N, Read as R, Write as W, Update as U, Keep as H}
use Rattle.languages.specs.declared.action.ReadMode.{ReadMode}
use Rattle.languages.specs.declared.action.ReadMode.TheVariants.{Relaxed as RelaxedRead, Acquire}
use Rattle.languages.specs.declared.action.WriteMode.{WriteMode}
use Rattle.languages.specs.declared.action.WriteMode.TheVariants.{Relaxed, Release}
use Rattle.languages.specs.Behaviours.{after}
use Rattle.stores.specs.declared.view.View.{View}
use Rattle.stores.specs.declared.message.Message.{Message}
use Rattle.stores.specs.Views.{at, zero_view, single, greater_ends, join}
use Rattle.stores.specs.Memory.{greatest_end}
use Rattle.stores.specs.StoreLaws.{In, Free}
use Rattle.stores.proofs.StoreLaws.{greatest_end_bound}
use Rattle.rules.specs.Models.{Views}
use Rattle.rules.specs.Threads.{rel_at, read_cur, read_views, write_rel, write_views}
use Rattle.rules.specs.Rules.{written, updated_message, update_views}
use Rattle.rules.specs.Alone.{Lone, Within, went_on, onward, OwesNothing, Alone, silent, acquire_fence, release_fence, both_fence, sequential_fence, print, read, write, update, keep, Steps, done, then, CanKeep}
use Rattle.rules.specs.Laws.{Known, WellFormed}
use Rattle.rules.proofs.Members.{in_left, in_right, in_split, in_push, in_map, in_map_back}
use Rattle.rules.proofs.Preserved.{Holds, Sane}

-- the steps of a showing: each while something is owed
pub data Shown (l : ℕ) (cl : View) (k : Lone) (S : View) (M : List Message) : Lone → View → List Message → Type 0 where
  start : Shown l cl k S M k S M
  more : {k₁ k₂ : Lone} {S₁ S₂ : View} {M₁ M₂ : List Message} {ln : Line}
      → Shown l cl k S M k₁ S₁ M₁ → (OwesNothing k₁ → ⊥) → Alone l (Some cl) k₁ S₁ M₁ ln k₂ S₂ M₂ → Shown l cl k S M k₂ S₂ M₂

-- a time above the line comes `by` later
later : (low by t : ℕ) → ℕ
later low by t = cond (leb t low) t (t + by)

later_old : (low by t : ℕ) → t ≤ low → later low by t ≡ t
unfolding later
later_old low by t h = cond-true _ _ _ (le-leb t low h)

later_new : (low by t : ℕ) → low < t → later low by t ≡ t + by
unfolding later
later_new low by t h = cond-false _ _ _ (lt-leb t low h)

-- of two times the later one comes at least as much later
later_more : (low by s t : ℕ) → s ≤ t → later low by s + (t - s) ≤ later low by t
later_more low by s t h =
    elim (cases_lt low s) [
      | inl a ↦ omega (arith, later_new low by s a, later_new low by t (omega arith))
      | inr a ↦ elim (cases_lt low t) [
        | inl b ↦ omega (arith, later_old low by s a, later_new low by t b)
        | inr b ↦ omega (arith, later_old low by s a, later_old low by t b)
      ]
    ]

later_le : (low by s t : ℕ) → s ≤ t → later low by s ≤ later low by t
later_le low by s t h = let e = later_more low by s t h in omega arith

later_lt : (low by s t : ℕ) → s < t → later low by s < later low by t
later_lt low by s t h = let e = later_more low by s t (omega arith) in omega arith

later_max : (low by s t : ℕ) → later low by (max s t) ≡ max (later low by s) (later low by t)
later_max low by s t =
    elim (cases_lt s t) [
      | inl a ↦ let e : max s t ≡ t = omega arith in let m = later_le low by s t (omega arith) in ap (later low by) e ∙ omega arith
      | inr a ↦ let e : max s t ≡ s = omega arith in let m = later_le low by t s a in ap (later low by) e ∙ omega arith
    ]

-- a line and a delay for each location
module _ (low by : ℕ → ℕ) where
  abbrev shift : ℕ → ℕ → ℕ
  shift x t = later (low x) (by x) t

  abbrev shift_ends : ℕ → List ℕ → List ℕ
  shift_ends k [] = []
  shift_ends k (t ∷ ts) = shift k t ∷ shift_ends (k + 1) ts

  abbrev shift_view : View → View
  shift_view v = record { ends = shift_ends 0 v.ends }

  abbrev shift_views : Views → Views
  shift_views vs = record { cur = shift_view vs.cur; acq = shift_view vs.acq; rel = map shift_view vs.rel }

  abbrev shift_span : ℕ → Span → Span
  shift_span x s = record { from = shift x s.from; to = shift x s.to }

  abbrev shift_message : Message → Message
  shift_message m = record { location = m.location; span = shift_span m.location m.span; value = m.value; view = shift_view m.view }

  abbrev shift_lone : Lone → Lone
  shift_lone k = record { does = k.does; views = shift_views k.views; owed = k.owed }

  shift_zero : (x : ℕ) → shift x 0 ≡ 0
  shift_zero x = later_old (low x) (by x) 0 (omega arith)

  ends_at : (k : ℕ) (ts : List ℕ) (x : ℕ) → get_or (shift_ends k ts) x 0 ≡ shift (k + x) (get_or ts x 0)
  ends_at k [] x = sym (shift_zero (k + x))
  ends_at k (t ∷ ts) zero = let e : k ≡ k + 0 = omega arith in ap (λ (n : ℕ). shift n t) e
  ends_at k (t ∷ ts) (suc x) = let e : k + 1 + x ≡ k + suc x = omega arith in ends_at (k + 1) ts x ∙ ap (λ (n : ℕ). shift n (get_or ts x 0)) e

  at_shift : (v : View) (x : ℕ) → at (shift_view v) x ≡ shift x (at v x)
  at_shift v x = let e : 0 + x ≡ x = omega arith in ends_at 0 v.ends x ∙ ap (λ (n : ℕ). shift n (at v x)) e

  ends_join : (k : ℕ) (ss ts : List ℕ) → shift_ends k (greater_ends ss ts) ≡ greater_ends (shift_ends k ss) (shift_ends k ts)
  ends_join k [] ts = refl
  ends_join k (s ∷ ss) [] = refl
  ends_join k (s ∷ ss) (t ∷ ts) =
      ap (λ (u : ℕ). u ∷ shift_ends (k + 1) (greater_ends ss ts)) (later_max (low k) (by k) s t)
      ∙ ap (λ (us : List ℕ). max (shift k s) (shift k t) ∷ us) (ends_join (k + 1) ss ts)

  shift_join : (a b : View) → shift_view (join a b) ≡ join (shift_view a) (shift_view b)
  shift_join a b = ap (λ (ts : List ℕ). record { ends = ts }) (ends_join 0 a.ends b.ends)

  ends_zeros : (k n : ℕ) → shift_ends k (replicate n 0) ≡ replicate n 0
  ends_zeros k zero = refl
  ends_zeros k (suc n) =
      ap (λ (u : ℕ). u ∷ shift_ends (k + 1) (replicate n 0)) (shift_zero k) ∙ ap (λ (us : List ℕ). 0 ∷ us) (ends_zeros (k + 1) n)

  ends_set : (k : ℕ) (ts : List ℕ) (x t : ℕ) → shift_ends k (set ts x t) ≡ set (shift_ends k ts) x (shift (k + x) t)
  ends_set k [] x t = refl
  ends_set k (s ∷ ts) zero t = let e : k ≡ k + 0 = omega arith in ap (λ (n : ℕ). shift n t ∷ shift_ends (k + 1) ts) e
  ends_set k (s ∷ ts) (suc x) t =
      let e : k + 1 + x ≡ k + suc x = omega arith in
      ap (λ (us : List ℕ). shift k s ∷ us) (ends_set (k + 1) ts x t ∙ ap (λ (n : ℕ). set (shift_ends (k + 1) ts) x (shift n t)) e)

  shift_none : shift_view zero_view ≡ zero_view
  shift_none = ap (λ (ts : List ℕ). record { ends = ts }) (ends_zeros 0 8)

  shift_single : (x t : ℕ) → shift_view (single x t) ≡ single x (shift x t)
  shift_single x t =
      let e : 0 + x ≡ x = omega arith in
      ap (λ (ts : List ℕ). record { ends = ts })
      (ends_set 0 (replicate 8 0) x t ∙ ap (λ (us : List ℕ). set us x (shift (0 + x) t)) (ends_zeros 0 8) ∙ ap (λ (n : ℕ). set (replicate 8 0) x (shift n t)) e)

  -- what does not reach above the line stays
  ends_stay : (k : ℕ) (ts : List ℕ) → ((x : ℕ) → get_or ts x 0 ≤ low (k + x)) → shift_ends k ts ≡ ts
  ends_stay k [] h = refl
  ends_stay k (t ∷ ts) h =
      let e : k + 0 ≡ k = omega arith in
      ap (λ (u : ℕ). u ∷ shift_ends (k + 1) ts) (later_old (low k) (by k) t (subst (λ (n : ℕ). t ≤ low n) e (h 0)))
      ∙ ap (λ (us : List ℕ). t ∷ us) (ends_stay (k + 1) ts (λ x. let d : k + suc x ≡ k + 1 + x = omega arith in subst (λ (n : ℕ). get_or ts x 0 ≤ low n) d (h (suc x))))

  view_stays : (v : View) → ((x : ℕ) → at v x ≤ low x) → shift_view v ≡ v
  view_stays v h = ap (λ (ts : List ℕ). record { ends = ts }) (ends_stay 0 v.ends (λ x. let e : x ≡ 0 + x = omega arith in subst (λ (n : ℕ). at v x ≤ low n) e (h x)))

  rels_stay : (vs : List View) → ((y x : ℕ) → at (get_or vs y zero_view) x ≤ low x) → map shift_view vs ≡ vs
  rels_stay [] h = refl
  rels_stay (v ∷ vs) h = ap (λ (w : View). w ∷ map shift_view vs) (view_stays v (h 0)) ∙ ap (λ (ws : List View). v ∷ ws) (rels_stay vs (λ y. h (suc y)))

  -- the views of a thread
  shift_rel_at : (vs : Views) (x : ℕ) → rel_at (shift_views vs) x ≡ shift_view (rel_at vs x)
  shift_rel_at vs x = ap (λ (d : View). get_or (map shift_view vs.rel) x d) (sym shift_none) ∙ get_or-map shift_view vs.rel x zero_view

  take_in : (x t : ℕ) (v : View) → shift_view (join v (single x t)) ≡ join (shift_view v) (single x (shift x t))
  take_in x t v = shift_join v (single x t) ∙ ap (join (shift_view v)) (shift_single x t)

  take_both : (x t : ℕ) (v m : View) → shift_view (join (join v (single x t)) m) ≡ join (join (shift_view v) (single x (shift x t))) (shift_view m)
  take_both x t v m = shift_join (join v (single x t)) m ∙ ap (λ (w : View). join w (shift_view m)) (take_in x t v)

  shift_read_cur : (o : ReadMode) (x t : ℕ) (m c : View) → shift_view (read_cur o x t m c) ≡ read_cur o x (shift x t) (shift_view m) (shift_view c)
  shift_read_cur RelaxedRead x t m c = take_in x t c
  shift_read_cur Acquire x t m c = take_both x t c m

  shift_read : (o : ReadMode) (x t : ℕ) (m : View) (vs : Views) → shift_views (read_views o x t m vs) ≡ read_views o x (shift x t) (shift_view m) (shift_views vs)
  shift_read o x t m vs = λ i. record { cur = shift_read_cur o x t m vs.cur i; acq = take_both x t vs.acq m i; rel = map shift_view vs.rel }

  shift_write_rel : (o : WriteMode) (r c r' c' : View) → shift_view r ≡ r' → shift_view c ≡ c' → shift_view (write_rel o r c) ≡ write_rel o r' c'
  shift_write_rel Relaxed r c r' c' e d = e
  shift_write_rel Release r c r' c' e d = shift_join r c ∙ ap (λ (w : View). join w (shift_view c)) e ∙ ap (join r') d

  shift_write : (o : WriteMode) (x t : ℕ) (vs : Views) → shift_views (write_views o x t vs) ≡ write_views o x (shift x t) (shift_views vs)
  shift_write o x t vs = λ i. record { cur = take_in x t vs.cur i; acq = take_in x t vs.acq i; rel = rels i }
    where
      one : shift_view (write_rel o (join (rel_at vs x) (single x t)) (join vs.cur (single x t)))
          ≡ write_rel o (join (rel_at (shift_views vs) x) (single x (shift x t))) (join (shift_view vs.cur) (single x (shift x t)))
      one =
          shift_write_rel o (join (rel_at vs x) (single x t)) (join vs.cur (single x t))
          (join (rel_at (shift_views vs) x) (single x (shift x t))) (join (shift_view vs.cur) (single x (shift x t)))
          (take_in x t (rel_at vs x) ∙ ap (λ (w : View). join w (single x (shift x t))) (sym (shift_rel_at vs x))) (take_in x t vs.cur)

      rels : map shift_view (set vs.rel x (write_rel o (join (rel_at vs x) (single x t)) (join vs.cur (single x t))))
          ≡ set (map shift_view vs.rel) x (write_rel o (join (rel_at (shift_views vs) x) (single x (shift x t))) (join (shift_view vs.cur) (single x (shift x t))))
      rels = map-set shift_view vs.rel x (write_rel o (join (rel_at vs x) (single x t)) (join vs.cur (single x t))) ∙ ap (set (map shift_view vs.rel) x) one

module _ (l : ℕ) (cl : View) (base big : List Message) (has : Within base big)
    (sane : Sane base) (under : (m : Message) → In m base → m.span.to ≤ at cl m.location) where
  abbrev low : ℕ → ℕ
  low x = at cl x

  abbrev by : ℕ → ℕ
  by x = greatest_end x big

  abbrev sv : View → View
  sv v = shift_view low by v

  abbrev svs : Views → Views
  svs vs = shift_views low by vs

  abbrev sm : Message → Message
  sm m = shift_message low by m

  abbrev sl : Lone → Lone
  sl k = shift_lone low by k

  abbrev sh : ℕ → ℕ → ℕ
  sh x t = shift low by x t

  abbrev ss : ℕ → Span → Span
  ss x s = shift_span low by x s

  -- what the messages of the showing are
  abbrev New : List Message → Type 0
  New new = (m : Message) → In m new → (at cl m.location < m.span.from) × (m.span.from < m.span.to)

  abbrev Owes : Lone → Type 0
  Owes k = (m : Message) → In m k.owed → In m base

  abbrev wide : List Message → List Message
  wide new = big ++ map sm new

  known_low : (v : View) → Known base v → (x : ℕ) → at v x ≤ at cl x
  known_low v h x = elim (h x) [
    | inl z ↦ omega arith
    | inr m ↦
        let u = under m.0 m.1 in
        let e : at cl m.0.location ≡ at cl x = ap (at cl) m.2 in
        let t = m.3 in
        omega arith
  ]

  old_message : (m : Message) → In m base → sm m ≡ m
  old_message m i =
      let u = under m i in
      let f : m.span.from ≤ m.span.to = from_le (sane.formed m i) in
      let ef : sh m.location m.span.from ≡ m.span.from = later_old (low m.location) (by m.location) m.span.from (omega arith) in
      let et : sh m.location m.span.to ≡ m.span.to = later_old (low m.location) (by m.location) m.span.to u in
      let ev : sv m.view ≡ m.view = view_stays low by m.view (known_low m.view (sane.known m i)) in
      λ j. record { location = m.location; span = record { from = ef j; to = et j }; value = m.value; view = ev j }
    where
      from_le : WellFormed m → m.span.from ≤ m.span.to
      from_le (inl e) = let a : m.span.from ≡ 0 = ap (λ (q : Message). q.span.from) e in omega arith
      from_le (inr h) = let a = h.0 in omega arith

  in_wide : (ms new : List Message) (m : Message) → ms ≡ base ++ new → In m ms → In (sm m) (wide new)
  in_wide ms new m split h =
      elim (in_split m base new (subst (In m) split h)) [
        | inl a ↦ subst (λ (n : Message). In n (wide new)) (sym (old_message m a)) (in_left m big (map sm new) (has m a))
        | inr a ↦ in_right (sm m) big (map sm new) (in_map sm m new a)
      ]

  free_later : (ms new : List Message) (x : ℕ) (s : Span) → ms ≡ base ++ new → New new → at cl x < s.from → s.from < s.to → Free x s ms → Free x (ss x s) (wide new)
  free_later ms new x s split fresh above span fr n h o =
      elim (in_split n big (map sm new) h) [ inl a ↦ in_big a | inr b ↦ in_new (in_map_back sm n new b) ]
    where
      ef : sh x s.from ≡ s.from + greatest_end x big
      ef = later_new (at cl x) (greatest_end x big) s.from above

      et : sh x s.to ≡ s.to + greatest_end x big
      et = later_new (at cl x) (greatest_end x big) s.to (omega arith)

      in_big : In n big → ⊥
      in_big a = let g = greatest_end_bound x big n a o.0 in let q = o.1 in omega (arith, ef)

      in_new : ((m : Message) × In m new × (n ≡ sm m)) → ⊥
      in_new r =
          let m = r.0 in
          let loc : m.location ≡ x = sym (ap (λ (q : Message). q.location) r.2) ∙ o.0 in
          let fr-m = fresh m r.1 in
          let low-m : at cl m.location ≡ at cl x = ap (at cl) loc in
          let to : n.span.to ≡ m.span.to + greatest_end x big =
          ap (λ (q : Message). q.span.to) r.2 ∙ ap (λ (y : ℕ). sh y m.span.to) loc ∙ later_new (at cl x) (greatest_end x big) m.span.to (omega arith) in
          let from : n.span.from ≡ m.span.from + greatest_end x big =
          ap (λ (q : Message). q.span.from) r.2 ∙ ap (λ (y : ℕ). sh y m.span.from) loc ∙ later_new (at cl x) (greatest_end x big) m.span.from (omega arith) in
          let a : s.from < m.span.to = let q = o.1 in omega (arith, ef) in
          let b : m.span.from < s.to = let q = o.2 in omega (arith, et) in
          fr m (subst (In m) (sym split) (in_right m base new r.1)) (loc, a, b)

  -- the step, made later, with every S
  abbrev Made : Lone → List Message → Lone → List Message → Type 0
  Made k new k' ms' =
      (new' : List Message) × (ms' ≡ base ++ new') × New new' × Owes k' × ((ln : Line) × ((S : View) → Alone l None (sl k) S (wide new) ln (sl k') S (wide new')))

  cur_le : (k : Lone) (x t : ℕ) → at k.views.cur x ≤ t → at (sv k.views.cur) x ≤ sh x t
  cur_le k x t h = subst (λ (u : ℕ). u ≤ sh x t) (sym (at_shift low by k.views.cur x)) (later_le (low x) (by x) (at k.views.cur x) t h)

  cur_lt : (k : Lone) (x t : ℕ) → at k.views.cur x < t → at (sv k.views.cur) x < sh x t
  cur_lt k x t h = subst (λ (u : ℕ). u < sh x t) (sym (at_shift low by k.views.cur x)) (later_lt (low x) (by x) (at k.views.cur x) t h)

  -- a message that a step writes
  grown : (new : List Message) (m : Message) → wide new ++ (sm m ∷ []) ≡ wide (new ++ (m ∷ []))
  grown new m = append_assoc big (map sm new) (sm m ∷ []) ∙ ap (λ (xs : List Message). big ++ xs) (sym (map_push sm new m))

  wrote : (k : Lone) (ms new : List Message) (ln : Line) (v : ℕ) (vs : Views) (m m' : Message) → ms ≡ base ++ new → New new → Owes k
      → at cl m.location < m.span.from → m.span.from < m.span.to → m' ≡ sm m
      → ((S : View) → Alone l None (sl k) S (wide new) ln (went_on (sl k) v (svs vs)) S (wide new ++ (m' ∷ [])))
      → Made k new (went_on k v vs) (ms ++ (m ∷ []))
  wrote k ms new ln v vs m m' split fresh owes above span e s = (
    new ++ (m ∷ []),
    ap (λ (xs : List Message). xs ++ (m ∷ [])) split ∙ append_assoc base new (m ∷ []),
    in_push (λ n. (at cl n.location < n.span.from) × (n.span.from < n.span.to)) new m fresh (above, span),
    owes,
    (
      ln,
      λ S. subst (λ (xs : List Message). Alone l None (sl k) S (wide new) ln (went_on (sl k) v (svs vs)) S xs)
          (ap (λ (n : Message). wide new ++ (n ∷ [])) e ∙ grown new m) (s S),
    ),
  )

  step_later : {k k' : Lone} {S S' : View} {ms ms' : List Message} {ln : Line} (new : List Message) → ms ≡ base ++ new → New new → Owes k
      → (OwesNothing k → ⊥) → Alone l (Some cl) k S ms ln k' S' ms' → Made k new k' ms'
  step_later new split fresh owes owing (silent e) = (new, split, fresh, owes, (N, λ S. silent e))
  step_later new split fresh owes owing (acquire_fence e) = (new, split, fresh, owes, (N, λ S. acquire_fence e))
  step_later new split fresh owes owing (release_fence e n) = absurd (owing n)
  step_later new split fresh owes owing (both_fence e n) = absurd (owing n)
  step_later new split fresh owes owing (sequential_fence e n) = absurd (owing n)
  step_later new split fresh owes owing (print v e n) = absurd (owing n)
  step_later {k} {ms = ms} new split fresh owes owing (read o m e i le τ) = (
    new,
    split,
    fresh,
    owes,
    (
      R (sm m).span.to,
      λ S. subst (λ (vs : Views). Alone l None (sl k) S (wide new) (R (sm m).span.to) (went_on (sl k) m.value vs) S (wide new)) (sym (shift_read low by o m.location m.span.to m.view k.views))
          (read o (sm m) e (in_wide ms new m split i) (cur_le k m.location m.span.to le) τ),
    ),
  )
  step_later {k} {ms = ms} new split fresh owes owing (write x v o s e n less span free up) =
      let vs = write_views o x s.to k.views in
      let m = written x v s vs in
      let m' = written x v (ss x s) (svs vs) in
      let same : m' ≡ sm m = λ j. record { location = x; span = ss x s; value = v; view = shift_rel_at low by vs x j } in
      wrote k ms new (W (ss x s)) 0 vs m m' split fresh owes up span same
      (λ S. subst (λ (us : Views). Alone l None (sl k) S (wide new) (W (ss x s)) (went_on (sl k) 0 us) S (wide new ++ (written x v (ss x s) us ∷ [])))
      (sym (shift_write low by o x s.to k.views))
      (write x v o (ss x s) e n (cur_lt k x s.to less) (later_lt (low x) (by x) s.from s.to span) (free_later ms new x s split fresh up span free) tt))
  step_later {k} {ms = ms} new split fresh owes owing (update o w m v t e n i le τ span free up) =
      let x = m.location in
      let s = onward m t in
      let us = read_views o x m.span.to m.view k.views in
      let vs = write_views w x t us in
      let m₁ = updated_message x v s m.view vs in
      let m' = updated_message x v (ss x s) (sv m.view) (svs vs) in
      let view : join (rel_at (svs vs) x) (sv m.view) ≡ sv (join (rel_at vs x) m.view) =
      ap (λ (a : View). join a (sv m.view)) (shift_rel_at low by vs x) ∙ sym (shift_join low by (rel_at vs x) m.view) in
      let same : m' ≡ sm m₁ = λ j. record { location = x; span = ss x s; value = v; view = view j } in
      let changed : update_views o w x (ss x s) (sv m.view) (svs k.views) ≡ svs vs =
      ap (write_views w x (sh x t)) (sym (shift_read low by o x m.span.to m.view k.views)) ∙ sym (shift_write low by w x t us) in
      wrote k ms new (U (ss x s)) m.value vs m₁ m' split fresh owes up span same
      (λ S. subst (λ (ws : Views). Alone l None (sl k) S (wide new) (U (ss x s)) (went_on (sl k) m.value ws) S (wide new ++ (updated_message x v (ss x s) (sv m.view) ws ∷ [])))
      changed
      (update o w (sm m) v (sh x t) e n (in_wide ms new m split i) (cur_le k x m.span.to le) τ (later_lt (low x) (by x) m.span.to t span) (free_later ms new x s split fresh up span free) tt))
  step_later {k} new split fresh owes owing (keep m before later e o less) =
      let x = m.location in
      let i : In m base = owes m (subst (In m) (sym o) (in_right m before (m ∷ later) (inl refl))) in
      let old : sh x m.span.to ≡ m.span.to = later_old (low x) (by x) m.span.to (under m i) in
      let views : write_views Relaxed x m.span.to (svs k.views) ≡ svs (write_views Relaxed x m.span.to k.views) =
      ap (λ (u : ℕ). write_views Relaxed x u (svs k.views)) (sym old) ∙ sym (shift_write low by Relaxed x m.span.to k.views) in (
        new,
        split,
        fresh,
        (λ n h. owes n (subst (In n) (sym o) (elim (in_split n before later h) [ inl a ↦ in_left n before (m ∷ later) a | inr b ↦ in_right n before (m ∷ later) (inr b) ]))),
        (
          H m.span.to,
          λ S. subst (λ (vs : Views). Alone l None (sl k) S (wide new) (H m.span.to) (record { does = after k.does 0; views = vs; owed = before ++ later }) S (wide new)) views
              (keep m before later e o (subst (λ (u : ℕ). at (sv k.views.cur) x < u) old (cur_lt k x m.span.to less))),
        ),
      )

  -- all the steps
  abbrev AllMade : Lone → Lone → List Message → Type 0
  AllMade k k' ms' = (new' : List Message) × (ms' ≡ base ++ new') × New new' × Owes k' × ((S : View) → Steps l None (sl k) S big (sl k') S (wide new'))

  steps_later : {k : Lone} {S : View} {k' : Lone} {S' : View} {ms' : List Message} → Owes k → Shown l cl k S base k' S' ms' → AllMade k k' ms'
  steps_later {k} owes start = (
    [],
    sym (append-nil base),
    (λ m h. absurd h),
    owes,
    λ S. subst (λ (xs : List Message). Steps l None (sl k) S big (sl k) S xs) (sym (append-nil big)) done,
  )
  steps_later owes (more rest owing step) =
      let r = steps_later owes rest in
      let s = step_later r.0 r.1 r.2 r.3 owing step in
      (s.0, s.1, s.2, s.3, λ S. then (r.4 S) (s.4.1 S))

  -- what was shown above the line can be done in the memory
  pub shown : {k k' : Lone} {S S' : View} {ms' : List Message} → Holds k S base → Shown l cl k S base k' S' ms' → OwesNothing k' → (S₁ : View) → CanKeep l k S₁ big
  shown {k} {k'} h steps none S₁ =
      let r = steps_later h.owed steps in
      let views : svs k.views ≡ k.views = λ j. record {
        cur = view_stays low by k.views.cur (known_low k.views.cur h.fit.known.cur) j;
        acq = view_stays low by k.views.acq (known_low k.views.acq h.fit.known.acq) j;
        rel = rels_stay low by k.views.rel (λ y. known_low (rel_at k.views y) (h.fit.known.rel y)) j;
      } in
      let same : sl k ≡ k = λ j. record { does = k.does; views = views j; owed = k.owed } in
      (sl k', S₁, wide r.0, subst (λ (a : Lone). Steps l None a S₁ big (sl k') S₁ (wide r.0)) same (r.4 S₁), none)
