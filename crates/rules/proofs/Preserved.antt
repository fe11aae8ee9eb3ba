-- What a thread's own steps keep: views know only ends that are there, and messages stay well formed and apart. Assumes nothing.
use Rattle.std.proofs.Common.{◌≡◌, ℕ, ◌<◌, ◌≤◌, ◌⊎◌, List, [], ◌∷◌, ◌++◌, length, get_or, set, replicate, Some, Option, sym, refl, ap, ◌∙◌, subst, inl, inr, append-nil, arith, length-set}
use lib.ListN.{length-replicate}
use Rattle.std.proofs.lemmas.List.{get_or-set_same, get_or-set_other, set_past, get_or-replicate, get_or_past}
use Rattle.std.proofs.lemmas.Bool.{cases_eq, cases_lt, ltb-true, cond_both}
use Rattle.lines.specs.declared.trace.Line.{Line}
use Rattle.languages.specs.declared.action.Action.{Action}
use Rattle.languages.specs.declared.action.Action.TheVariants.{Silent, Read, Write, Update, Fence, Print, Ended}
use Rattle.languages.specs.declared.action.ReadMode.{ReadMode}
use Rattle.languages.specs.declared.action.ReadMode.TheVariants.{Relaxed as RelaxedRead, Acquire}
use Rattle.languages.specs.declared.action.WriteMode.{WriteMode}
use Rattle.languages.specs.declared.action.WriteMode.TheVariants.{Relaxed, Release}
use Rattle.stores.specs.declared.view.View.{View}
use Rattle.stores.specs.declared.message.Message.{Message}
use Rattle.stores.specs.Views.{at, zero_view, single, join, Below}
use Rattle.stores.specs.StoreLaws.{In, Free}
use Rattle.stores.proofs.ViewLaws.{at_join, at_zero, at_single, at_single_other, single_outside, zero_below, below_refl}
use Rattle.rules.specs.Models.{Views}
use Rattle.rules.specs.Threads.{within, reads, rel_at, read_cur, read_views, write_rel, write_views, acquire_views, release_views, all_views}
use Rattle.rules.specs.Rules.{written, updated_message, update_views}
use Rattle.rules.specs.Alone.{Lone, onward, Alone, silent, acquire_fence, release_fence, both_fence, sequential_fence, print, read, write, update, keep}
use Rattle.rules.specs.Laws.{WellFormed, Apart, Known, KnownViews, Ordered}
use Rattle.rules.proofs.Members.{in_left, in_right, in_last, in_split, in_push, apart_push, free_off, known_more}

-- an action's location, if it has one, is below l
abbrev Placed : ℕ → Action → Type 0
Placed l Silent = Unit {0}
Placed l (Read x o) = x < l
Placed l (Write x v o) = x < l
Placed l (Update x o w) = x < l
Placed l (Fence o) = Unit {0}
Placed l (Print v) = Unit {0}
Placed l Ended = Unit {0}

within_placed : (l : ℕ) (a : Action) → Placed l (within l a)
within_placed l Silent = tt
within_placed l (Read x o) = cond_both _ _ _ (Placed l) (ltb-true x l) (λ _. tt)
within_placed l (Write x v o) = cond_both _ _ _ (Placed l) (ltb-true x l) (λ _. tt)
within_placed l (Update x o w) = cond_both _ _ _ (Placed l) (ltb-true x l) (λ _. tt)
within_placed l (Fence o) = tt
within_placed l (Print v) = tt
within_placed l Ended = tt

pub write_within : (l : ℕ) (a : Action) (x v : ℕ) (o : WriteMode) → within l a ≡ Write x v o → x < l
write_within l a x v o e = subst (Placed l) e (within_placed l a)

pub update_within : (l : ℕ) (a : Action) (x : ℕ) (o : ReadMode) (w : WriteMode) → within l a ≡ Update x o w → x < l
update_within l a x o w e = subst (Placed l) e (within_placed l a)

pub reads_within : (l : ℕ) (a : Action) (x : ℕ) (o : ReadMode) → reads (within l a) ≡ Some (x, o) → x < l
reads_within l a x o e = go (within l a) (within_placed l a) e
  where
    same : (y : ℕ) (p : ReadMode) → y < l → ◌≡◌ {A = Option (ℕ × ReadMode)} (Some (y, p)) (Some (x, o)) → x < l
    same y p h s =
        let pair : ◌≡◌ {A = ℕ × ReadMode} (y, p) (x, o) = cc in
        let q : y ≡ x = ap (λ (r : ℕ × ReadMode). r.0) pair in
        omega arith

    go : (b : Action) → Placed l b → reads b ≡ Some (x, o) → x < l
    go Silent h s = cc
    go (Read y p) h s = same y p h s
    go (Write y v p) h s = cc
    go (Update y p w) h s = same y p h s
    go (Fence p) h s = cc
    go (Print v) h s = cc
    go Ended h s = cc

-- views that know only ends of these messages
pub known_zero : (ms : List Message) → Known ms zero_view
known_zero ms x = inl (at_zero x)

-- an end that one view has, in another
same_end : (ms : List Message) (v w : View) (x : ℕ) → Known ms v → at v x ≡ at w x → (at w x ≡ 0) ⊎ ((m : Message) × In m ms × (m.location ≡ x) × (m.span.to ≡ at w x))
same_end ms v w x h e = elim (h x) [ inl z ↦ inl (sym e ∙ z) | inr m ↦ inr (m.0, m.1, m.2, m.3 ∙ e) ]

pub known_join : (ms : List Message) (a b : View) → Known ms a → Known ms b → Known ms (join a b)
known_join ms a b h g x =
    let e = at_join a b x in
    elim (cases_lt (at a x) (at b x)) [ inl l ↦ same_end ms b (join a b) x g (omega arith) | inr l ↦ same_end ms a (join a b) x h (omega arith) ]

pub known_single : (ms : List Message) (m : Message) → In m ms → Known ms (single m.location m.span.to)
known_single ms m i y =
    elim (cases_eq y m.location) [
      | inl e ↦ elim (cases_lt m.location 8) [
        | inl lt ↦ inr (m, i, sym e, sym (ap (at (single m.location m.span.to)) e ∙ at_single m.location m.span.to lt))
        | inr ge ↦ inl (ap (λ (v : View). at v y) (single_outside m.location m.span.to ge) ∙ at_zero y)
      ]
      | inr ne ↦ inl (at_single_other m.location m.span.to y ne)
    ]

-- what the rel of a location is after one was set, or all were
rel_set : (F : View → Type 0) (vs : List View) (x y : ℕ) (v : View) → F v → F (get_or vs y zero_view) → F (get_or (set vs x v) y zero_view)
rel_set F vs x y v h g =
    elim (cases_eq y x) [
      | inl e ↦ elim (cases_lt x (length vs)) [
        | inl lt ↦ subst F (sym (ap (λ (n : ℕ). get_or (set vs x v) n zero_view) e ∙ get_or-set_same vs x v zero_view lt)) h
        | inr ge ↦ subst F (sym (ap (λ (ws : List View). get_or ws y zero_view) (set_past vs x v ge))) g
      ]
      | inr ne ↦ subst F (sym (get_or-set_other vs x y v zero_view ne)) g
    ]

rel_all : (F : View → Type 0) (y : ℕ) (v : View) → F v → F zero_view → F (get_or (replicate 8 v) y zero_view)
rel_all F y v h z =
    elim (cases_lt y 8) [
      | inl lt ↦ subst F (sym (get_or-replicate 8 y v zero_view lt)) h
      | inr ge ↦ subst F (sym (get_or_past (replicate 8 v) y zero_view (let e = length-replicate 8 v in omega arith))) z
    ]

-- the views of a thread, among these messages
pub record Fit (ms : List Message) (vs : Views) : Type 0 where
  pub known : KnownViews ms vs
  pub ordered : Ordered vs
  pub eight : length vs.rel ≡ 8

pub fit_more : (ms xs : List Message) (vs : Views) → Fit ms vs → Fit (ms ++ xs) vs
fit_more ms xs vs h = record {
  known = record {
    cur = known_more ms xs vs.cur h.known.cur;
    acq = known_more ms xs vs.acq h.known.acq;
    rel = λ x. known_more ms xs (rel_at vs x) (h.known.rel x);
  };
  ordered = h.ordered;
  eight = h.eight;
}

read_fit : (ms : List Message) (o : ReadMode) (m : Message) (vs : Views) → In m ms → Known ms m.view → Fit ms vs
    → Fit ms (read_views o m.location m.span.to m.view vs)
read_fit ms o m vs i km h = record {
  known = record { cur = cur o; acq = known_join ms (join vs.acq s) m.view (known_join ms vs.acq s h.known.acq ks) km; rel = h.known.rel };
  ordered = record { rel = λ x y. let a = h.ordered.rel x y in let b = more o y in omega arith; acq = below o };
  eight = h.eight;
}
  where
    s : View
    s = single m.location m.span.to

    ks : Known ms (single m.location m.span.to)
    ks = known_single ms m i

    cur : (o : ReadMode) → Known ms (read_cur o m.location m.span.to m.view vs.cur)
    cur RelaxedRead = known_join ms vs.cur (single m.location m.span.to) h.known.cur ks
    cur Acquire = known_join ms (join vs.cur (single m.location m.span.to)) m.view (known_join ms vs.cur (single m.location m.span.to) h.known.cur ks) km

    more : (o : ReadMode) (y : ℕ) → at vs.cur y ≤ at (read_cur o m.location m.span.to m.view vs.cur) y
    more RelaxedRead y = let a = at_join vs.cur (single m.location m.span.to) y in omega arith
    more Acquire y = let a = at_join vs.cur (single m.location m.span.to) y in let b = at_join (join vs.cur (single m.location m.span.to)) m.view y in omega arith

    below : (o : ReadMode) → Below (read_cur o m.location m.span.to m.view vs.cur) (join (join vs.acq (single m.location m.span.to)) m.view)
    below RelaxedRead y =
        let a = at_join vs.cur (single m.location m.span.to) y in
        let b = at_join vs.acq (single m.location m.span.to) y in
        let c = at_join (join vs.acq (single m.location m.span.to)) m.view y in
        let d = h.ordered.acq y in
        omega arith
    below Acquire y =
        let a = at_join vs.cur (single m.location m.span.to) y in
        let e = at_join (join vs.cur (single m.location m.span.to)) m.view y in
        let b = at_join vs.acq (single m.location m.span.to) y in
        let c = at_join (join vs.acq (single m.location m.span.to)) m.view y in
        let d = h.ordered.acq y in
        omega arith

write_fit : (ms : List Message) (o : WriteMode) (x t : ℕ) (vs : Views) → Known ms (single x t) → Fit ms vs → Fit ms (write_views o x t vs)
write_fit ms o x t vs ks h = record {
  known = record {
    cur = kc;
    acq = known_join ms vs.acq (single x t) h.known.acq ks;
    rel = λ y. rel_set (Known ms) vs.rel x y (write_rel o (join (rel_at vs x) (single x t)) (join vs.cur (single x t))) (kr o) (h.known.rel y);
  };
  ordered = record {
    rel = λ y. rel_set (λ v. Below v (join vs.cur (single x t))) vs.rel x y (write_rel o (join (rel_at vs x) (single x t)) (join vs.cur (single x t))) (br o)
        (λ z. let a = h.ordered.rel y z in let b = at_join vs.cur (single x t) z in omega arith);
    acq = λ y. let a = h.ordered.acq y in let b = at_join vs.cur (single x t) y in let c = at_join vs.acq (single x t) y in omega arith;
  };
  eight = length-set vs.rel x (write_rel o (join (rel_at vs x) (single x t)) (join vs.cur (single x t))) ∙ h.eight;
}
  where
    kc : Known ms (join vs.cur (single x t))
    kc = known_join ms vs.cur (single x t) h.known.cur ks

    kr : (o : WriteMode) → Known ms (write_rel o (join (rel_at vs x) (single x t)) (join vs.cur (single x t)))
    kr Relaxed = known_join ms (rel_at vs x) (single x t) (h.known.rel x) ks
    kr Release = known_join ms (join (rel_at vs x) (single x t)) (join vs.cur (single x t)) (known_join ms (rel_at vs x) (single x t) (h.known.rel x) ks) kc

    br : (o : WriteMode) → Below (write_rel o (join (rel_at vs x) (single x t)) (join vs.cur (single x t))) (join vs.cur (single x t))
    br Relaxed y = let a = h.ordered.rel x y in let b = at_join (rel_at vs x) (single x t) y in let c = at_join vs.cur (single x t) y in omega arith
    br Release y =
        let a = h.ordered.rel x y in
        let b = at_join (rel_at vs x) (single x t) y in
        let c = at_join vs.cur (single x t) y in
        let d = at_join (join (rel_at vs x) (single x t)) (join vs.cur (single x t)) y in
        omega arith

pub all_fit : (ms : List Message) (v : View) → Known ms v → Fit ms (all_views v)
all_fit ms v h = record {
  known = record { cur = h; acq = h; rel = λ y. rel_all (Known ms) y v h (known_zero ms) };
  ordered = record { rel = λ y. rel_all (λ w. Below w v) y v (below_refl v) (zero_below v); acq = below_refl v };
  eight = length-replicate 8 v;
}

-- what the view of a written message has at its own location
written_end : (o : WriteMode) (x t : ℕ) (vs : Views) → x < 8 → length vs.rel ≡ 8 → Ordered vs → at vs.cur x ≤ t → at (rel_at (write_views o x t vs) x) x ≡ t
written_end o x t vs lt e h le =
    ap (λ (v : View). at v x) (get_or-set_same vs.rel x (write_rel o (join (rel_at vs x) (single x t)) (join vs.cur (single x t))) zero_view (omega arith)) ∙ end o
  where
    end : (o : WriteMode) → at (write_rel o (join (rel_at vs x) (single x t)) (join vs.cur (single x t))) x ≡ t
    end Relaxed = let a = h.rel x x in let b = at_join (rel_at vs x) (single x t) x in let c = at_single x t lt in omega arith
    end Release =
        let a = h.rel x x in
        let b = at_join (rel_at vs x) (single x t) x in
        let c = at_single x t lt in
        let d = at_join vs.cur (single x t) x in
        let f = at_join (join (rel_at vs x) (single x t)) (join vs.cur (single x t)) x in
        omega arith

read_cur_end : (o : ReadMode) (x t : ℕ) (m c : View) → at c x ≤ t → at m x ≤ t → at (read_cur o x t m c) x ≤ t
read_cur_end o x t m c h g = go o
  where
    s_end : at (single x t) x ≤ t
    s_end =
        elim (cases_lt x 8) [
          | inl lt ↦ let e = at_single x t lt in omega arith
          | inr ge ↦ let e = ap (λ (v : View). at v x) (single_outside x t ge) ∙ at_zero x in omega arith
        ]

    go : (o : ReadMode) → at (read_cur o x t m c) x ≤ t
    go RelaxedRead = let a = at_join c (single x t) x in omega (arith, s_end)
    go Acquire = let a = at_join c (single x t) x in let b = at_join (join c (single x t)) m x in omega (arith, s_end)

formed_end : (m : Message) → WellFormed m → at m.view m.location ≤ m.span.to
formed_end m (inl e) = let a : at m.view m.location ≡ at zero_view m.location = ap (λ (q : Message). at q.view m.location) e in let z = at_zero m.location in omega arith
formed_end m (inr h) = let a = h.1 in omega arith

-- a memory
pub record Sane (ms : List Message) : Type 0 where
  pub placed : (m : Message) → In m ms → m.location < 8
  pub formed : (m : Message) → In m ms → WellFormed m
  pub apart : Apart ms
  pub known : (m : Message) → In m ms → Known ms m.view

pub sane_push : (ms : List Message) (m : Message) → Sane ms → m.location < 8 → m.span.from < m.span.to → at m.view m.location ≡ m.span.to → Free m.location m.span ms → Known (ms ++ (m ∷ [])) m.view
    → Sane (ms ++ (m ∷ []))
sane_push ms m h place span end free k = record {
  placed = in_push (λ n. n.location < 8) ms m h.placed place;
  formed = in_push WellFormed ms m h.formed (inr (span, end));
  apart = apart_push m ms h.apart (free_off m span ms h.formed free);
  known = in_push (λ n. Known (ms ++ (m ∷ [])) n.view) ms m (λ n i. known_more ms (m ∷ []) n.view (h.known n i)) k;
}

-- a thread with S and a memory
pub record Holds (k : Lone) (S : View) (M : List Message) : Type 0 where
  pub fit : Fit M k.views
  pub sc : Known M S
  pub sane : Sane M
  pub owed : (m : Message) → In m k.owed → In m M

module _ (l : ℕ) (few : l ≤ 8) (closing : Option View) (k : Lone) (S : View) (M : List Message) (h : Holds k S M) where
  same : (k' : Lone) (S' : View) → Fit M k'.views → Known M S' → k'.owed ≡ k.owed → Holds k' S' M
  same k' S' f s e = record { fit = f; sc = s; sane = h.sane; owed = λ m i. h.owed m (subst (In m) e i) }

  grown : (k' : Lone) (m : Message) → k'.owed ≡ k.owed → m.location < 8 → m.span.from < m.span.to → at m.view m.location ≡ m.span.to → Free m.location m.span M
      → Fit (M ++ (m ∷ [])) k'.views → Known (M ++ (m ∷ [])) m.view → Holds k' S (M ++ (m ∷ []))
  grown k' m e place span end free f v = record {
    fit = f;
    sc = known_more M (m ∷ []) S h.sc;
    sane = sane_push M m h.sane place span end free v;
    owed = λ n i. in_left n M (m ∷ []) (h.owed n (subst (In n) e i));
  }

  fenced : (vs : Views) → Known M vs.cur → Known M vs.acq → ((x : ℕ) → Known M (rel_at vs x)) → ((x : ℕ) → Below (rel_at vs x) vs.cur) → Below vs.cur vs.acq → length vs.rel ≡ 8 → Fit M vs
  fenced vs c a r br ba e = record { known = record { cur = c; acq = a; rel = r }; ordered = record { rel = br; acq = ba }; eight = e }

  pub step_holds : {line : Line} {k' : Lone} {S' : View} {M' : List Message} → Alone l closing k S M line k' S' M' → Holds k' S' M'
  step_holds {k' = k'} (silent e) = same k' S h.fit h.sc refl
  step_holds {k' = k'} (acquire_fence e) =
      same k' S (fenced (acquire_views k.views) h.fit.known.acq h.fit.known.acq h.fit.known.rel
      (λ x y. let a = h.fit.ordered.rel x y in let b = h.fit.ordered.acq y in omega arith) (below_refl k.views.acq) h.fit.eight) h.sc refl
  step_holds {k' = k'} (release_fence e n) =
      let c = k.views.cur in
      same k' S (fenced (release_views k.views) h.fit.known.cur h.fit.known.acq (λ x. rel_all (Known M) x c h.fit.known.cur (known_zero M))
      (λ x. rel_all (λ w. Below w c) x c (below_refl c) (zero_below c)) h.fit.ordered.acq (length-replicate 8 c)) h.sc refl
  step_holds {k' = k'} (both_fence e n) = same k' S (all_fit M k.views.acq h.fit.known.acq) h.sc refl
  step_holds {k' = k'} {S' = S'} (sequential_fence e n) =
      let s = known_join M S k.views.acq h.sc h.fit.known.acq in
      same k' S' (all_fit M (join S k.views.acq) s) s refl
  step_holds {k' = k'} (print v e n) = same k' S h.fit h.sc refl
  step_holds {k' = k'} (read o m e i le τ) = same k' S (read_fit M o m k.views i (h.sane.known m i) h.fit) h.sc refl
  step_holds {k' = k'} (write x v o s e n less span free up) =
      let vs = write_views o x s.to k.views in
      let m = written x v s vs in
      let fit : Fit (M ++ (m ∷ [])) vs = write_fit (M ++ (m ∷ [])) o x s.to k.views (known_single (M ++ (m ∷ [])) m (in_last m M)) (fit_more M (m ∷ []) k.views h.fit) in
      let lt : x < l = write_within l (k.does []).next x v o e in
      grown k' m refl (omega arith) span (written_end o x s.to k.views (omega arith) h.fit.eight h.fit.ordered (omega arith)) free fit (fit.known.rel x)
  step_holds {k' = k'} (update o w m v t e n i le τ span free up) =
      let x = m.location in
      let us = read_views o x m.span.to m.view k.views in
      let vs = write_views w x t us in
      let m' = updated_message x v (onward m t) m.view vs in
      let after_read : Fit M us = read_fit M o m k.views i (h.sane.known m i) h.fit in
      let fit : Fit (M ++ (m' ∷ [])) vs = write_fit (M ++ (m' ∷ [])) w x t us (known_single (M ++ (m' ∷ [])) m' (in_last m' M)) (fit_more M (m' ∷ []) us after_read) in
      let lt : x < l = update_within l (k.does []).next x o w e in
      let own : at m.view x ≤ m.span.to = formed_end m (h.sane.formed m i) in
      let cur : at us.cur x ≤ m.span.to = read_cur_end o x m.span.to m.view k.views.cur le own in
      let rel : at (rel_at vs x) x ≡ t = written_end w x t us (omega arith) after_read.eight after_read.ordered (omega arith) in
      let end : at (join (rel_at vs x) m.view) x ≡ t = let a = at_join (rel_at vs x) m.view x in omega arith in
      grown k' m' refl (omega arith) span end free fit
      (known_join (M ++ (m' ∷ [])) (rel_at vs x) m.view (fit.known.rel x) (known_more M (m' ∷ []) m.view (h.sane.known m i)))
  step_holds {k' = k'} (keep m before later e o less) =
      record {
        fit = write_fit M Relaxed m.location m.span.to k.views (known_single M m (h.owed m (subst (In m) (sym o) (in_right m before (m ∷ later) (inl refl))))) h.fit;
        sc = h.sc;
        sane = h.sane;
        owed = λ n i. h.owed n (subst (In n) (sym o) (elim (in_split n before later i) [ inl a ↦ in_left n before (m ∷ later) a | inr b ↦ in_right n before (m ∷ later) (inr b) ]));
      }

-- memory only grows
pub step_grows : {l : ℕ} {closing : Option View} {k : Lone} {S : View} {M : List Message} {line : Line} {k' : Lone} {S' : View} {M' : List Message}
    → Alone l closing k S M line k' S' M' → (xs : List Message) × (M' ≡ M ++ xs)
step_grows {M = M} (silent e) = ([], sym (append-nil M))
step_grows {M = M} (acquire_fence e) = ([], sym (append-nil M))
step_grows {M = M} (release_fence e n) = ([], sym (append-nil M))
step_grows {M = M} (both_fence e n) = ([], sym (append-nil M))
step_grows {M = M} (sequential_fence e n) = ([], sym (append-nil M))
step_grows {M = M} (print v e n) = ([], sym (append-nil M))
step_grows {M = M} (read o m e i le τ) = ([], sym (append-nil M))
step_grows {k = k} (write x v o s e n less span free up) = (written x v s (write_views o x s.to k.views) ∷ [], refl)
step_grows {k = k} (update o w m v t e n i le τ span free up) =
    (updated_message m.location v (onward m t) m.view (update_views o w m.location (onward m t) m.view k.views) ∷ [], refl)
step_grows {M = M} (keep m before later e o less) = ([], sym (append-nil M))
