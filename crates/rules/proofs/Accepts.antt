-- What a thread is let do is a step of the relation. Assumes nothing.
use Rattle.std.proofs.Common.{◌≡◌, ℕ, ◌<◌, ◌≤◌, Bool, true, false, cond, ◌&&◌, ltb, List, [], ◌∷◌, ◌++◌, length, Some, None, Option, sym, refl, ap, ◌∙◌, subst, append-nil, arith}
use Rattle.std.proofs.lemmas.List.{length_push}
use Rattle.std.proofs.lemmas.Bool.{and_parts, leb-true, ltb-true, eqb-true}
use Rattle.lines.specs.declared.span.Span.{Span}
use Rattle.lines.specs.declared.trace.Line.{Line}
use Rattle.lines.specs.declared.trace.Line.TheVariants.{Turn as T, Next as N, Read as R, Write as W, Update as U, Promise as G, Keep as H, Show as X, EndTurn as E}
use Rattle.languages.specs.declared.action.Action.{Action}
use Rattle.languages.specs.declared.action.Action.TheVariants.{Silent, Read, Write, Update, Fence, Print, Ended}
use Rattle.languages.specs.declared.action.ReadMode.{ReadMode}
use Rattle.languages.specs.declared.action.WriteMode.{WriteMode}
use Rattle.languages.specs.declared.action.WriteMode.TheVariants.{Relaxed, Release}
use Rattle.languages.specs.declared.action.FenceKind.{FenceKind}
use Rattle.languages.specs.declared.action.FenceKind.TheVariants.{Acquire as AcquireFence, Release as ReleaseFence, Both, Sequential}
use Rattle.languages.specs.declared.action.Taking.{Taking}
use Rattle.languages.specs.declared.action.Taking.TheVariants.{NotTaken, OnlyRead, Replaced}
use Rattle.languages.specs.Behaviours.{after}
use Rattle.stores.specs.declared.view.View.{View}
use Rattle.stores.specs.declared.message.Message.{Message}
use Rattle.stores.specs.declared.kept.StoreFault.TheVariants.{Full}
use Rattle.stores.specs.Views.{at, join}
use Rattle.stores.specs.Memory.{zero_message, find, is_free}
use Rattle.stores.specs.StoreLaws.{In, Free, EndsAt}
use Rattle.stores.proofs.StoreLaws.{in_at, is_free_sound, find_from_some}
use Rattle.rules.specs.declared.fault.StepFault.{StepFault}
use Rattle.rules.specs.declared.fault.StepFault.TheVariants.{Owing, TooNew, Span as BadSpan, ClosingLine, Store, LogFull}
use Rattle.rules.specs.Models.{Views, Thread, Part}
use Rattle.rules.specs.Threads.{next_of, reads, read_views, write_views, acquire_views, release_views, both_views, all_views, none_owed, find_owed}
use Rattle.rules.specs.Rules.{Tried, went, refused, unless, message_at, goes_on, with_thread, fence_result, print_result, next_at, read_taking, read_found, read_at, release_owes, with_message, above, span_refusal, write_refusal, adds, written, write_at, update_views, updated_message, update_taking, update_found, update_at, keeps, keep_found, keep_at, act_result}
use Rattle.rules.specs.Alone.{lone, OwesNothingAt, went_on, kept, Above, onward, Alone, silent, acquire_fence, release_fence, both_fence, sequential_fence, print, read, write, update, keep}
use Rattle.rules.specs.Steps.{printed, Marks}
use Rattle.rules.proofs.Marked.{nothing, owes_at_sound, marked_more, bare_more, marked_split, marks_keep, find_owed_some}

-- where it went
abbrev pub When : {Y : Type 0} → (Y → Type 0) → Tried Y → Type 0
When F (went y) = F y
When F (refused e) = Unit {0}

-- a line goes only where a test passes, or only where it does not
pub when_passed : {Y : Type 0} (F : Y → Type 0) (b : Bool) (t : Tried Y) (e : StepFault) → (b ≡ true → When F t) → When F (cond b t (refused e))
when_passed F true t e h = h refl
when_passed F false t e h = tt

pub when_missed : {Y : Type 0} (F : Y → Type 0) (b : Bool) (t : Tried Y) (e : StepFault) → (b ≡ false → When F t) → When F (cond b (refused e) t)
when_missed F true t e h = tt
when_missed F false t e h = h refl

-- what an accepted line of thread i did to its part
pub record Acted (l i : ℕ) (closing : Option View) (line : Line) (p p' : Part) : Type 0 where
  pub step : Alone l closing (lone p.thread p.memory) p.sc p.memory line (lone p'.thread p'.memory) p'.sc p'.memory
  pub marks : Marks p'.thread.owed p'.memory
  pub capacity : p'.capacity ≡ p.capacity
  pub room : length p'.memory ≤ p.capacity
  pub log : p'.log ≡ p.log ++ printed i (next_of l p.thread.does)
  pub prints : length p'.log ≤ 64

-- a test that did not refuse
passed : (b : Bool) (e : StepFault) (o : Option StepFault) → cond b o (Some e) ≡ None → (b ≡ true) × (o ≡ None)
passed true e o h = (refl, h)
passed false e o h = cc

missed : (b : Bool) (e : StepFault) (o : Option StepFault) → cond b (Some e) o ≡ None → (b ≡ false) × (o ≡ None)
missed true e o h = cc
missed false e o h = (refl, h)

above_sound : (closing : Option View) (x f : ℕ) → above closing x f ≡ true → Above closing x f
above_sound None x f h = tt
above_sound (Some line) x f h = ltb-true (at line x) f h

pub span_sound : (closing : Option View) (x : ℕ) (s : Span) (ms : List Message) → span_refusal closing x s ms ≡ None
    → (s.from < s.to) × Free x s ms × Above closing x s.from
span_sound closing x s ms h =
    let a = passed (ltb s.from s.to && is_free x s ms) BadSpan (cond (above closing x s.from) None (Some ClosingLine)) h in
    let b = passed (above closing x s.from) ClosingLine None a.1 in
    let c = and_parts (ltb s.from s.to) (is_free x s ms) a.0 in
    (ltb-true s.from s.to c.0, is_free_sound x s ms c.1, above_sound closing x s.from b.0)

reads_print : (i : ℕ) (a : Action) (q : ℕ × ReadMode) → reads a ≡ Some q → printed i a ≡ []
reads_print i Silent q h = refl
reads_print i (Read x o) q h = refl
reads_print i (Write x v o) q h = refl
reads_print i (Update x o w) q h = refl
reads_print i (Fence o) q h = refl
reads_print i (Print v) q h = cc
reads_print i Ended q h = refl

-- the message that is found
pub found_at : (x t : ℕ) (ms : List Message) (j : ℕ) → find x t ms ≡ Some j → (j < length ms) × In (message_at ms j) ms × EndsAt x t (message_at ms j)
found_at x t ms j h =
    let r = find_from_some 0 x t ms zero_message j h in
    let same : r.0 ≡ j = omega arith in
    subst (λ (n : ℕ). (n < length ms) × In (message_at ms n) ms × EndsAt x t (message_at ms n)) same (r.2, in_at ms r.0 zero_message r.2, r.3)

unless_when : (F : Part → Type 0) (o : Option StepFault) (t : Tried Part) → (o ≡ None → When F t) → When F (unless o t)
unless_when F None t h = h refl
unless_when F (Some e) t h = tt

module _ (l i : ℕ) (closing : Option View) (p : Part) (marks : Marks p.thread.owed p.memory) (room : length p.memory ≤ p.capacity) (prints : length p.log ≤ 64) where
  abbrev k : Thread
  k = p.thread

  abbrev ms : List Message
  ms = p.memory

  abbrev To : Line → Part → Type 0
  To line p' = Acted l i closing line p p'

  same_log : printed i (next_of l k.does) ≡ [] → p.log ≡ p.log ++ printed i (next_of l k.does)
  same_log e = sym (append-nil p.log) ∙ ap (λ (xs : List (ℕ × ℕ)). p.log ++ xs) (sym e)

  -- the memory stays
  stays : (line : Line) (k' : Thread) → printed i (next_of l k.does) ≡ [] → Marks k'.owed ms
      → Alone l closing (lone k ms) p.sc ms line (lone k' ms) p.sc ms → To line (with_thread p k')
  stays line k' e m s = record { step = s; marks = m; capacity = refl; room = room; log = same_log e; prints = prints }

  -- a message is added
  grows : (line : Line) (v : ℕ) (vs : Views) (m : Message) → printed i (next_of l k.does) ≡ []
      → Alone l closing (lone k ms) p.sc ms line (went_on (lone k ms) v vs) p.sc (ms ++ (m ∷ []))
      → When (To line) (adds p (goes_on k v vs) m)
  grows line v vs m e s =
      when_passed (To line) (ltb (length ms) p.capacity) (went (with_message p (goes_on k v vs) m)) (Store Full)
      (λ less. record {
        step = subst (λ (os : List Message). Alone l closing (lone k ms) p.sc ms line (record { does = after k.does v; views = vs; owed = os }) p.sc (ms ++ (m ∷ [])))
            (sym (marked_more k.owed ms (m ∷ []) marks.1)) s;
        marks = (marks.0, bare_more k.owed ms (m ∷ []) marks.1);
        capacity = refl;
        room = let a = ltb-true (length ms) p.capacity less in let b = length_push ms m in omega arith;
        log = same_log e;
        prints = prints;
      })

  fence_step : (o : FenceKind) → next_of l k.does ≡ Fence o → When (To N) (fence_result p o)
  fence_step AcquireFence e = stays N (goes_on k 0 (acquire_views k.views)) (ap (printed i) e) marks (acquire_fence e)
  fence_step ReleaseFence e =
      when_passed (To N) _ _ _
      (λ o. stays N (goes_on k 0 (release_views k.views)) (ap (printed i) e) marks (release_fence e (nothing k.owed ms o)))
  fence_step Both e =
      when_passed (To N) _ _ _
      (λ o. stays N (goes_on k 0 (both_views k.views)) (ap (printed i) e) marks (both_fence e (nothing k.owed ms o)))
  fence_step Sequential e =
      when_passed (To N) (none_owed k.owed) (went (record { thread = goes_on k 0 (all_views (join p.sc k.views.acq)); memory = ms; capacity = p.capacity; sc = join p.sc k.views.acq; log = p.log })) Owing
      (λ o. record {
        step = sequential_fence e (nothing k.owed ms o);
        marks = marks;
        capacity = refl;
        room = room;
        log = same_log (ap (printed i) e);
        prints = prints;
      })

  print_step : (v : ℕ) → next_of l k.does ≡ Print v → When (To N) (print_result i p v)
  print_step v e =
      let p' : Part = record { thread = goes_on k 0 k.views; memory = ms; capacity = p.capacity; sc = p.sc; log = p.log ++ ((i, v) ∷ []) } in
      when_passed (To N) (none_owed k.owed) (cond (ltb (length p.log) 64) (went p') (refused LogFull)) Owing
      (λ o. when_passed (To N) (ltb (length p.log) 64) (went p') LogFull
      (λ less. record {
        step = print v e (nothing k.owed ms o);
        marks = marks;
        capacity = refl;
        room = room;
        log = ap (λ (a : Action). p.log ++ printed i a) (sym e);
        prints = let a = ltb-true (length p.log) 64 less in let b = length_push p.log (i, v) in omega arith;
      }))

  next_step : (a : Action) → next_of l k.does ≡ a → When (To N) (next_at i p a)
  next_step Silent e = stays N (goes_on k 0 k.views) (ap (printed i) e) marks (silent e)
  next_step (Read x o) e = tt
  next_step (Write x v o) e = tt
  next_step (Update x o w) e = tt
  next_step (Fence o) e = fence_step o e
  next_step (Print v) e = print_step v e
  next_step Ended e = tt

  read_taken : (o : ReadMode) (x t : ℕ) (m : Message) → reads (next_of l k.does) ≡ Some (x, o) → In m ms → EndsAt x t m → at k.views.cur x ≤ t
      → (τ : Taking) → (k.does []).takes m.value ≡ τ → When (To (R t)) (read_taking p o x t m τ)
  read_taken o x t m e h ends le NotTaken τ = tt
  read_taken o x t m e h ends le OnlyRead τ =
      stays (R t) (goes_on k m.value (read_views o x t m.view k.views)) (reads_print i (next_of l k.does) (x, o) e) marks
      (subst (λ (y : ℕ). reads (next_of l k.does) ≡ Some (y, o) → at k.views.cur y ≤ t → Alone l closing (lone k ms) p.sc ms (R t) (went_on (lone k ms) m.value (read_views o y t m.view k.views)) p.sc ms) ends.0
      (subst (λ (u : ℕ). reads (next_of l k.does) ≡ Some (m.location, o) → at k.views.cur m.location ≤ u → Alone l closing (lone k ms) p.sc ms (R u) (went_on (lone k ms) m.value (read_views o m.location u m.view k.views)) p.sc ms) ends.1
      (λ d s. read o m d h s τ))
      e le)
  read_taken o x t m e h ends le (Replaced v) τ = tt

  read_step_at : (o : ReadMode) (x t : ℕ) → reads (next_of l k.does) ≡ Some (x, o) → (r : Option ℕ) → find x t ms ≡ r → When (To (R t)) (read_found p o x t r)
  read_step_at o x t e None f = tt
  read_step_at o x t e (Some j) f =
      let m = message_at ms j in
      let at_j = found_at x t ms j f in
      when_passed (To (R t)) _ _ _
      (λ le. read_taken o x t m e at_j.1 at_j.2 (leb-true (at k.views.cur x) t le) ((k.does []).takes m.value) refl)

  read_step : (t : ℕ) (r : Option (ℕ × ReadMode)) → reads (next_of l k.does) ≡ r → When (To (R t)) (read_at p t r)
  read_step t None e = tt
  read_step t (Some xo) e = read_step_at xo.1 xo.0 t e (find xo.0 t ms) refl

  release_free : (o : WriteMode) (x : ℕ) → release_owes o x p ≡ false → o ≡ Release → OwesNothingAt x (lone k ms)
  release_free Relaxed x f e = cc
  release_free Release x f e = owes_at_sound x k.owed ms f

  write_step : (s : Span) (a : Action) → next_of l k.does ≡ a → When (To (W s)) (write_at closing p s a)
  write_step s Silent e = tt
  write_step s (Read x o) e = tt
  write_step s (Write x v o) e =
      let vs = write_views o x s.to k.views in
      unless_when (To (W s)) (write_refusal closing x o s p) (adds p (goes_on k 0 vs) (written x v s vs))
      (λ none.
      let a = missed (release_owes o x p) Owing (cond (ltb (at k.views.cur x) s.to) (span_refusal closing x s ms) (Some TooNew)) none in
      let b = passed (ltb (at k.views.cur x) s.to) TooNew (span_refusal closing x s ms) a.1 in
      let c = span_sound closing x s ms b.1 in
      grows (W s) 0 vs (written x v s vs) (ap (printed i) e)
      (write x v o s e (release_free o x a.0) (ltb-true (at k.views.cur x) s.to b.0) c.0 c.1 c.2))
  write_step s (Update x o w) e = tt
  write_step s (Fence o) e = tt
  write_step s (Print v) e = tt
  write_step s Ended e = tt

  update_taken : (o : ReadMode) (w : WriteMode) (x : ℕ) (s : Span) (m : Message) → next_of l k.does ≡ Update x o w → release_owes w x p ≡ false
      → In m ms → EndsAt x s.from m → at k.views.cur x ≤ s.from
      → (τ : Taking) → (k.does []).takes m.value ≡ τ → When (To (U s)) (update_taking closing p o w x s m τ)
  update_taken o w x s m e free h ends le NotTaken τ = tt
  update_taken o w x s m e free h ends le OnlyRead τ = tt
  update_taken o w x s m e free h ends le (Replaced v) τ =
      let vs = update_views o w x s m.view k.views in
      let Made : ℕ → Span → Type 0 = λ y q.
      next_of l k.does ≡ Update y o w → (w ≡ Release → OwesNothingAt y (lone k ms)) → at k.views.cur y ≤ q.from → (q.from < q.to) × Free y q ms × Above closing y q.from
      → Alone l closing (lone k ms) p.sc ms (U q) (went_on (lone k ms) m.value (update_views o w y q m.view k.views)) p.sc
      (ms ++ (updated_message y v q m.view (update_views o w y q m.view k.views) ∷ [])) in
      let make : Made m.location (onward m s.to) = λ d r q c. update o w m v s.to d r h q τ c.0 c.1 c.2 in
      unless_when (To (U s)) (span_refusal closing x s ms) (adds p (goes_on k m.value vs) (updated_message x v s m.view vs))
      (λ none. grows (U s) m.value vs (updated_message x v s m.view vs) (ap (printed i) e)
      (subst (λ (y : ℕ). Made y s) ends.0 (subst (λ (g : ℕ). Made m.location (record { from = g; to = s.to })) ends.1 make) e (release_free w x free) le (span_sound closing x s ms none)))

  update_step_at : (o : ReadMode) (w : WriteMode) (x : ℕ) (s : Span) → next_of l k.does ≡ Update x o w → release_owes w x p ≡ false
      → (r : Option ℕ) → find x s.from ms ≡ r → When (To (U s)) (update_found closing p o w x s r)
  update_step_at o w x s e free None g = tt
  update_step_at o w x s e free (Some j) g =
      let m = message_at ms j in
      let at_j = found_at x s.from ms j g in
      when_passed (To (U s)) _ _ _
      (λ le. update_taken o w x s m e free at_j.1 at_j.2 (leb-true (at k.views.cur x) s.from le) ((k.does []).takes m.value) refl)

  update_step : (s : Span) (a : Action) → next_of l k.does ≡ a → When (To (U s)) (update_at closing p s a)
  update_step s Silent e = tt
  update_step s (Read x o) e = tt
  update_step s (Write x v o) e = tt
  update_step s (Update x o w) e =
      when_missed (To (U s)) _ _ _
      (λ free. update_step_at o w x s e free (find x s.from ms) refl)
  update_step s (Fence o) e = tt
  update_step s (Print v) e = tt
  update_step s Ended e = tt

  keep_step_at : (x v t : ℕ) → next_of l k.does ≡ Write x v Relaxed → (r : Option ℕ) → find_owed x t k.owed ms ≡ r → When (To (H t)) (keep_found p x v t r)
  keep_step_at x v t e None f = tt
  keep_step_at x v t e (Some j) f =
      let m = message_at ms j in
      let at_j = find_owed_some x t k.owed ms j f in
      let split = marked_split k.owed ms j at_j.0 at_j.1 in
      let there : Tried Part = went (with_thread p (keeps k j x t)) in
      let Made : ℕ → ℕ → Type 0 = λ y u.
      next_of l k.does ≡ Write y m.value Relaxed → at k.views.cur y < u
      → Alone l closing (lone k ms) p.sc ms (H u) (kept (lone k ms) y u (split.0 ++ split.1)) p.sc ms in
      let make : Made m.location m.span.to = λ d s. keep m split.0 split.1 d split.2 s in
      when_passed (To (H t)) _ _ _
      (λ less. when_passed (To (H t)) _ _ _
      (λ same. stays (H t) (keeps k j x t) (ap (printed i) e) (marks_keep k.owed ms j marks)
      (subst (λ (os : List Message). Alone l closing (lone k ms) p.sc ms (H t) (kept (lone k ms) x t os) p.sc ms) (sym split.3)
      (subst (λ (y : ℕ). Made y t) at_j.2.0 (subst (λ (u : ℕ). Made m.location u) at_j.2.1 make)
      (e ∙ ap (λ (u : ℕ). Write x u Relaxed) (sym (eqb-true m.value v same))) (ltb-true (at k.views.cur x) t less)))))

  keep_step : (t : ℕ) (a : Action) → next_of l k.does ≡ a → When (To (H t)) (keep_at p t a)
  keep_step t Silent e = tt
  keep_step t (Read x o) e = tt
  keep_step t (Write x v Relaxed) e = keep_step_at x v t e (find_owed x t k.owed ms) refl
  keep_step t (Write x v Release) e = tt
  keep_step t (Update x o w) e = tt
  keep_step t (Fence o) e = tt
  keep_step t (Print v) e = tt
  keep_step t Ended e = tt

  pub act_step : (line : Line) → When (λ p'. Acted l i closing line p p') (act_result l i closing line p)
  act_step (T j) = tt
  act_step N = next_step (next_of l k.does) refl
  act_step (R t) = read_step t (reads (next_of l k.does)) refl
  act_step (W s) = write_step s (next_of l k.does) refl
  act_step (U s) = update_step s (next_of l k.does) refl
  act_step (G x v s) = tt
  act_step (H t) = keep_step t (next_of l k.does) refl
  act_step X = tt
  act_step E = tt
