-- Every step of the relation is let through. Assumes nothing.
use Rattle.std.proofs.Common.{◌≡◌, ℕ, ◌<◌, ◌≤◌, true, false, ltb, List, [], ◌∷◌, ◌++◌, length, set, Some, None, Option, sym, refl, ap, ◌∙◌, subst, inl, arith}
use Rattle.std.proofs.lemmas.List.{length_push}
use Rattle.std.proofs.lemmas.Bool.{and_from, le-leb, lt-ltb, eq-eqb, cond-true, cond-false}
use Rattle.lines.specs.declared.span.Span.{Span}
use Rattle.lines.specs.declared.trace.Line.{Line}
use Rattle.languages.specs.declared.action.Action.{Action}
use Rattle.languages.specs.declared.action.WriteMode.{WriteMode}
use Rattle.languages.specs.declared.action.WriteMode.TheVariants.{Relaxed, Release}
use Rattle.languages.specs.Behaviours.{after}
use Rattle.stores.specs.declared.view.View.{View}
use Rattle.stores.specs.declared.message.Message.{Message}
use Rattle.stores.specs.declared.kept.StoreFault.TheVariants.{Full}
use Rattle.stores.specs.Views.{at, join}
use Rattle.stores.specs.Memory.{zero_message, find, is_free}
use Rattle.stores.specs.StoreLaws.{In, Free}
use Rattle.stores.proofs.StoreLaws.{in_at, is_free_complete, find_from_none}
use Rattle.rules.specs.declared.fault.StepFault.{StepFault}
use Rattle.rules.specs.declared.fault.StepFault.TheVariants.{Store}
use Rattle.rules.specs.Models.{Views, Thread, Part}
use Rattle.rules.specs.Threads.{next_of, read_views, write_views, acquire_views, release_views, both_views, all_views, none_owed, marked, find_owed}
use Rattle.rules.specs.Rules.{went, refused, unless, message_at, goes_on, with_thread, with_message, next_at, read_taking, read_found, read_at, release_owes, above, span_refusal, write_refusal, adds, written, write_at, update_views, updated_message, update_taking, update_found, update_at, keeps, keep_found, keep_at, act_result}
use Rattle.rules.specs.Alone.{Lone, lone, OwesNothingAt, went_on, Above, onward, Alone, silent, acquire_fence, release_fence, both_fence, sequential_fence, print, read, write, update, keep}
use Rattle.rules.specs.Steps.{printed, Marks}
use Rattle.rules.specs.Laws.{Apart}
use Rattle.rules.proofs.Members.{in_right, unique}
use Rattle.rules.proofs.Marked.{owes_none, owes_at_complete, marked_more, marked_in, marked_without, apart_marked, without_one, find_owed_some, find_owed_none}
use Rattle.rules.proofs.Accepts.{found_at}

above_complete : (closing : Option View) (x f : ℕ) → Above closing x f → above closing x f ≡ true
above_complete None x f h = refl
above_complete (Some line) x f h = lt-ltb (at line x) f h

pub span_complete : (closing : Option View) (x : ℕ) (s : Span) (ms : List Message) → s.from < s.to → Free x s ms → Above closing x s.from
    → span_refusal closing x s ms ≡ None
span_complete closing x s ms span free up =
    cond-true _ _ _
    (and_from (ltb s.from s.to) (is_free x s ms) (lt-ltb s.from s.to span) (is_free_complete x s ms free))
    ∙ cond-true _ _ _ (above_complete closing x s.from up)

pub adds_complete : (p : Part) (k : Thread) (m : Message) → length (p.memory ++ (m ∷ [])) ≤ p.capacity
    → adds p k m ≡ went (with_message p k m)
adds_complete p k m room =
    cond-true (ltb (length p.memory) p.capacity)
    (went (record { thread = k; memory = p.memory ++ (m ∷ []); capacity = p.capacity; sc = p.sc; log = p.log })) (refused (Store Full))
    (lt-ltb (length p.memory) p.capacity (let e = length_push p.memory m in omega arith))

-- the message at a place is the one that is found there
pub find_complete : (ms : List Message) (m : Message) → Apart ms → In m ms → (j : ℕ) × (find m.location m.span.to ms ≡ Some j) × (message_at ms j ≡ m)
find_complete ms m a i = go (find m.location m.span.to ms) refl
  where
    go : (o : Option ℕ) → find m.location m.span.to ms ≡ o → (j : ℕ) × (find m.location m.span.to ms ≡ Some j) × (message_at ms j ≡ m)
    go None e = absurd (find_from_none 0 m.location m.span.to ms e m i (refl, refl))
    go (Some j) e = let f = found_at m.location m.span.to ms j e in (j, e, unique ms a (message_at ms j) m f.1 i f.2.0 f.2.1)

module _ (l i : ℕ) (closing : Option View) (p : Part) (marks : Marks p.thread.owed p.memory) (apart : Apart p.memory) where
  abbrev k : Thread
  k = p.thread

  abbrev ms : List Message
  ms = p.memory

  -- the line is accepted, with this thread, S and memory
  abbrev Accepted : Line → Lone → View → List Message → Type 0
  Accepted line k' S' M' =
      (p' : Part) × (act_result l i closing line p ≡ went p') × (lone p'.thread p'.memory ≡ k') × (p'.sc ≡ S') × (p'.memory ≡ M')

  owes : marked k.owed ms ≡ [] → none_owed k.owed ≡ true
  owes n = owes_none k.owed ms marks.1 n

  no_release : (o : WriteMode) (x : ℕ) → (o ≡ Release → OwesNothingAt x (lone k ms)) → release_owes o x p ≡ false
  no_release Relaxed x h = refl
  no_release Release x h = owes_at_complete x k.owed ms (h refl)

  grown : (v : ℕ) (vs : Views) (m : Message) → lone (goes_on k v vs) (ms ++ (m ∷ [])) ≡ went_on (lone k ms) v vs
  grown v vs m = λ j. record { does = after k.does v; views = vs; owed = marked_more k.owed ms (m ∷ []) marks.1 j }

  promise_found : (m : Message) (before later : List Message) → marked k.owed ms ≡ before ++ (m ∷ later)
      → (j : ℕ) × (find_owed m.location m.span.to k.owed ms ≡ Some j) × (message_at ms j ≡ m) × (marked (set k.owed j false) ms ≡ before ++ later)
  promise_found m before later o = go (find_owed m.location m.span.to k.owed ms) refl
    where
      here : In m (marked k.owed ms)
      here = subst (In m) (sym o) (in_right m before (m ∷ later) (inl refl))

      go : (r : Option ℕ) → find_owed m.location m.span.to k.owed ms ≡ r
          → (j : ℕ) × (find_owed m.location m.span.to k.owed ms ≡ Some j) × (message_at ms j ≡ m) × (marked (set k.owed j false) ms ≡ before ++ later)
      go None e = absurd (find_owed_none m.location m.span.to k.owed ms e m here (refl, refl))
      go (Some j) e =
          let f = find_owed_some m.location m.span.to k.owed ms j e in (
            j,
            e,
            unique ms apart (message_at ms j) m (in_at ms j zero_message f.0) (marked_in k.owed ms m here) f.2.0 f.2.1,
            marked_without m.location m.span.to k.owed ms j apart f.0 f.1 f.2
                ∙ ap (without_of m) o ∙ without_one m before later (subst Apart o (apart_marked k.owed ms apart)),
          )
        where
          without_of : Message → List Message → List Message
          without_of n = Rattle.rules.specs.Histories.without n.location n.span.to

  pub complete : {line : Line} {k' : Lone} {S' : View} {M' : List Message} → Alone l closing (lone k ms) p.sc ms line k' S' M'
      → length M' ≤ p.capacity → length (p.log ++ printed i (next_of l k.does)) ≤ 64 → Accepted line k' S' M'
  complete (silent e) room prints = (with_thread p (goes_on k 0 k.views), ap (next_at i p) e, refl, refl, refl)
  complete (acquire_fence e) room prints = (with_thread p (goes_on k 0 (acquire_views k.views)), ap (next_at i p) e, refl, refl, refl)
  complete (release_fence e n) room prints =
      let p' = with_thread p (goes_on k 0 (release_views k.views)) in
      (p', ap (next_at i p) e ∙ cond-true _ _ _ (owes n), refl, refl, refl)
  complete (both_fence e n) room prints =
      let p' = with_thread p (goes_on k 0 (both_views k.views)) in
      (p', ap (next_at i p) e ∙ cond-true _ _ _ (owes n), refl, refl, refl)
  complete (sequential_fence e n) room prints =
      let s = join p.sc k.views.acq in
      let p' : Part = record { thread = goes_on k 0 (all_views s); memory = ms; capacity = p.capacity; sc = s; log = p.log } in
      (p', ap (next_at i p) e ∙ cond-true _ _ _ (owes n), refl, refl, refl)
  complete (print v e n) room prints =
      let p' : Part = record { thread = goes_on k 0 k.views; memory = ms; capacity = p.capacity; sc = p.sc; log = p.log ++ ((i, v) ∷ []) } in
      let more : length (p.log ++ ((i, v) ∷ [])) ≤ 64 = subst (λ (a : Action). length (p.log ++ printed i a) ≤ 64) e prints in (
        p',
        ap (next_at i p) e ∙ cond-true _ _ _ (owes n)
            ∙ cond-true _ _ _ (lt-ltb (length p.log) 64 (let q = length_push p.log (i, v) in omega arith)),
        refl,
        refl,
        refl,
      )
  complete (read o m e h le τ) room prints =
      let x = m.location in
      let t = m.span.to in
      let p' = with_thread p (goes_on k m.value (read_views o x t m.view k.views)) in
      let f = find_complete ms m apart h in
      let n = message_at ms f.0 in (
        p',
        ap (read_at p t) e ∙ ap (read_found p o x t) f.1
            ∙ cond-true _ _ _ (le-leb (at k.views.cur x) t le)
            ∙ ap (λ (q : Message). read_taking p o x t q ((k.does []).takes q.value)) f.2 ∙ ap (read_taking p o x t m) τ,
        refl,
        refl,
        refl,
      )
  complete (write x v o s e n less span free up) room prints =
      let vs = write_views o x s.to k.views in
      let m = written x v s vs in
      let there = adds p (goes_on k 0 vs) m in
      let none : write_refusal closing x o s p ≡ None =
      cond-false _ _ _ (no_release o x n)
      ∙ cond-true _ _ _ (lt-ltb (at k.views.cur x) s.to less)
      ∙ span_complete closing x s ms span free up in (
        with_message p (goes_on k 0 vs) m,
        ap (write_at closing p s) e ∙ ap (λ (q : Option StepFault). unless q there) none ∙ adds_complete p (goes_on k 0 vs) m room,
        grown 0 vs m,
        refl,
        refl,
      )
  complete (update o w m v t e n h le τ span free up) room prints =
      let x = m.location in
      let s = onward m t in
      let vs = update_views o w x s m.view k.views in
      let m' = updated_message x v s m.view vs in
      let there = adds p (goes_on k m.value vs) m' in
      let g = find_complete ms m apart h in
      let q = message_at ms g.0 in (
        with_message p (goes_on k m.value vs) m',
        ap (update_at closing p s) e ∙ cond-false _ _ _ (no_release w x n)
            ∙ ap (update_found closing p o w x s) g.1
            ∙ cond-true _ _ _ (le-leb (at k.views.cur x) s.from le)
            ∙ ap (λ (a : Message). update_taking closing p o w x s a ((k.does []).takes a.value)) g.2 ∙ ap (update_taking closing p o w x s m) τ
            ∙ ap (λ (a : Option StepFault). unless a there) (span_complete closing x s ms span free up) ∙ adds_complete p (goes_on k m.value vs) m' room,
        grown m.value vs m',
        refl,
        refl,
      )
  complete (keep m before later e o less) room prints =
      let x = m.location in
      let t = m.span.to in
      let f = promise_found m before later o in
      let p' = with_thread p (keeps k f.0 x t) in
      let q = message_at ms f.0 in (
        p',
        ap (keep_at p t) e ∙ ap (keep_found p x m.value t) f.1
            ∙ cond-true _ _ _ (lt-ltb (at k.views.cur x) t less)
            ∙ cond-true _ _ _ (eq-eqb q.value m.value (ap (λ (a : Message). a.value) f.2)),
        (λ j. record { does = after k.does 0; views = write_views Relaxed x t k.views; owed = f.3 j }),
        refl,
        refl,
      )
