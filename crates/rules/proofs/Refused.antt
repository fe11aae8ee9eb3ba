-- A line is refused for the first reason, and only for it. Assumes nothing.
use Rattle.std.proofs.Common.{◌≡◌, ℕ, ◌<◌, ◌≤◌, Bool, true, false, not, ◌⊎◌, cond, leb, ltb, eqb, ◌&&◌, List, [], ◌∷◌, length, Some, None, Option, ◌≢◌, sym, refl, ap, ◌∙◌, subst, inl, inr, arith}
use Rattle.std.proofs.lemmas.Bool.{and_parts, and_cases, not-false, or_cases, eqb-true, eqb-false, ltb-true, ltb-false, leb-true, leb-false}
use Rattle.lines.specs.declared.span.Span.{Span}
use Rattle.lines.specs.declared.trace.Line.{Line}
use Rattle.lines.specs.declared.trace.Line.TheVariants.{Turn as T, Next as N, Read as R, Write as W, Update as U, Promise as G, Keep as H, Show as X, EndTurn as E}
use Rattle.languages.specs.declared.action.Action.{Action}
use Rattle.languages.specs.declared.action.Action.TheVariants.{Silent, Read, Write, Update, Fence, Print}
use Rattle.languages.specs.declared.action.ReadMode.{ReadMode}
use Rattle.languages.specs.declared.action.WriteMode.{WriteMode}
use Rattle.languages.specs.declared.action.WriteMode.TheVariants.{Relaxed, Release}
use Rattle.languages.specs.declared.action.FenceKind.{FenceKind}
use Rattle.languages.specs.declared.action.FenceKind.TheVariants.{Acquire as AcquireFence}
use Rattle.languages.specs.declared.action.Taking.{Taking}
use Rattle.languages.specs.declared.action.Taking.TheVariants.{OnlyRead, Replaced}
use Rattle.stores.specs.declared.kept.StoreFault.TheVariants.{Full}
use Rattle.stores.specs.declared.view.View.{View}
use Rattle.stores.specs.declared.message.Message.{Message}
use Rattle.stores.specs.Memory.{find, is_free, overlaps}
use Rattle.stores.specs.StoreLaws.{In, EndsAt, Overlaps}
use Rattle.stores.specs.Views.{at}
use Rattle.stores.proofs.StoreLaws.{find_from_none, is_free_sound, overlaps_sound}
use Rattle.rules.specs.declared.fault.StepFault.{StepFault}
use Rattle.rules.specs.declared.fault.StepFault.TheVariants.{Range, Moment, Kind, Owing, NoMessage, TooNew, Value, Span as BadSpan, ClosingLine, Store, LogFull, StillOwing}
use Rattle.rules.specs.Models.{Thread, Part, Phase, between, turn, showing, Saved, Run, thread_at, part_at}
use Rattle.rules.specs.Threads.{reads, owes_at, find_owed, marked, none_owed}
use Rattle.rules.specs.Rules.{Tried, went, refused, unless, message_at, read_taking, read_found, read_at, above, span_refusal, adds, release_owes, write_at, update_taking, update_found, update_at, keep_found, keep_at, promise_result, next_at, act_result, lifted, act_in, promise_in, begin_in, show_in, end_in, line_result}
use Rattle.rules.specs.Alone.{OwesNothing, Above}
use Rattle.rules.specs.Laws.{Apart}
use Rattle.rules.specs.Steps.{Owes, lone_at, next_action, Marks}
use Rattle.rules.specs.Reasons.{FirstReason, Refusals, Acceptances, Whose, of_turn, of_showing, Acts, Serves, Because, no_thread, no_location, begun, before_a_turn, all_kept, promise_shown, shown_already, nothing_to_show, hindered, cur_at, taking, OwesAt, NoRoom, Misplaced, empty, overlapping, Hinders, another_kind, fence_owing, print_owing, log_full, read_nothing, read_new, read_value, write_owing, write_new, write_span, write_line, write_full, update_owing, update_nothing, update_new, update_value, update_span, update_line, update_full, promise_new, promise_span, promise_full, keep_nothing, keep_new, keep_value, still_owing}
use Rattle.rules.proofs.Members.{in_right, unique}
use Rattle.rules.proofs.Marked.{owes_at_sound, marked_in, marked_split, find_owed_some, find_owed_none, nothing, something}
use Rattle.rules.proofs.Accepts.{found_at}
use Rattle.rules.proofs.Chains.{Among, rising, one_row, Verdict, no_reason, first_reason, Left, skip, stop, tested, needed, tested_first, needed_first, nothing_left}

-- the refusals of a line that are a thread's, in the order in which they are tried
abbrev pub by_thread : Line → List StepFault
by_thread N = Kind ∷ Owing ∷ LogFull ∷ []
by_thread (R t) = Kind ∷ NoMessage ∷ TooNew ∷ Value ∷ []
by_thread (W s) = Kind ∷ Owing ∷ TooNew ∷ BadSpan ∷ ClosingLine ∷ Store Full ∷ []
by_thread (U s) = Kind ∷ Owing ∷ NoMessage ∷ TooNew ∷ Value ∷ BadSpan ∷ ClosingLine ∷ Store Full ∷ []
by_thread (G x v s) = TooNew ∷ BadSpan ∷ ClosingLine ∷ Store Full ∷ []
by_thread (H t) = Kind ∷ NoMessage ∷ TooNew ∷ Value ∷ []
by_thread E = StillOwing ∷ []
by_thread line = []

kind_first : (line : Line) → Acts line → Among Kind (by_thread line)
kind_first N a = inl refl
kind_first (R t) a = inl refl
kind_first (W s) a = inl refl
kind_first (U s) a = inl refl
kind_first (H t) a = inl refl
kind_first line a = absurd a

by_one : {r : Run} {i : ℕ} {cl : Option View} {line : Line} {e : StepFault} → Hinders r i cl line e → Among e (by_thread line)
by_one (another_kind a n) = kind_first _ a
by_one (promise_new h) = inl refl
by_one (still_owing h) = inl refl
by_one h = search (inl, inr) depth 9

same_place : {a : Option (ℕ × ReadMode)} {x y : ℕ} {o q : ReadMode} → a ≡ Some (x, o) → a ≡ Some (y, q) → x ≡ y
same_place {x = x} {y = y} {o = o} {q = q} e f =
    let pair : ◌≡◌ {A = ℕ × ReadMode} (x, o) (y, q) = cc in ap (λ (p : ℕ × ReadMode). p.0) pair

same_write : {a : Action} {x y v w : ℕ} {o q : WriteMode} → a ≡ Write x v o → a ≡ Write y w q → (x ≡ y) × (v ≡ w) × (o ≡ q)
same_write e f = (cc, cc, cc)

same_update : {a : Action} {x y : ℕ} {o q : ReadMode} {w u : WriteMode} → a ≡ Update x o w → a ≡ Update y q u → (x ≡ y) × (w ≡ u)
same_update e f = (cc, cc)

-- a message that a span overlaps
overlapped : (x : ℕ) (s : Span) (ms : List Message) → is_free x s ms ≡ false → (m : Message) × In m ms × Overlaps x s m
overlapped x s [] e = cc
overlapped x s (n ∷ ns) e = elim (and_cases (not (overlaps x s n)) (is_free x s ns) e) [
  | inl h ↦ (n, inl refl, overlaps_sound x s n (not-false (overlaps x s n) h))
  | inr h ↦ let q = overlapped x s ns h in (q.0, inr q.1, q.2)
]

-- a message at x that is owed
owed_there : (x : ℕ) (bs : List Bool) (ms : List Message) → owes_at x bs ms ≡ true
    → (m : Message) × In m (marked bs ms) × (m.location ≡ x)
owed_there x [] ms e = cc
owed_there x (b ∷ bs) [] e = cc
owed_there x (false ∷ bs) (n ∷ ns) e = owed_there x bs ns e
owed_there x (true ∷ bs) (n ∷ ns) e = elim (or_cases (eqb n.location x) (owes_at x bs ns) e) [
  | inl h ↦ (n, inl refl, eqb-true n.location x h)
  | inr h ↦ let q = owed_there x bs ns h in (q.0, inr q.1, q.2)
]

-- whether f is above the closing line
below_line : (cl : Option View) (x f : ℕ) → above cl x f ≡ false → Above cl x f → ⊥
below_line None x f e h = cc
below_line (Some line) x f e h = let q = ltb-false (at line x) f e in absurd (omega arith)

above_line : (cl : Option View) (x f : ℕ) → above cl x f ≡ true → Above cl x f
above_line None x f e = tt
above_line (Some line) x f e = ltb-true (at line x) f e

abbrev Iff : Type 0 → Type 0 → Type 0
Iff P Q = (P → Q) × (Q → P)

module _ (r : Run) (i : ℕ) (cl : Option View) (apart : Apart r.memory) (marks : Marks (thread_at r i).owed r.memory) where
  abbrev k : Thread
  k = thread_at r i

  abbrev p : Part
  p = part_at r i

  abbrev ms : List Message
  ms = r.memory

  abbrev act : Action
  act = next_action r i

  abbrev B : Line → StepFault → Type 0
  B line = Hinders r i cl line

  reasons : (line : Line) → rising (by_thread line) ≡ true → Left (B line) (by_thread line)
  reasons line h = record { among = λ e b. by_one b; rows = h }

  -- a line by which the thread acts, for an action that it does not serve, and for one that it serves
  another : {line : Line} {a : Action} {es : List StepFault} → act ≡ a → Acts line → (Serves line a → ⊥)
      → Left (B line) (Kind ∷ es) → Verdict (B line) {Y = Part} (refused Kind)
  another {line = line} e acts other left = stop left (another_kind acts (λ s. other (subst (Serves line) e s)))

  served : {line : Line} {a : Action} {es : List StepFault} → act ≡ a → Serves line a
      → Left (B line) (Kind ∷ es) → Left (B line) es
  served e s left = skip left (same e s)
    where
      same : {line : Line} {a : Action} → act ≡ a → Serves line a → B line Kind → ⊥
      same {line = line} e s (another_kind acts n) = n (subst (Serves line) (sym e) s)

  one_message : {x y t : ℕ} (m n : Message) → x ≡ y → In m ms → EndsAt x t m → In n ms → EndsAt y t n → n ≡ m
  one_message m n e h ends h' ends' = sym (unique ms apart m n h h' (ends.0 ∙ e ∙ sym ends'.0) (ends.1 ∙ sym ends'.1))

  -- R
  module _ (t x : ℕ) (o : ReadMode) (e : reads act ≡ Some (x, o)) where
    read_finds : (m : Message) → In m ms → EndsAt x t m → B (R t) NoMessage → ⊥
    read_finds m h ends (read_nothing y q f n) = n m h (ends.0 ∙ same_place e f, ends.1)

    no_read_new : cur_at r i x ≤ t → B (R t) TooNew → ⊥
    no_read_new le (read_new y q f lt) = let s = ap (cur_at r i) (same_place e f) in absurd (omega arith)

    read_fits : (m : Message) → In m ms → EndsAt x t m → taking r i m.value ≡ OnlyRead → B (R t) Value → ⊥
    read_fits m h ends τ (read_value y q n f h' ends' other) =
        other (ap (λ (a : Message). taking r i a.value) (one_message m n (same_place e f) h ends h' ends') ∙ τ)

    read_taken : (m : Message) → In m ms → EndsAt x t m → Left (B (R t)) (Value ∷ [])
        → (τ : Taking) → taking r i m.value ≡ τ → Verdict (B (R t)) (read_taking p o x t m τ)
    read_taken m h ends left OnlyRead τ = nothing_left (skip left (read_fits m h ends τ))
    read_taken m h ends left q τ = stop left (read_value x o m e h ends (λ f. cc))

    read_at_place : Left (B (R t)) (NoMessage ∷ TooNew ∷ Value ∷ []) → (j : Option ℕ) → find x t ms ≡ j
        → Verdict (B (R t)) (read_found p o x t j)
    read_at_place left None f = stop left (read_nothing x o e (find_from_none 0 x t ms f))
    read_at_place left (Some j) f =
        let m = message_at ms j in
        let here = found_at x t ms j f in
        needed (skip left (read_finds m here.1 here.2)) (leb (cur_at r i x) t)
        (λ b. read_new x o e (leb-false (cur_at r i x) t b))
        (λ b. no_read_new (leb-true (cur_at r i x) t b))
        (λ b left. read_taken m here.1 here.2 left (taking r i m.value) refl)

  read_verdict : (t : ℕ) (a : Action) → act ≡ a → Verdict (B (R t)) (read_at p t (reads a))
  read_verdict t (Read x o) e = read_at_place t x o (ap reads e) (served e tt (reasons (R t) refl)) (find x t ms) refl
  read_verdict t (Update x o w) e = read_at_place t x o (ap reads e) (served e tt (reasons (R t) refl)) (find x t ms) refl
  read_verdict t a e = another e tt (λ s. s) (reasons (R t) refl)

  -- the span, the closing line and the room, for any line that has those three last
  placed_verdict : {C : StepFault → Type 0} (c : Option View) (x : ℕ) (s : Span) (k' : Thread) (m : Message)
      → Left C (BadSpan ∷ ClosingLine ∷ Store Full ∷ [])
      → Iff (C BadSpan) (Misplaced r x s) → Iff (C ClosingLine) (Above c x s.from → ⊥) → Iff (C (Store Full)) (NoRoom r)
      → Verdict C (unless (span_refusal c x s ms) (adds p k' m))
  placed_verdict c x s k' m left span line room =
      needed_first left (ltb s.from s.to && is_free x s ms) _ _
      (λ b. span.1 (misplaced (and_cases (ltb s.from s.to) (is_free x s ms) b)))
      (λ b h. well_placed (and_parts (ltb s.from s.to) (is_free x s ms) b) (span.0 h))
      (λ b left. needed_first left (above c x s.from) None _
      (λ b. line.1 (below_line c x s.from b))
      (λ b h. line.0 h (above_line c x s.from b))
      (λ b left. needed left (ltb (length ms) r.capacity)
      (λ b. room.1 (ltb-false (length ms) r.capacity b))
      (λ b h. let q = ltb-true (length ms) r.capacity b in let w = room.0 h in absurd (omega arith))
      (λ b left. nothing_left left)))
    where
      misplaced : (ltb s.from s.to ≡ false) ⊎ (is_free x s ms ≡ false) → Misplaced r x s
      misplaced (inl h) = empty (ltb-false s.from s.to h)
      misplaced (inr h) = let q = overlapped x s ms h in overlapping q.0 q.1 q.2

      well_placed : (ltb s.from s.to ≡ true) × (is_free x s ms ≡ true) → Misplaced r x s → ⊥
      well_placed h (empty le) = let q = ltb-true s.from s.to h.0 in absurd (omega arith)
      well_placed h (overlapping m i o) = is_free_sound x s ms h.1 m i o

  owing_at : (o : WriteMode) (x : ℕ) → release_owes o x p ≡ true → (o ≡ Release) × OwesAt r i x
  owing_at Relaxed x e = cc
  owing_at Release x e = (refl, owed_there x k.owed ms e)

  not_owing_at : (o : WriteMode) (x y : ℕ) → release_owes o x p ≡ false → o ≡ Release → x ≡ y → OwesAt r i y → ⊥
  not_owing_at Relaxed x y e f s m = cc
  not_owing_at Release x y e f s m = owes_at_sound x k.owed ms e m.0 m.1 (m.2 ∙ sym s)

  -- W
  module _ (s : Span) (x v : ℕ) (o : WriteMode) (e : act ≡ Write x v o) where
    no_write_owing : release_owes o x p ≡ false → B (W s) Owing → ⊥
    no_write_owing f (write_owing y w g h) = let q = same_write e g in not_owing_at o x y f q.2 q.0 h

    no_write_new : cur_at r i x < s.to → B (W s) TooNew → ⊥
    no_write_new lt (write_new y w q f le) = let z = ap (cur_at r i) (same_write e f).0 in absurd (omega arith)

    write_misplaced : B (W s) BadSpan → Misplaced r x s
    write_misplaced (write_span y w q f h) = subst (λ (z : ℕ). Misplaced r z s) (sym (same_write e f).0) h

    write_below : B (W s) ClosingLine → Above cl x s.from → ⊥
    write_below (write_line y w q f h) = subst (λ (z : ℕ). Above cl z s.from → ⊥) (sym (same_write e f).0) h

    write_no_room : B (W s) (Store Full) → NoRoom r
    write_no_room (write_full y w q f h) = h

  write_verdict : (s : Span) (a : Action) → act ≡ a → Verdict (B (W s)) (write_at cl p s a)
  write_verdict s (Write x v o) e =
      tested_first (served e tt (reasons (W s) refl)) (release_owes o x p) _ _
      (λ b. let q = owing_at o x b in write_owing x v (e ∙ ap (Write x v) q.0) q.1)
      (λ b. no_write_owing s x v o e b)
      (λ b left. needed_first left (ltb (cur_at r i x) s.to) _ _
      (λ b. write_new x v o e (ltb-false (cur_at r i x) s.to b))
      (λ b. no_write_new s x v o e (ltb-true (cur_at r i x) s.to b))
      (λ b left. placed_verdict cl x s _ _ left (write_misplaced s x v o e, write_span x v o e)
      (write_below s x v o e, write_line x v o e) (write_no_room s x v o e, write_full x v o e)))
  write_verdict s a e = another e tt (λ h. h) (reasons (W s) refl)

  -- U
  module _ (s : Span) (x : ℕ) (o : ReadMode) (w : WriteMode) (e : act ≡ Update x o w) where
    no_update_owing : release_owes w x p ≡ false → B (U s) Owing → ⊥
    no_update_owing f (update_owing y q g h) = let z = same_update e g in not_owing_at w x y f z.1 z.0 h

    update_finds : (m : Message) → In m ms → EndsAt x s.from m → B (U s) NoMessage → ⊥
    update_finds m h ends (update_nothing y q u g n) = n m h (ends.0 ∙ (same_update e g).0, ends.1)

    no_update_new : cur_at r i x ≤ s.from → B (U s) TooNew → ⊥
    no_update_new le (update_new y q u g lt) = let z = ap (cur_at r i) (same_update e g).0 in absurd (omega arith)

    update_fits : (m : Message) (v : ℕ) → In m ms → EndsAt x s.from m → taking r i m.value ≡ Replaced v → B (U s) Value → ⊥
    update_fits m v h ends τ (update_value y q u n g h' ends' other) =
        other v (ap (λ (a : Message). taking r i a.value) (one_message m n (same_update e g).0 h ends h' ends') ∙ τ)

    update_misplaced : B (U s) BadSpan → Misplaced r x s
    update_misplaced (update_span y q u f h) = subst (λ (z : ℕ). Misplaced r z s) (sym (same_update e f).0) h

    update_below : B (U s) ClosingLine → Above cl x s.from → ⊥
    update_below (update_line y q u f h) = subst (λ (z : ℕ). Above cl z s.from → ⊥) (sym (same_update e f).0) h

    update_no_room : B (U s) (Store Full) → NoRoom r
    update_no_room (update_full y q u f h) = h

    update_taken : (m : Message) → In m ms → EndsAt x s.from m
        → Left (B (U s)) (Value ∷ BadSpan ∷ ClosingLine ∷ Store Full ∷ [])
        → (τ : Taking) → taking r i m.value ≡ τ → Verdict (B (U s)) (update_taking cl p o w x s m τ)
    update_taken m h ends left (Replaced v) τ =
        placed_verdict cl x s _ _ (skip left (update_fits m v h ends τ)) (update_misplaced, update_span x o w e)
        (update_below, update_line x o w e) (update_no_room, update_full x o w e)
    update_taken m h ends left q τ = stop left (update_value x o w m e h ends (λ v f. cc))

    update_at_place : Left (B (U s)) (NoMessage ∷ TooNew ∷ Value ∷ BadSpan ∷ ClosingLine ∷ Store Full ∷ [])
        → (j : Option ℕ) → find x s.from ms ≡ j → Verdict (B (U s)) (update_found cl p o w x s j)
    update_at_place left None f = stop left (update_nothing x o w e (find_from_none 0 x s.from ms f))
    update_at_place left (Some j) f =
        let m = message_at ms j in
        let here = found_at x s.from ms j f in
        needed (skip left (update_finds m here.1 here.2)) (leb (cur_at r i x) s.from)
        (λ b. update_new x o w e (leb-false (cur_at r i x) s.from b))
        (λ b. no_update_new (leb-true (cur_at r i x) s.from b))
        (λ b left. update_taken m here.1 here.2 left (taking r i m.value) refl)

  update_verdict : (s : Span) (a : Action) → act ≡ a → Verdict (B (U s)) (update_at cl p s a)
  update_verdict s (Update x o w) e =
      tested (served e tt (reasons (U s) refl)) (release_owes w x p)
      (λ b. let q = owing_at w x b in update_owing x o (e ∙ ap (Update x o) q.0) q.1)
      (λ b. no_update_owing s x o w e b)
      (λ b left. update_at_place s x o w e left (find x s.from ms) refl)
  update_verdict s a e = another e tt (λ h. h) (reasons (U s) refl)

  -- G, which knows no closing line
  module _ (x v : ℕ) (s : Span) where
    no_promise_new : cur_at r i x < s.to → B (G x v s) TooNew → ⊥
    no_promise_new lt (promise_new le) = absurd (omega arith)

    promise_misplaced : B (G x v s) BadSpan → Misplaced r x s
    promise_misplaced (promise_span h) = h

    promise_no_room : B (G x v s) (Store Full) → NoRoom r
    promise_no_room (promise_full h) = h

    promise_verdict : Verdict (B (G x v s)) (promise_result x v s p)
    promise_verdict =
        needed (reasons (G x v s) refl) (ltb (cur_at r i x) s.to)
        (λ b. promise_new (ltb-false (cur_at r i x) s.to b))
        (λ b. no_promise_new (ltb-true (cur_at r i x) s.to b))
        (λ b left. placed_verdict None x s _ _ left (promise_misplaced, promise_span)
        (λ h. elim h [ ], λ h. absurd (h tt)) (promise_no_room, promise_full))

  -- H
  module _ (t x v : ℕ) (e : act ≡ Write x v Relaxed) where
    keep_finds : (m : Message) → In m (marked k.owed ms) → EndsAt x t m → B (H t) NoMessage → ⊥
    keep_finds m h ends (keep_nothing y w g n) = n m h (ends.0 ∙ (same_write e g).0, ends.1)

    no_keep_new : cur_at r i x < t → B (H t) TooNew → ⊥
    no_keep_new lt (keep_new y w g le) = let q = ap (cur_at r i) (same_write e g).0 in absurd (omega arith)

    keep_fits : (m : Message) → In m (marked k.owed ms) → EndsAt x t m → m.value ≡ v → B (H t) Value → ⊥
    keep_fits m h ends τ (keep_value y w n g h' ends' other) =
        let q = same_write e g in
        let same = one_message m n q.0 (marked_in k.owed ms m h) ends (marked_in k.owed ms n h') ends' in
        other (ap (λ (a : Message). a.value) same ∙ τ ∙ q.1)

    keep_at_place : Left (B (H t)) (NoMessage ∷ TooNew ∷ Value ∷ []) → (j : Option ℕ) → find_owed x t k.owed ms ≡ j
        → Verdict (B (H t)) (keep_found p x v t j)
    keep_at_place left None f = stop left (keep_nothing x v e (find_owed_none x t k.owed ms f))
    keep_at_place left (Some j) f =
        let m = message_at ms j in
        let here = find_owed_some x t k.owed ms j f in
        let split = marked_split k.owed ms j here.0 here.1 in
        let there : In m (marked k.owed ms) = subst (In m) (sym split.2) (in_right m split.0 (m ∷ split.1) (inl refl)) in
        needed (skip left (keep_finds m there here.2)) (ltb (cur_at r i x) t)
        (λ b. keep_new x v e (ltb-false (cur_at r i x) t b))
        (λ b. no_keep_new (ltb-true (cur_at r i x) t b))
        (λ b left. needed left (eqb m.value v)
        (λ b. keep_value x v m e there here.2 (eqb-false m.value v b))
        (λ b. keep_fits m there here.2 (eqb-true m.value v b))
        (λ b left. nothing_left left))

  keep_verdict : (t : ℕ) (a : Action) → act ≡ a → Verdict (B (H t)) (keep_at p t a)
  keep_verdict t (Write x v Relaxed) e = keep_at_place t x v e (served e tt (reasons (H t) refl)) (find_owed x t k.owed ms) refl
  keep_verdict t a e = another e tt (λ h. h) (reasons (H t) refl)

  -- N
  owes_something : none_owed k.owed ≡ false → Owes r i
  owes_something b = something k.owed ms marks.1 b

  all_kept_before : none_owed k.owed ≡ true → B N Owing → ⊥
  all_kept_before b (fence_owing o g n owes) = owes (nothing k.owed ms b)
  all_kept_before b (print_owing v g owes) = owes (nothing k.owed ms b)

  no_print : ((v : ℕ) → act ≢ Print v) → B N LogFull → ⊥
  no_print n (log_full v g le) = n v g

  quiet : {q : Part} → ((o : FenceKind) → act ≡ Fence o → o ≡ AcquireFence) → ((v : ℕ) → act ≢ Print v)
      → Left (B N) (Owing ∷ LogFull ∷ []) → Verdict (B N) (went q)
  quiet fences prints left = nothing_left (skip (skip left held) (no_print prints))
    where
      held : B N Owing → ⊥
      held (fence_owing o g other owes) = other (fences o g)
      held (print_owing v g owes) = prints v g

  fits_log : length r.log < 64 → B N LogFull → ⊥
  fits_log lt (log_full v g le) = absurd (omega arith)

  next_verdict : (a : Action) → act ≡ a → Verdict (B N) (next_at i p a)
  next_verdict Silent e = quiet (λ o f. cc) (λ v f. cc) (served e tt (reasons N refl))
  next_verdict (Fence AcquireFence) e = quiet (λ o f. cc) (λ v f. cc) (served e tt (reasons N refl))
  next_verdict (Fence o) e =
      needed (served e tt (reasons N refl)) (none_owed k.owed)
      (λ b. fence_owing o e (λ q. cc) (owes_something b))
      all_kept_before
      (λ b left. nothing_left (skip left (no_print (λ v f. cc))))
  next_verdict (Print v) e =
      needed (served e tt (reasons N refl)) (none_owed k.owed)
      (λ b. print_owing v e (owes_something b))
      all_kept_before
      (λ b left. needed left (ltb (length r.log) 64)
      (λ b. log_full v e (ltb-false (length r.log) 64 b))
      (λ b. fits_log (ltb-true (length r.log) 64 b))
      (λ b left. nothing_left left))
  next_verdict a e = another e tt (λ s. s) (reasons N refl)

  -- any line by which the thread acts
  pub act_verdict : (line : Line) → Acts line → Verdict (B line) (act_result r.locations i cl line p)
  act_verdict N a = next_verdict act refl
  act_verdict (R t) a = read_verdict t act refl
  act_verdict (W s) a = write_verdict s act refl
  act_verdict (U s) a = update_verdict s act refl
  act_verdict (H t) a = keep_verdict t act refl
  act_verdict line a = absurd a

-- two whose turn or showing it is are one
whose_same : {r : Run} {i j : ℕ} {c d : Option View} → Whose r i c → Whose r j d → (i ≡ j) × (c ≡ d)
whose_same (of_turn i e) (of_turn j f) = (cc, cc)
whose_same (of_turn i e) (of_showing j s l f) = (cc, cc)
whose_same (of_showing i s l e) (of_turn j f) = (cc, cc)
whose_same (of_showing i s l e) (of_showing j t m f) = (cc, cc)

module _ (r : Run) (apart : Apart r.memory) (marks : (j : ℕ) → Marks (thread_at r j).owed r.memory) where
  abbrev Why : Line → StepFault → Type 0
  Why line = Because r line

  -- all the refusals of a line, in the order in which they are tried
  abbrev by_line : Line → List StepFault
  by_line line = Range ∷ Moment ∷ by_thread line

  in_rows : (line : Line) → rising (by_line line) ≡ true
  in_rows N = refl
  in_rows line = refl

  raised : (line : Line) → Left (Why line) (by_line line)
  raised line = record { among = λ e b. one b; rows = in_rows line }
    where
      one : {line : Line} {e : StepFault} → Why line e → Among e (by_line line)
      one (no_thread i h) = inl refl
      one (no_location x v s h) = inl refl
      one (hindered i c w h) = inr (inr (by_one h))
      one h = inr (inl refl)

  never_range : {i : ℕ} {c : Option View} {line : Line} → Hinders r i c line Range → ⊥
  never_range h = elim h [ ]

  never_moment : {i : ℕ} {c : Option View} {line : Line} → Hinders r i c line Moment → ⊥
  never_moment h = elim h [ ]

  -- of a line that names neither thread nor location
  in_range : (line : Line) → ((i : ℕ) → line ≢ T i) → ((x v : ℕ) (s : Span) → line ≢ G x v s)
      → Left (Why line) (Moment ∷ by_thread line)
  in_range line t g = skip (raised line) (go t g)
    where
      go : {line : Line} → ((i : ℕ) → line ≢ T i) → ((x v : ℕ) (s : Span) → line ≢ G x v s) → Why line Range → ⊥
      go t g (no_thread i h) = t i refl
      go t g (no_location x v s h) = g x v s refl
      go t g (hindered i c w h) = never_range h

  -- what the thread's part of a line says of the whole, where nothing but the thread hinders it
  lifts : {line : Line} {i : ℕ} {c : Option View} → Whose r i c → ((e : StepFault) → Why line e → Hinders r i c line e)
      → {t : Tried Part} → Verdict (Hinders r i c line) t → Verdict (Why line) (lifted r i t)
  lifts w back (no_reason v) = no_reason (λ e b. v e (back e b))
  lifts w back (first_reason v) = first_reason (hindered _ _ w v.0, λ e b. v.1 e (back e b))

  taken : {i : ℕ} {c : Option View} → Whose r i c → r.phase ≡ between → ⊥
  taken (of_turn i e) f = cc
  taken (of_showing i s l e) f = cc

  moved_to : {line : Line} {e : StepFault} {i j : ℕ} {c d : Option View} → Whose r i c → Whose r j d
      → Hinders r j d line e → Hinders r i c line e
  moved_to {line = line} {e = e} w v h =
      let q = whose_same w v in subst (λ (a : ℕ × Option View). Hinders r a.0 a.1 line e) (λ l. (sym q.0 l, sym q.1 l)) h

  still : {i j : ℕ} {c d : Option View} → Whose r i c → Whose r j d → OwesNothing (lone_at r j) → OwesNothing (lone_at r i)
  still w v o = subst (λ (n : ℕ). OwesNothing (lone_at r n)) (sym (whose_same w v).0) o

  by_itself : (line : Line) → Acts line → (i : ℕ) (c : Option View) → Whose r i c
      → ((j : ℕ) (s : Saved) (cl : View) → r.phase ≡ showing j s cl → Owes r i)
      → (e : StepFault) → Why line e → Hinders r i c line e
  by_itself line a i c w owes e (hindered j d v h) = moved_to w v h
  by_itself line a i c w owes e (before_a_turn l n h) = absurd (taken w h)
  by_itself line a i c w owes e (all_kept l j s cl b h o) =
      absurd (owes j s cl h (still w (of_showing j s cl h) o))
  by_itself line a i c w owes e h = absurd a

  act_left : (line : Line) → Acts line → Left (Why line) (Moment ∷ by_thread line)
  act_left line a = in_range line (λ i q. subst Acts q a) (λ x v s q. subst Acts q a)

  act_in_verdict : (line : Line) → Acts line → (ph : Phase) → r.phase ≡ ph → Verdict (Why line) (act_in r line ph)
  act_in_verdict line a between e = stop (act_left line a) (before_a_turn line (λ i q. subst Acts q a) e)
  act_in_verdict line a (turn i) e =
      let w = of_turn i e in
      lifts w (by_itself line a i None w (λ j s cl f. cc)) (act_verdict r i None apart (marks i) line a)
  act_in_verdict line a (showing i s cl) e =
      let w = of_showing i s cl e in
      let k = thread_at r i in
      let alone : none_owed k.owed ≡ false → (f : StepFault) → Why line f → Hinders r i (Some cl) line f =
      λ b. by_itself line a i (Some cl) w (λ j s' cl' h. something k.owed r.memory (marks i).1 b) in
      tested (act_left line a) (none_owed k.owed)
      (λ b. all_kept line i s cl a e (nothing k.owed r.memory b))
      (λ b h. never_moment (alone b Moment h))
      (λ b left. lifts w (alone b) (act_verdict r i (Some cl) apart (marks i) line a))

  -- T
  not_begun : (i : ℕ) → r.phase ≡ between → Why (T i) Moment → ⊥
  not_begun i e (begun j m c w) = taken w e
  not_begun i e (before_a_turn l n h) = n i refl
  not_begun i e (all_kept l j s c a h o) = absurd a
  not_begun i e (hindered j c w h) = never_moment h

  a_thread : (i : ℕ) → i < length r.threads → Why (T i) Range → ⊥
  a_thread i lt (no_thread j h) = absurd (omega arith)
  a_thread i lt (hindered j c w h) = never_range h

  begin_verdict : (i : ℕ) → Left (Why (T i)) (Moment ∷ []) → (ph : Phase) → r.phase ≡ ph
      → Verdict (Why (T i)) (begin_in r i ph)
  begin_verdict i left between e = nothing_left (skip left (not_begun i e))
  begin_verdict i left (turn j) e = stop left (begun i j None (of_turn j e))
  begin_verdict i left (showing j s cl) e = stop left (begun i j (Some cl) (of_showing j s cl e))

  -- G
  promise_alone : (x v : ℕ) (s : Span) (i : ℕ) → x < r.locations → r.phase ≡ turn i
      → (e : StepFault) → Why (G x v s) e → Hinders r i None (G x v s) e
  promise_alone x v s i lt e f (no_location y u q h) = absurd (omega arith)
  promise_alone x v s i lt e f (before_a_turn l n h) = absurd (taken (of_turn i e) h)
  promise_alone x v s i lt e f (all_kept l j q c a h o) = absurd a
  promise_alone x v s i lt e f (promise_shown y u q j sv cl h) = cc
  promise_alone x v s i lt e f (hindered j d w h) = moved_to (of_turn i e) w h

  a_location : (x v : ℕ) (s : Span) → x < r.locations → Why (G x v s) Range → ⊥
  a_location x v s lt (no_location y u q h) = absurd (omega arith)
  a_location x v s lt (hindered j c w h) = never_range h

  promise_in_verdict : (x v : ℕ) (s : Span) → x < r.locations → Left (Why (G x v s)) (Moment ∷ by_thread (G x v s))
      → (ph : Phase) → r.phase ≡ ph → Verdict (Why (G x v s)) (promise_in r x v s ph)
  promise_in_verdict x v s lt left between e = stop left (before_a_turn (G x v s) (λ i q. cc) e)
  promise_in_verdict x v s lt left (turn i) e =
      lifts (of_turn i e) (promise_alone x v s i lt e) (promise_verdict r i None apart (marks i) x v s)
  promise_in_verdict x v s lt left (showing i sv cl) e = stop left (promise_shown x v s i sv cl e)

  -- X
  something_to_show : (i : ℕ) → r.phase ≡ turn i → Owes r i → Why X Moment → ⊥
  something_to_show i e owes (before_a_turn l n h) = cc
  something_to_show i e owes (all_kept l j s c a h o) = absurd a
  something_to_show i e owes (shown_already j s cl h) = cc
  something_to_show i e owes (nothing_to_show j h o) = owes (still (of_turn i e) (of_turn j h) o)
  something_to_show i e owes (hindered j c w h) = never_moment h

  show_left : Left (Why X) (Moment ∷ [])
  show_left = in_range X (λ i q. cc) (λ x v s q. cc)

  show_verdict : (ph : Phase) → r.phase ≡ ph → Verdict (Why X) (show_in r ph)
  show_verdict between e = stop show_left (before_a_turn X (λ i q. cc) e)
  show_verdict (turn i) e =
      let k = thread_at r i in
      tested show_left (none_owed k.owed)
      (λ b. nothing_to_show i e (nothing k.owed r.memory b))
      (λ b. something_to_show i e (something k.owed r.memory (marks i).1 b))
      (λ b left. nothing_left left)
  show_verdict (showing i s cl) e = stop show_left (shown_already i s cl e)

  -- E
  may_end : {i : ℕ} {c : Option View} → Whose r i c → Why E Moment → ⊥
  may_end w (before_a_turn l n h) = taken w h
  may_end w (all_kept l j s c a h o) = absurd a
  may_end w (hindered j c v h) = never_moment h

  all_is_kept : {i : ℕ} {c : Option View} → Whose r i c → OwesNothing (lone_at r i) → Why E StillOwing → ⊥
  all_is_kept w o (hindered j c v (still_owing h)) = h (still v w o)

  end_left : Left (Why E) (Moment ∷ StillOwing ∷ [])
  end_left = in_range E (λ i q. cc) (λ x v s q. cc)

  ends : {i : ℕ} {c : Option View} → Whose r i c → (r' : Run)
      → Verdict (Why E) (cond (none_owed (thread_at r i).owed) (went r') (refused StillOwing))
  ends {i = i} {c = c} w r' =
      let k = thread_at r i in
      needed (skip end_left (may_end w)) (none_owed k.owed)
      (λ b. hindered i c w (still_owing (something k.owed r.memory (marks i).1 b)))
      (λ b. all_is_kept w (nothing k.owed r.memory b))
      (λ b left. nothing_left left)

  end_verdict : (ph : Phase) → r.phase ≡ ph → Verdict (Why E) (end_in r ph)
  end_verdict between e = stop end_left (before_a_turn E (λ i q. cc) e)
  end_verdict (turn i) e = ends (of_turn i e) _
  end_verdict (showing i s cl) e = ends (of_showing i s cl e) _

  line_verdict : (line : Line) → Verdict (Why line) (line_result line r)
  line_verdict (T i) =
      needed (raised (T i)) (ltb i (length r.threads))
      (λ b. no_thread i (ltb-false i (length r.threads) b))
      (λ b. a_thread i (ltb-true i (length r.threads) b))
      (λ b left. begin_verdict i left r.phase refl)
  line_verdict (G x v s) =
      needed (raised (G x v s)) (ltb x r.locations)
      (λ b. no_location x v s (ltb-false x r.locations b))
      (λ b. a_location x v s (ltb-true x r.locations b))
      (λ b left. promise_in_verdict x v s (ltb-true x r.locations b) left r.phase refl)
  line_verdict X = show_verdict r.phase refl
  line_verdict E = end_verdict r.phase refl
  line_verdict line = act_in_verdict line tt r.phase refl

  pub refusals : Refusals r
  refusals line e = go (line_result line r) (line_verdict line)
    where
      go : (t : Tried Run) → Verdict (Why line) t
          → (t ≡ refused e → FirstReason r line e) × (FirstReason r line e → t ≡ refused e)
      go (went r') (no_reason v) = (λ q. cc, λ f. absurd (v e f.0))
      go (refused f) (first_reason v) = (
        λ q. let same : f ≡ e = cc in subst (FirstReason r line) same v,
        λ w.
            let a = v.1 e w.0 in
            let b = w.1 f v.0 in
            let all = raised line in
            ap refused (one_row f e (by_line line) all.rows (all.among f v.0) (all.among e w.0) (omega arith)),
      )

  pub acceptances : Acceptances r
  acceptances line = go (line_result line r) (line_verdict line)
    where
      go : (t : Tried Run) → Verdict (Why line) t → ((r' : Run) → t ≡ went r' → (e : StepFault) → Why line e → ⊥)
          × (((e : StepFault) → Why line e → ⊥) → (r' : Run) × (t ≡ went r'))
      go (went q) (no_reason v) = (λ r' s. v, λ n. (q, refl))
      go (refused e) (first_reason v) = (λ r' s f h. cc, λ n. absurd (n e v.0))
