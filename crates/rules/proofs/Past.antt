-- What the history of a run says of it. Assumes nothing.
use Rattle.std.proofs.Common.{◌≡◌, ℕ, ◌<◌, ◌≤◌, Bool, cond, ◌&&◌, eqb, ◌⊎◌, List, [], ◌∷◌, ◌++◌, length, get_or, Some, None, Option, sym, refl, ap, ◌∙◌, subst, inl, inr, append_assoc, append-nil, arith, length-set}
use Rattle.std.proofs.lemmas.Bool.{and_parts, eqb-true, eq-eqb, ne_eqb, cond-true, cond-false, cond_both}
use Rattle.lines.specs.declared.span.Span.{Span}
use Rattle.lines.specs.declared.trace.Line.{Line}
use Rattle.lines.specs.declared.trace.Line.TheVariants.{Turn as T, Promise as G, Show as X, EndTurn as E}
use Rattle.languages.specs.declared.action.Action.TheVariants.{Write}
use Rattle.languages.specs.declared.action.ReadMode.{ReadMode}
use Rattle.languages.specs.declared.action.ReadMode.TheVariants.{Relaxed as RelaxedRead, Acquire}
use Rattle.languages.specs.declared.action.WriteMode.TheVariants.{Relaxed}
use Rattle.stores.specs.declared.view.View.{View}
use Rattle.stores.specs.declared.message.Message.{Message}
use Rattle.stores.specs.Views.{at, single, join}
use Rattle.stores.specs.StoreLaws.{In}
use Rattle.stores.proofs.ViewLaws.{at_join, at_single}
use Rattle.rules.specs.Models.{Thread, Part, Phase, between, turn, showing, Run, nobody, thread_at, part_at, with_part, in_phase}
use Rattle.rules.specs.Threads.{marked, next_of, read_cur, write_views}
use Rattle.rules.specs.Rules.{written, updated_message, update_views, with_message, promised_message, owing, closing_line, saved, put_back}
use Rattle.rules.specs.Alone.{Lone, lone, onward, Alone, silent, acquire_fence, release_fence, both_fence, sequential_fence, print, read, write, update, keep}
use Rattle.rules.specs.Steps.{lone_at, printed, Acting, in_turn, in_showing, Step, begins, acts, promises, shows, ends_turn, ends_showing}
use Rattle.rules.specs.Histories.{Event, was_read, was_written, was_updated, was_promised, was_kept, Place, place_after, place_of, Move, Given, nothing_given, goes, stays}
use Rattle.rules.specs.Histories.{Does, reading, writing, updating, promising, keeping, stepping, beginning, showing_it, ending, Did, nothing_done, in_no_turn, in_a_turn, in_a_showing}
use Rattle.rules.specs.Histories.{messages, without, owes_after, if_this, times, updates, undone_in, undone}
use Rattle.rules.specs.Laws.{IsIn, Distinct, RisingFrom, Apart}
use Rattle.rules.proofs.Members.{in_left, in_last}
use Rattle.rules.proofs.Marked.{marked_more, marked_promise, apart_marked, without_one}
use Rattle.rules.proofs.Accepts.{Acted}
use Rattle.rules.proofs.Preserved.{write_within, reads_within, update_within}
use Rattle.rules.proofs.Sound.{Good, at_set, Changed, acted_changed, SoundAt, Sound, same_back, Promised, promised_changed, shown_back}
use Rattle.rules.proofs.Led.{step_sound, step_place}

-- times that begin at or above lo, never fall, and end at or below hi
abbrev Rises : ℕ → List ℕ → ℕ → Type 0
Rises lo [] hi = lo ≤ hi
Rises lo (t ∷ ts) hi = (lo ≤ t) × Rises t ts hi

-- a message that begins where another at its location ends
abbrev Taken : List Message → (ℕ × ℕ) → Type 0
Taken ms p = (m : Message) × In m ms × (m.location ≡ p.0) × (m.span.from ≡ p.1) × (m.span.from < m.span.to)

-- what the events of one line of thread i say of the thread and of the memory
record Told (i : ℕ) (k : Lone) (M : List Message) (k' : Lone) (M' : List Message) (es : List Event) : Type 0 where
  memory : M' ≡ M ++ messages es
  owed : k'.owed ≡ owes_after i k.owed es
  others : (j : ℕ) → (i ≡ j → ⊥) → (ms : List Message) → owes_after j ms es ≡ ms
  risen : (x : ℕ) → Rises (at k.views.cur x) (times i x es) (at k'.views.cur x)
  still : (j : ℕ) → (i ≡ j → ⊥) → (x : ℕ) → times j x es ≡ []
  fresh : (p : ℕ × ℕ) → IsIn p (updates es) → (Taken M p → ⊥) × Taken M' p
  one : Distinct (updates es)

-- times of one access
this_rises : (i x y : ℕ) (ts : List ℕ) (lo hi : ℕ) → lo ≤ hi → (y ≡ x → Rises lo ts hi) → Rises lo (if_this i x i y ts ++ []) hi
this_rises i x y ts lo hi le h =
    cond_both _ _ _ (λ us. Rises lo (us ++ []) hi)
    (λ e. subst (λ (us : List ℕ). Rises lo us hi) (sym (append-nil ts)) (h (eqb-true y x (and_parts (eqb i i) (eqb y x) e).1))) (λ _. le)

not_this : (i j x y : ℕ) (ts : List ℕ) → (i ≡ j → ⊥) → if_this j x i y ts ++ [] ≡ []
not_this i j x y ts ne = ap (λ (b : Bool). cond (b && eqb y x) ts [] ++ []) (ne_eqb i j ne)

kept_other : (i j : ℕ) (ms ns : List Message) → (i ≡ j → ⊥) → cond (eqb i j) ms ns ≡ ns
kept_other i j ms ns ne = cond-false _ _ _ (ne_eqb i j ne)

kept_own : (i : ℕ) (ms ns : List Message) → cond (eqb i i) ms ns ≡ ms
kept_own i ms ns = cond-true _ _ _ (eq-eqb i i refl)

single_end : (v : View) (x t : ℕ) → x < 8 → t ≤ at (join v (single x t)) x
single_end v x t lt = let a = at_join v (single x t) x in let b = at_single x t lt in omega arith

join_more : (v w : View) (x : ℕ) → at v x ≤ at (join v w) x
join_more v w x = let a = at_join v w x in omega arith

read_more : (o : ReadMode) (x t : ℕ) (m c : View) (y : ℕ) → at c y ≤ at (read_cur o x t m c) y
read_more RelaxedRead x t m c y = join_more c (single x t) y
read_more Acquire x t m c y = let a = join_more c (single x t) y in let b = join_more (join c (single x t)) m y in omega arith

read_end : (o : ReadMode) (x t : ℕ) (m c : View) → x < 8 → t ≤ at (read_cur o x t m c) x
read_end RelaxedRead x t m c lt = single_end c x t lt
read_end Acquire x t m c lt = let a = single_end c x t lt in let b = join_more (join c (single x t)) m x in omega arith

module _ (i : ℕ) (r : Run) (g : Good r) where
  abbrev l : ℕ
  l = r.locations

  abbrev k : Thread
  k = thread_at r i

  abbrev lk : Lone
  lk = lone_at r i

  abbrev M : List Message
  M = r.memory

  -- nothing of note
  quiet : (k' : Lone) → k'.owed ≡ lk.owed → ((x : ℕ) → at k.views.cur x ≤ at k'.views.cur x) → Told i lk M k' M []
  quiet k' e up = record {
    memory = sym (append-nil M);
    owed = e;
    others = λ j ne ms. refl;
    risen = up;
    still = λ j ne x. refl;
    fresh = λ p h. absurd h;
    one = tt;
  }

  -- a step by itself did something, which tells this
  told : {closing : Option View} {line : Line} {k' : Lone} {S' : View} {M' : List Message} → Alone l closing lk r.sc M line k' S' M'
      → (r' : Run) → r'.memory ≡ M' → (es : List Event) × Does i r r' line es × Told i lk M k' M' es
  told {k' = k'} (silent e) r' q = ([], stepping, quiet k' refl (λ x. omega arith))
  told {k' = k'} (acquire_fence e) r' q = ([], stepping, quiet k' refl (g.fit i).ordered.acq)
  told {k' = k'} (release_fence e n) r' q = ([], stepping, quiet k' refl (λ x. omega arith))
  told {k' = k'} (both_fence e n) r' q = ([], stepping, quiet k' refl (g.fit i).ordered.acq)
  told {k' = k'} (sequential_fence e n) r' q =
      ([], stepping, quiet k' refl (λ x. let a = (g.fit i).ordered.acq x in let b = at_join r.sc k.views.acq x in omega arith))
  told {k' = k'} (print v e n) r' q = ([], stepping, quiet k' refl (λ x. omega arith))
  told {k' = k'} (read o m e h le τ) r' q =
      let x = m.location in
      let t = m.span.to in
      let lt : x < l = reads_within l (k.does []).next x o e in
      let few = g.few in (
        was_read i x t ∷ [],
        reading x t o e,
        record {
          memory = sym (append-nil M);
          owed = refl;
          others = λ j ne ms. refl;
          risen = λ y. this_rises i y x (t ∷ []) (at k.views.cur y) (at (read_cur o x t m.view k.views.cur) y) (read_more o x t m.view k.views.cur y)
              (λ q. subst (λ (z : ℕ). (at k.views.cur z ≤ t) × (t ≤ at (read_cur o x t m.view k.views.cur) z)) q (le, read_end o x t m.view k.views.cur (omega arith)));
          still = λ j ne y. not_this i j y x (t ∷ []) ne;
          fresh = λ p h. absurd h;
          one = tt;
        },
      )
  told {k' = k'} (write x v o s e n less span free up) r' q =
      let t = s.to in
      let m = written x v s (write_views o x t k.views) in
      let lt : x < l = write_within l (k.does []).next x v o e in
      let few = g.few in (
        was_written i m ∷ [],
        writing s m q,
        record {
          memory = refl;
          owed = refl;
          others = λ j ne ms. refl;
          risen = λ y. this_rises i y x (t ∷ []) (at k.views.cur y) (at (join k.views.cur (single x t)) y) (join_more k.views.cur (single x t) y)
              (λ q. subst (λ (z : ℕ). (at k.views.cur z ≤ t) × (t ≤ at (join k.views.cur (single x t)) z)) q (omega arith, single_end k.views.cur x t (omega arith)));
          still = λ j ne y. not_this i j y x (t ∷ []) ne;
          fresh = λ p h. absurd h;
          one = tt;
        },
      )
  told {k' = k'} (update o w m v t e n h le τ span free up) r' q =
      let x = m.location in
      let f = m.span.to in
      let s = onward m t in
      let m' = updated_message x v s m.view (update_views o w x s m.view k.views) in
      let lt : x < l = update_within l (k.does []).next x o w e in
      let few = g.few in
      let c = read_cur o x f m.view k.views.cur in (
        was_updated i f m' ∷ [],
        updating s m' q,
        record {
          memory = refl;
          owed = refl;
          others = λ j ne ms. refl;
          risen = λ y. this_rises i y x (f ∷ t ∷ []) (at k.views.cur y) (at (join c (single x t)) y)
              (let a = read_more o x f m.view k.views.cur y in let b = join_more c (single x t) y in omega arith)
              (λ q. subst (λ (z : ℕ). (at k.views.cur z ≤ f) × ((f ≤ t) × (t ≤ at (join c (single x t)) z))) q (le, (omega arith, single_end c x t (omega arith))));
          still = λ j ne y. not_this i j y x (f ∷ t ∷ []) ne;
          fresh = λ p q. once p q;
          one = (λ z. z, tt);
        },
      )
    where
      once : (p : ℕ × ℕ) → IsIn p ((m.location, m.span.to) ∷ [])
          → (Taken M p → ⊥) × Taken (M ++ (updated_message m.location v (onward m t) m.view (update_views o w m.location (onward m t) m.view k.views) ∷ [])) p
      once p (inl q) =
          let qx : p.0 ≡ m.location = ap (λ (z : ℕ × ℕ). z.0) q in
          let qf : p.1 ≡ m.span.to = ap (λ (z : ℕ × ℕ). z.1) q in
          let m' = updated_message m.location v (onward m t) m.view (update_views o w m.location (onward m t) m.view k.views) in
          ((λ b. let d = b.3 in let s = b.4 in free b.0 b.1 (b.2 ∙ qx, omega arith, omega arith)), (m', in_last m' M, sym qx, sym qf, span))
      once p (inr q) = absurd q
  told {k' = k'} (keep m before later e o less) r' q =
      let x = m.location in
      let t = m.span.to in
      let lt : x < l = write_within l (k.does []).next x m.value _ e in
      let few = g.few in (
        was_kept i x t ∷ [],
        keeping x m.value t e,
        record {
          memory = sym (append-nil M);
          owed = sym (kept_own i (without x t lk.owed) lk.owed ∙ ap (without x t) o ∙ without_one m before later (subst Apart o (apart_marked k.owed M g.sane.apart)));
          others = λ j ne ms. kept_other i j (without x t ms) ms ne;
          risen = λ y. this_rises i y x (t ∷ []) (at k.views.cur y) (at (join k.views.cur (single x t)) y) (join_more k.views.cur (single x t) y)
              (λ q. subst (λ (z : ℕ). (at k.views.cur z ≤ t) × (t ≤ at (join k.views.cur (single x t)) z)) q (omega arith, single_end k.views.cur x t (omega arith)));
          still = λ j ne y. not_this i j y x (t ∷ []) ne;
          fresh = λ p h. absurd h;
          one = tt;
        },
      )

-- what the events of one line say of the run
record Counted (r r' : Run) (es : List Event) : Type 0 where
  threads : length r'.threads ≡ length r.threads
  locations : r'.locations ≡ r.locations
  memory : (undone r').memory ≡ (undone r).memory ++ messages es
  owed : (j : ℕ) → (lone_at (undone r') j).owed ≡ owes_after j (lone_at (undone r) j).owed es
  risen : (j x : ℕ) → Rises (at (thread_at (undone r) j).views.cur x) (times j x es) (at (thread_at (undone r') j).views.cur x)
  fresh : (p : ℕ × ℕ) → IsIn p (updates es) → (Taken (undone r).memory p → ⊥) × Taken (undone r').memory p
  one : Distinct (updates es)

-- a line after which what counts is as it was, the threads and the memory of q
same_past : (r r' q : Run) → undone r ≡ q → length r'.threads ≡ length r.threads → r'.locations ≡ r.locations
    → (undone r').threads ≡ q.threads → (undone r').memory ≡ q.memory → Counted r r' []
same_past r r' q u n el same_threads same_memory =
    let et = same_threads ∙ ap (λ (q : Run). q.threads) (sym u) in
    let em = same_memory ∙ ap (λ (q : Run). q.memory) (sym u) in
    record {
      threads = n;
      locations = el;
      memory = em ∙ sym (append-nil (undone r).memory);
      owed = λ j. ap (λ (ks : List Thread). marked (get_or ks j nobody).owed (undone r').memory) et ∙ ap (marked (thread_at (undone r) j).owed) em;
      risen = λ j x. let e : at (get_or (undone r').threads j nobody).views.cur x ≡ at (get_or (undone r).threads j nobody).views.cur x = ap (λ (ks : List Thread). at (get_or ks j nobody).views.cur x) et in omega arith;
      fresh = λ p h. absurd h;
      one = tt;
    }

-- a counted line of thread i
part_past : (r : Run) (i : ℕ) (p : Part) (es : List Event) → r.phase ≡ turn i → i < length r.threads → Good r → Changed r i p
    → Told i (lone_at r i) r.memory (lone p.thread p.memory) p.memory es → Counted r (with_part r i p) es
part_past r i p es e lt g c t =
    let now : undone r ≡ r = ap (undone_in r) e in
    let after : undone (with_part r i p) ≡ with_part r i p = ap (undone_in (with_part r i p)) e in
    record {
      threads = length-set r.threads i p.thread;
      locations = refl;
      memory = ap (λ (q : Run). q.memory) after ∙ t.memory ∙ ap (λ (q : Run). q.memory ++ messages es) (sym now);
      owed = λ j. ap (λ (q : Run). (lone_at q j).owed) after ∙ owes j ∙ ap (λ (q : Run). owes_after j (lone_at q j).owed es) (sym now);
      risen = λ j x.
          subst (λ (q : Run). Rises (at (thread_at q j).views.cur x) (times j x es) (at (thread_at (undone (with_part r i p)) j).views.cur x)) (sym now)
          (subst (λ (q : Run). Rises (at (thread_at r j).views.cur x) (times j x es) (at (thread_at q j).views.cur x)) (sym after) (rises j x));
      fresh = λ q h.
          subst (λ (a : Run). (Taken a.memory q → ⊥) × Taken (undone (with_part r i p)).memory q) (sym now)
          (subst (λ (a : Run). (Taken r.memory q → ⊥) × Taken a.memory q) (sym after) (t.fresh q h));
      one = t.one;
    }
  where
    owes : (j : ℕ) → (lone_at (with_part r i p) j).owed ≡ owes_after j (lone_at r j).owed es
    owes j =
        at_set r.threads i j p.thread (λ y. marked y.owed p.memory ≡ owes_after j (lone_at r j).owed es) lt
        (λ q. t.owed ∙ ap (λ (n : ℕ). owes_after n (lone_at r n).owed es) (sym q))
        (λ ne. ap (marked (thread_at r j).owed) c.memory ∙ marked_more (thread_at r j).owed r.memory c.more (g.marks j).1 ∙ sym (t.others j (λ q. ne (sym q)) (lone_at r j).owed))

    rises : (j x : ℕ) → Rises (at (thread_at r j).views.cur x) (times j x es) (at (thread_at (with_part r i p) j).views.cur x)
    rises j x =
        at_set r.threads i j p.thread (λ y. Rises (at (thread_at r j).views.cur x) (times j x es) (at y.views.cur x)) lt
        (λ q. subst (λ (n : ℕ). Rises (at (thread_at r n).views.cur x) (times n x es) (at p.thread.views.cur x)) (sym q) (t.risen x))
        (λ ne. subst (λ (ts : List ℕ). Rises (at (thread_at r j).views.cur x) ts (at (thread_at r j).views.cur x)) (sym (t.still j (λ q. ne (sym q)) x)) (omega arith))

promise_told : (r : Run) (i x v : ℕ) (s : Span) (p : Part) → Good r → Promised r i x v s p
    → Told i (lone_at r i) r.memory (lone p.thread p.memory) p.memory (was_promised i (promised_message (thread_at r i).views x v s) ∷ [])
promise_told r i x v s p g a =
    let k = thread_at r i in
    let m = promised_message k.views x v s in
    subst (λ (q : Part). Told i (lone_at r i) r.memory (lone q.thread q.memory) q.memory (was_promised i m ∷ [])) (sym a.is)
    (record {
      memory = refl;
      owed =
          marked_promise k.owed r.memory m (let b = (g.marks i).0 in let d = a.room in let z = g.small in omega arith) (g.marks i).1
          ∙ sym (kept_own i ((lone_at r i).owed ++ (m ∷ [])) (lone_at r i).owed);
      others = λ j ne ms. kept_other i j (ms ++ (m ∷ [])) ms ne;
      risen = λ y. omega arith;
      still = λ j ne y. refl;
      fresh = λ q h. absurd h;
      one = tt;
    })

-- what a line did stands before what those after it did
abbrev Adds : Place → Move → List Event → Type 0
Adds a m es = (ms : List Move) (fs : List Event) → Did (place_after a m.line) ms fs → Did a (m ∷ ms) (es ++ fs)

-- what a step did, and what that says
abbrev Added : Run → Line → Run → Type 0
Added r line r' = (es : List Event) × Adds (place_of r.phase) (record { before = r; line = line; after = r' }) es × Counted r r' es

added : (r r' : Run) (line : Line) (ph : Phase) (es : List Event) → r.phase ≡ ph
    → Adds (place_of ph) (record { before = r; line = line; after = r' }) es → Counted r r' es → Added r line r'
added r r' line ph es e d c = (es, subst (λ (q : Phase). Adds (place_of q) (record { before = r; line = line; after = r' }) es) (sym e) d, c)

act_added : {r : Run} {i : ℕ} {closing : Option View} {line : Line} (p : Part) → Acting r i closing → Acted r.locations i closing line (part_at r i) p → Sound r
    → Added r line (with_part r i p)
act_added {r = r} {line = line} p (in_turn i e) a sound =
    let s = subst (SoundAt r) e sound in
    let t = told i r s.1 a.step (with_part r i p) refl in
    added r (with_part r i p) line (turn i) t.0 e (λ ms fs d. in_a_turn t.1 d) (part_past r i p t.0 e s.0 s.1 (acted_changed r i None line p s.1 a) t.2)
act_added {r = r} {line = line} p (in_showing i b cl e n) a sound =
    let s = subst (SoundAt r) e sound in
    let c = acted_changed r i (Some cl) line p s.good a in
    let back : undone (with_part r i p) ≡ put_back r i b = ap (undone_in (with_part r i p)) e ∙ same_back r i p b s.messages s.prints c in
    added r (with_part r i p) line (showing i b cl) [] e (λ ms fs d. in_a_showing d)
    (same_past r (with_part r i p) (put_back r i b) (ap (undone_in r) e) (length-set r.threads i p.thread) refl (ap (λ (q : Run). q.threads) back) (ap (λ (q : Run). q.memory) back))

step_added : {r : Run} {line : Line} {r' : Run} → Step r line r' → Sound r → Added r line r'
step_added {r = r} (begins i lt e) sound =
    added r (in_phase r (turn i)) (T i) between [] e (λ ms fs d. in_no_turn d) (same_past r (in_phase r (turn i)) r (ap (undone_in r) e) refl refl refl refl)
step_added {r = r} (acts {line = line} i closing k S M act s marks room prints) sound =
    act_added (record { thread = k; memory = M; capacity = r.capacity; sc = S; log = r.log ++ printed i (next_of r.locations (thread_at r i).does) }) act
    (record { step = s; marks = marks; capacity = refl; room = room; log = refl; prints = prints }) sound
step_added {r = r} (promises i x v s e lt less span free room) sound =
    let h = subst (SoundAt r) e sound in
    let m = promised_message (thread_at r i).views x v s in
    let p = with_message (part_at r i) (owing (thread_at r i) (length r.memory)) m in
    let a : Promised r i x v s p = record { is = refl; new = less; span = span; free = free; room = room } in
    added r (with_part r i p) (G x v s) (turn i) (was_promised i m ∷ []) e (λ ms fs d. in_a_turn (promising x v s m refl) d)
    (part_past r i p (was_promised i m ∷ []) e h.0 h.1 (promised_changed r i x v s p lt h.1 a) (promise_told r i x v s p h.1 a))
step_added {r = r} (shows i e n) sound =
    let ph = showing i (saved r i) (closing_line r.memory) in
    let back = shown_back r i ph in
    added r (in_phase r ph) X (turn i) [] e (λ ms fs d. in_a_turn showing_it d)
    (same_past r (in_phase r ph) r (ap (undone_in r) e) refl refl (ap (λ (q : Run). q.threads) back) (ap (λ (q : Run). q.memory) back))
step_added {r = r} (ends_turn i e n) sound =
    added r (in_phase r between) E (turn i) [] e (λ ms fs d. in_a_turn ending d) (same_past r (in_phase r between) r (ap (undone_in r) e) refl refl refl refl)
step_added {r = r} (ends_showing i s cl e n) sound =
    added r (in_phase (put_back r i s) between) E (showing i s cl) [] e (λ ms fs d. in_a_showing d)
    (same_past r (in_phase (put_back r i s) between) (put_back r i s) (ap (undone_in r) e) (length-set r.threads i s.thread) refl refl refl)

-- accepted lines did one thing

last_same : (xs : List Message) (x y : Message) → xs ++ (x ∷ []) ≡ xs ++ (y ∷ []) → x ≡ y
last_same [] x y e = cc
last_same (z ∷ xs) x y e = last_same xs x y (cc)

brought_same : (r r' : Run) (m n : Message) → r'.memory ≡ r.memory ++ (m ∷ []) → r'.memory ≡ r.memory ++ (n ∷ []) → m ≡ n
brought_same r r' m n e f = last_same r.memory m n (sym e ∙ f)

does_one : {i : ℕ} {r r' : Run} {line : Line} {es fs : List Event} → Does i r r' line es → Does i r r' line fs → es ≡ fs
does_one {i = i} (reading x t o e) (reading y _ p f) = ap (λ z. was_read i z t ∷ []) (same_place (sym e ∙ f))
  where
    same_place : ◌≡◌ {A = Option (ℕ × ReadMode)} (Some (x, o)) (Some (y, p)) → x ≡ y
    same_place e = let q : ◌≡◌ {A = ℕ × ReadMode} (x, o) (y, p) = cc in ap (λ q. q.0) q
does_one {i = i} {r = r} {r' = r'} (writing s m e) (writing _ n f) = ap (λ q. was_written i q ∷ []) (brought_same r r' m n e f)
does_one {i = i} {r = r} {r' = r'} (updating s m e) (updating _ n f) = ap (λ q. was_updated i s.from q ∷ []) (brought_same r r' m n e f)
does_one {i = i} {r = r} {r' = r'} (promising x v s m e) (promising _ _ _ n f) = ap (λ q. was_promised i q ∷ []) (brought_same r r' m n e f)
does_one {i = i} (keeping x v t e) (keeping y w _ f) =
    let p : Write x v Relaxed ≡ Write y w Relaxed = sym e ∙ f in let q : x ≡ y = cc in ap (λ z. was_kept i z t ∷ []) q
does_one stepping stepping = refl
does_one (beginning j) (beginning _) = refl
does_one showing_it showing_it = refl
does_one ending ending = refl

pub did_one : {a : Place} {ms : List Move} {es fs : List Event} → Did a ms es → Did a ms fs → es ≡ fs
did_one nothing_done nothing_done = refl
did_one (in_no_turn d) (in_no_turn b) = did_one d b
did_one (in_a_turn d ds) (in_a_turn b bs) = let e = does_one d b in let f = did_one ds bs in λ j. e j ++ f j
did_one (in_a_showing d) (in_a_showing b) = did_one d b

-- events one after another
messages_append : (es fs : List Event) → messages (es ++ fs) ≡ messages es ++ messages fs
messages_append [] fs = refl
messages_append (was_read i x t ∷ es) fs = messages_append es fs
messages_append (was_written i m ∷ es) fs = ap (λ (ms : List Message). m ∷ ms) (messages_append es fs)
messages_append (was_updated i f m ∷ es) fs = ap (λ (ms : List Message). m ∷ ms) (messages_append es fs)
messages_append (was_promised i m ∷ es) fs = ap (λ (ms : List Message). m ∷ ms) (messages_append es fs)
messages_append (was_kept i x t ∷ es) fs = messages_append es fs

owes_append : (j : ℕ) (ms : List Message) (es fs : List Event) → owes_after j ms (es ++ fs) ≡ owes_after j (owes_after j ms es) fs
owes_append j ms [] fs = refl
owes_append j ms (was_read i x t ∷ es) fs = owes_append j ms es fs
owes_append j ms (was_written i m ∷ es) fs = owes_append j ms es fs
owes_append j ms (was_updated i f m ∷ es) fs = owes_append j ms es fs
owes_append j ms (was_promised i m ∷ es) fs = owes_append j (cond (eqb i j) (ms ++ (m ∷ [])) ms) es fs
owes_append j ms (was_kept i x t ∷ es) fs = owes_append j (cond (eqb i j) (without x t ms) ms) es fs

times_append : (j x : ℕ) (es fs : List Event) → times j x (es ++ fs) ≡ times j x es ++ times j x fs
times_append j x [] fs = refl
times_append j x (was_read i y t ∷ es) fs =
    ap (λ (ts : List ℕ). if_this j x i y (t ∷ []) ++ ts) (times_append j x es fs) ∙ sym (append_assoc (if_this j x i y (t ∷ [])) (times j x es) (times j x fs))
times_append j x (was_written i m ∷ es) fs =
    ap (λ (ts : List ℕ). if_this j x i m.location (m.span.to ∷ []) ++ ts) (times_append j x es fs) ∙ sym (append_assoc (if_this j x i m.location (m.span.to ∷ [])) (times j x es) (times j x fs))
times_append j x (was_updated i f m ∷ es) fs =
    ap (λ (ts : List ℕ). if_this j x i m.location (f ∷ m.span.to ∷ []) ++ ts) (times_append j x es fs) ∙ sym (append_assoc (if_this j x i m.location (f ∷ m.span.to ∷ [])) (times j x es) (times j x fs))
times_append j x (was_promised i m ∷ es) fs = times_append j x es fs
times_append j x (was_kept i y t ∷ es) fs =
    ap (λ (ts : List ℕ). if_this j x i y (t ∷ []) ++ ts) (times_append j x es fs) ∙ sym (append_assoc (if_this j x i y (t ∷ [])) (times j x es) (times j x fs))

updates_append : (es fs : List Event) → updates (es ++ fs) ≡ updates es ++ updates fs
updates_append [] fs = refl
updates_append (was_read i x t ∷ es) fs = updates_append es fs
updates_append (was_written i m ∷ es) fs = updates_append es fs
updates_append (was_updated i f m ∷ es) fs = ap (λ (ps : List (ℕ × ℕ)). (m.location, f) ∷ ps) (updates_append es fs)
updates_append (was_promised i m ∷ es) fs = updates_append es fs
updates_append (was_kept i x t ∷ es) fs = updates_append es fs

pub is_in_split : (p : ℕ × ℕ) (ps qs : List (ℕ × ℕ)) → IsIn p (ps ++ qs) → IsIn p ps ⊎ IsIn p qs
is_in_split p [] qs h = inr h
is_in_split p (q ∷ ps) qs (inl e) = inl (inl e)
is_in_split p (q ∷ ps) qs (inr h) = elim (is_in_split p ps qs h) [ inl a ↦ inl (inr a) | inr b ↦ inr b ]

distinct_append : (ps qs : List (ℕ × ℕ)) → Distinct ps → Distinct qs → ((p : ℕ × ℕ) → IsIn p ps → IsIn p qs → ⊥) → Distinct (ps ++ qs)
distinct_append [] qs d e h = e
distinct_append (p ∷ ps) qs d e h =
    (λ i. elim (is_in_split p ps qs i) [ inl a ↦ d.0 a | inr b ↦ h p (inl refl) b ], distinct_append ps qs d.1 e (λ q i. h q (inr i)))

rises_on : (lo hi : ℕ) (ts us : List ℕ) → Rises lo ts hi → ((t : ℕ) → t ≤ hi → RisingFrom t us) → RisingFrom lo (ts ++ us)
rises_on lo hi [] us h go = go lo h
rises_on lo hi (t ∷ ts) us h go = (h.0, rises_on t hi ts us h.1 go)

-- what a whole history says
pub record Past (r r' : Run) (es : List Event) : Type 0 where
  pub threads : length r'.threads ≡ length r.threads
  pub locations : r'.locations ≡ r.locations
  pub memory : (undone r').memory ≡ (undone r).memory ++ messages es
  pub owed : (j : ℕ) → (lone_at (undone r') j).owed ≡ owes_after j (lone_at (undone r) j).owed es
  pub rising : (j x t : ℕ) → t ≤ at (thread_at (undone r) j).views.cur x → RisingFrom t (times j x es)
  pub fresh : (p : ℕ × ℕ) → IsIn p (updates es) → Taken (undone r).memory p → ⊥
  pub distinct : Distinct (updates es)

taken_more : (ms xs : List Message) (p : ℕ × ℕ) → Taken ms p → Taken (ms ++ xs) p
taken_more ms xs p b = (b.0, in_left b.0 ms xs b.1, b.2, b.3, b.4)

past_on : (r r₁ r₂ : Run) (es fs : List Event) → Counted r r₁ es → Past r₁ r₂ fs → Past r r₂ (es ++ fs)
past_on r r₁ r₂ es fs c b = record {
  threads = b.threads ∙ c.threads;
  locations = b.locations ∙ c.locations;
  memory =
      b.memory ∙ ap (λ (ms : List Message). ms ++ messages fs) c.memory ∙ append_assoc (undone r).memory (messages es) (messages fs)
      ∙ ap (λ (ms : List Message). (undone r).memory ++ ms) (sym (messages_append es fs));
  owed = λ j. b.owed j ∙ ap (λ (ms : List Message). owes_after j ms fs) (c.owed j) ∙ sym (owes_append j (lone_at (undone r) j).owed es fs);
  rising = λ j x t le.
      subst (RisingFrom t) (sym (times_append j x es fs))
      (rises_on t (at (thread_at (undone r₁) j).views.cur x) (times j x es) (times j x fs) (lower t (at (thread_at (undone r) j).views.cur x) (at (thread_at (undone r₁) j).views.cur x) (times j x es) le (c.risen j x)) (λ u. b.rising j x u));
  fresh = λ p i taken.
      elim (is_in_split p (updates es) (updates fs) (subst (IsIn p) (updates_append es fs) i)) [
        | inl a ↦ (c.fresh p a).0 taken
        | inr a ↦ b.fresh p a (subst (λ (ms : List Message). Taken ms p) (sym c.memory) (taken_more (undone r).memory (messages es) p taken))
      ];
  distinct = subst Distinct (sym (updates_append es fs)) (distinct_append (updates es) (updates fs) c.one b.distinct (λ p i k. b.fresh p k (c.fresh p i).1));
}
  where
    lower : (t lo hi : ℕ) (ts : List ℕ) → t ≤ lo → Rises lo ts hi → Rises t ts hi
    lower t lo hi [] le h = omega arith
    lower t lo hi (u ∷ ts) le h = (omega (arith, h.0), h.1)

-- what accepted lines did, and what that says
pub past : {first : Run} {lines : List Line} {ms : List Move} {r : Run} → Given first lines ms r → (a : Place) → place_of first.phase ≡ a → Sound first
    → (es : List Event) × Did a ms es × Past first r es
past (nothing_given {r = r}) a e s = (
  [],
  nothing_done,
  record {
    threads = refl;
    locations = refl;
    memory = sym (append-nil (undone r).memory);
    owed = λ j. refl;
    rising = λ j x t le. tt;
    fresh = λ p i. absurd i;
    distinct = tt;
  },
)
past (goes {r = r} {r₁ = r₁} {r₂ = r₂} {line = line} {ms = ms} st g) a e s =
    let c = step_added st s in
    let b = past g (place_after (place_of r.phase) line) (step_place st) (step_sound st s) in
    (c.0 ++ b.0, subst (λ (p : Place). Did p (record { before = r; line = line; after = r₁ } ∷ ms) (c.0 ++ b.0)) e (c.1 ms b.0 b.1), past_on r r₁ r₂ c.0 b.0 c.2 b.2)
past (stays never g) a e s = past g a e s
