-- Each message is at a location of the run, and each print is of a thread of the run. Assumes nothing.
use Rattle.std.proofs.Common.{◌≡◌, ℕ, zero, suc, ◌<◌, List, [], ◌∷◌, ◌++◌, length, take, set, Option, ap, subst, inl, inr, arith, length-set}
use Rattle.lines.specs.declared.trace.Line.{Line}
use Rattle.languages.specs.declared.action.Action.{Action}
use Rattle.languages.specs.declared.action.Action.TheVariants.{Silent, Read, Write, Update, Fence, Print, Ended}
use Rattle.stores.specs.declared.view.View.{View}
use Rattle.stores.specs.declared.message.Message.{Message}
use Rattle.stores.specs.StoreLaws.{In}
use Rattle.rules.specs.Models.{Thread, Run, thread_at}
use Rattle.rules.specs.Threads.{next_of, write_views, written, update_views, updated_message, promised_message}
use Rattle.rules.specs.Alone.{Lone, onward, Alone, silent, acquire_fence, release_fence, both_fence, sequential_fence, print, read, write, update, keep}
use Rattle.rules.specs.Steps.{printed, Acting, in_turn, in_showing, Step, begins, acts, promises, shows, ends_turn, ends_showing}
use Rattle.rules.specs.Histories.{Move, Given, nothing_given, goes, stays}
use Rattle.rules.specs.Laws.{IsIn}
use Rattle.rules.proofs.Members.{in_take, in_push}
use Rattle.rules.proofs.Preserved.{write_within, update_within}
use Rattle.rules.proofs.Sound.{Sound, SoundAt}
use Rattle.rules.proofs.Led.{step_sound}
use Rattle.rules.proofs.Past.{is_in_split}

-- each message is at one of l locations
abbrev Places : ℕ → List Message → Type 0
Places l ms = (m : Message) → In m ms → m.location < l

-- each print is of one of n threads
abbrev Printers : ℕ → List (ℕ × ℕ) → Type 0
Printers n ps = (p : ℕ × ℕ) → IsIn p ps → p.0 < n

abbrev pub Inside : Run → Type 0
Inside r = Places r.locations r.memory × Printers (length r.threads) r.log

step_places : {l : ℕ} {closing : Option View} {k : Lone} {S : View} {M : List Message} {line : Line} {k' : Lone} {S' : View} {M' : List Message}
    → Alone l closing k S M line k' S' M' → Places l M → Places l M'
step_places (silent e) h = h
step_places (acquire_fence e) h = h
step_places (release_fence e n) h = h
step_places (both_fence e n) h = h
step_places (sequential_fence e n) h = h
step_places (print v e n) h = h
step_places (read o m e i le τ) h = h
step_places {l = l} {k = k} {M = M} (write x v o s e n less span free up) h =
    in_push (λ n. n.location < l) M (written x v s (write_views o x s.to k.views)) h (write_within l (k.does []).next x v o e)
step_places {l = l} {k = k} {M = M} (update o w m v t e n i le τ span free up) h =
    in_push (λ n. n.location < l) M (updated_message m.location v (onward m t) m.view (update_views o w m.location (onward m t) m.view k.views)) h
    (update_within l (k.does []).next m.location o w e)
step_places (keep m before later e o less) h = h

-- what thread i prints is of thread i
printed_own : (i : ℕ) (a : Action) (p : ℕ × ℕ) → IsIn p (printed i a) → p.0 ≡ i
printed_own i Silent p h = absurd h
printed_own i (Read x o) p h = absurd h
printed_own i (Write x v o) p h = absurd h
printed_own i (Update x o w) p h = absurd h
printed_own i (Fence o) p h = absurd h
printed_own i (Print v) p (inl e) = ap (λ (q : ℕ × ℕ). q.0) e
printed_own i (Print v) p (inr h) = absurd h
printed_own i Ended p h = absurd h

is_in_take : (n : ℕ) (p : ℕ × ℕ) (ps : List (ℕ × ℕ)) → IsIn p (take n ps) → IsIn p ps
is_in_take zero p ps h = absurd h
is_in_take (suc n) p [] h = absurd h
is_in_take (suc n) p (q ∷ ps) (inl e) = inl e
is_in_take (suc n) p (q ∷ ps) (inr h) = inr (is_in_take n p ps h)

module _ (r : Run) (s : Sound r) (h : Inside r) where
  -- the thread that may act is one of the run
  acting_inside : {i : ℕ} {closing : Option View} → Acting r i closing → i < length r.threads
  acting_inside (in_turn i e) = (subst (SoundAt r) e s).0
  acting_inside (in_showing i b cl e n) = (subst (SoundAt r) e s).mine

  -- a thread that is set leaves as many
  as_many : (i : ℕ) (k : Thread) (ps : List (ℕ × ℕ)) → Printers (length r.threads) ps → Printers (length (set r.threads i k)) ps
  as_many i k ps g p q = let e = length-set r.threads i k in let b = g p q in omega arith

  -- the log after an action of thread i
  said : (i : ℕ) (a : Action) → i < length r.threads → Printers (length r.threads) (r.log ++ printed i a)
  said i a lt p q =
      elim (is_in_split p r.log (printed i a) q) [
        | inl b ↦ h.1 p b
        | inr b ↦ let e = printed_own i a p b in omega arith
      ]

  step_inside : {line : Line} {r' : Run} → Step r line r' → Inside r'
  step_inside (begins i lt e) = h
  step_inside (acts i closing k S M act a marks room prints) =
      let next = next_of r.locations (thread_at r i).does in
      (step_places a h.0, as_many i k (r.log ++ printed i next) (said i next (acting_inside act)))
  step_inside (promises i x v s e lt less span free room) = (
    in_push (λ n. n.location < r.locations) r.memory (promised_message (thread_at r i).views x v s) h.0 lt,
    as_many i _ r.log h.1,
  )
  step_inside (shows i e n) = h
  step_inside (ends_turn i e n) = h
  step_inside (ends_showing i b cl e n) = (
    λ m j. h.0 m (in_take b.messages m r.memory j),
    as_many i b.thread (take b.prints r.log) (λ p j. h.1 p (is_in_take b.prints p r.log j)),
  )

pub given_inside : {first : Run} {lines : List Line} {ms : List Move} {r : Run} → Given first lines ms r → Sound first → Inside first → Inside r
given_inside nothing_given s h = h
given_inside (goes {r = r} st g) s h = given_inside g (step_sound st s) (step_inside r s h st)
given_inside (stays never g) s h = given_inside g s h
