-- A thread's own step, as a step of the run.
use Rattle.std.proofs.Common.{◌≡◌, ℕ, ◌<◌, Bool, true, false, cond, List, map, length, get_or, take, set, Ok, Result, sym, refl, ap, ◌∙◌, subst}
use Rattle.std.proofs.Math.Seq.{take-set-lt}
use Rattle.std.proofs.lemmas.Bool.{cond-true, cond-false}
use Rattle.std.proofs.lemmas.List.{get_or-map, get_or-take, map-set, set-get_or}
use Rattle.stores.specs.declared.view.View.{View}
use Rattle.languages.specs.declared.language.Language.{Ghosts as Language}
use Rattle.stores.specs.declared.store.Store.{Ghosts as Store}
use Rattle.rules.specs.declared.fault.StepFault.{StepFault}
use Rattle.rules.specs.Models as model
use Rattle.rules.specs.declared.fault.StepFault.TheVariants.{StillOwing}
use Rattle.rules.specs.Models.{between, turn, showing, nobody, part_at, with_part, part_back, in_phase}
use Rattle.rules.specs.Threads.{none_owed}
use Rattle.rules.specs.Histories.{undone}
use Rattle.rules.specs.Rules.{Tried, went, refused, Agrees, lifted, show_in, put_back, closing_line}
use Rattle.run.specs.declared.state.Thread.{Thread}
use Rattle.run.specs.declared.state.Shared.{Shared}
use Rattle.run.specs.declared.state.Saved.{Saved}
use Rattle.run.specs.declared.state.Phase.{Phase}
use Rattle.run.specs.declared.state.Phase.TheVariants.{Turn, Showing}
use Rattle.run.specs.Models.{log_of, thread_of, saved_of, phase_of, part_of}
use Rattle.run.specs.Turns.{whose}

pub agrees_by : {Y : Type 0} {t u : Tried Y} (y : Y) (r : Result (Unit {0}) StepFault) (z : Y) → t ≡ u → Agrees u y r z → Agrees t y r z
agrees_by {Y = Y} y r z e h = subst (λ (t : Tried Y). Agrees t y r z) (sym e) h

-- what a part's step is to the whole
lifts : (m : model.Run) (i : ℕ) (p' : model.Part) (t : Tried model.Part) (r : Result (Unit {0}) StepFault)
    → Agrees t (part_at m i) r p' → Agrees (lifted m i t) m r (with_part m i p')
lifts m i p' (went q) r h = (h.0, ap (with_part m i) h.1)
lifts m i p' (refused e) r h = (
  h.0,
  ap (with_part m i) h.1 ∙ ap
      (λ (ks : List model.Thread).
      record { locations = m.locations; threads = ks; memory = m.memory; capacity = m.capacity; sc = m.sc; log = m.log; phase = m.phase })
      (set-get_or m.threads i nobody),
)

module _ {L S : Type 0} (l : Language L) (s : Store S) (locations count : ℕ) where
  -- the run by its parts
  abbrev pub whole : List (Thread L) → Shared S → model.Phase → model.Run
  whole ths sh ph =
      record {
        locations = locations;
        threads = take count (map (thread_of l) ths);
        memory = s.held sh.store;
        capacity = s.capacity sh.store;
        sc = sh.sc;
        log = log_of sh.log;
        phase = ph;
      }

  pub thread_read : (ths : List (Thread L)) (i : ℕ) (d : Thread L) → i < count → i < length ths
      → thread_of l (get_or ths i d) ≡ get_or (take count (map (thread_of l) ths)) i nobody
  thread_read ths i d few lt = sym (get_or-take count (map (thread_of l) ths) i nobody few ∙ get_or-map (thread_of l) ths i d nobody lt)

  pub threads_set : (ths : List (Thread L)) (i : ℕ) (th : Thread L) → i < count → take count (map (thread_of l) (set ths i th)) ≡ set (take count (map (thread_of l) ths)) i (thread_of l th)
  threads_set ths i th few = ap (take count) (map-set (thread_of l) ths i th) ∙ take-set-lt count (map (thread_of l) ths) i (thread_of l th) few

  pub lift_run : (ths : List (Thread L)) (sh sh' : Shared S) (ph : model.Phase) (i w : ℕ) (d th' : Thread L) (rule : ℕ → model.Part → Tried model.Part)
      (r : Result (Unit {0}) StepFault) → i ≡ w → i < count → i < length ths
      → Agrees (rule i (part_of l s (get_or ths i d) sh)) (part_of l s (get_or ths i d) sh) r (part_of l s th' sh')
      → Agrees (lifted (whole ths sh ph) w (rule w (part_at (whole ths sh ph) w))) (whole ths sh ph) r (whole (set ths i th') sh' ph)
  lift_run ths sh sh' ph i w d th' rule r e few lt h =
      let m : model.Run = whole ths sh ph in
      let same : part_of l s (get_or ths i d) sh ≡ part_at m i =
      ap
      (λ (k : model.Thread).
      record { thread = k; memory = s.held sh.store; capacity = s.capacity sh.store; sc = sh.sc; log = log_of sh.log })
      (thread_read ths i d few lt) in
      let h' : Agrees (rule i (part_at m i)) (part_at m i) r (part_of l s th' sh') =
      subst (λ (p : model.Part). Agrees (rule i p) p r (part_of l s th' sh')) same h in
      let done = lifts m i (part_of l s th' sh') (rule i (part_at m i)) r h' in
      let end : List model.Thread → model.Run =
      λ ks.
      record {
        locations = locations;
        threads = ks;
        memory = s.held sh'.store;
        capacity = s.capacity sh'.store;
        sc = sh'.sc;
        log = log_of sh'.log;
        phase = ph;
      } in
      subst (λ (n : ℕ). Agrees (lifted m n (rule n (part_at m n))) m r (whole (set ths i th') sh' ph)) e
      (subst (λ (ks : List model.Thread). Agrees (lifted m i (rule i (part_at m i))) m r (end ks)) (sym (threads_set ths i th' few)) done)

  abbrev owed_by : List (Thread L) → ℕ → Bool
  owed_by ths i = none_owed (get_or (take count (map (thread_of l) ths)) i nobody).owed

  -- whether thread i owes nothing
  pub owes : (ths : List (Thread L)) (i w : ℕ) (d : Thread L) (b : Bool) → i ≡ w → i < count → i < length ths → b ≡ none_owed (get_or ths i d).owed.marks
      → b ≡ owed_by ths w
  owes ths i w d b e few lt h = h ∙ ap (λ (k : model.Thread). none_owed k.owed) (thread_read ths i d few lt) ∙ ap (owed_by ths) e

  -- a showing that begins
  pub shown : (ths : List (Thread L)) (sh : Shared S) (ph : model.Phase) (i w : ℕ) (d copy : Thread L) (n p : ℕ) (closing : View) → i ≡ w → i < count
      → i < length ths → owed_by ths w ≡ false → thread_of l copy ≡ thread_of l (get_or ths i d) → n ≡ length (s.held sh.store)
      → p ≡ length (log_of sh.log) → closing ≡ closing_line (s.held sh.store)
      → Agrees (show_in (whole ths sh ph) (turn w)) (whole ths sh ph) (Ok tt)
      (whole ths sh (showing i (record { thread = thread_of l copy; sc = sh.sc; messages = n; prints = p }) closing))
  shown ths sh ph i w d copy n p closing e few lt b ek en ep ec =
      let thread = ek ∙ thread_read ths i d few lt ∙ ap (λ (k : ℕ). get_or (take count (map (thread_of l) ths)) k nobody) e in
      agrees_by _ _ _ (cond-false _ _ _ b)
      (refl, λ j. whole ths sh (showing (e j) (record { thread = thread j; sc = sh.sc; messages = en j; prints = ep j }) (ec j)))

  -- the phase, by the thread whose turn or showing it is
  pub turn_is : (ph : Phase L) (i : ℕ) → ph ≡ Turn i → phase_of l ph ≡ turn (whose ph)
  turn_is ph i e = ap (phase_of l) e ∙ ap turn (sym (ap whose e))

  pub showing_is : (ph : Phase L) (i : ℕ) (sv : Saved L) → ph ≡ Showing i sv → phase_of l ph ≡ showing (whose ph) (saved_of l sv) sv.closing.ends
  showing_is ph i sv e = ap (phase_of l) e ∙ ap (λ (k : ℕ). showing k (saved_of l sv) sv.closing.ends) (sym (ap whose e))

  -- a showing put back
  pub undone_showing : (ths : List (Thread L)) (sh sh' : Shared S) (ph : Phase L) (i w : ℕ) (sv : Saved L) (th th' : Thread L) → ph ≡ Showing i sv → w ≡ whose ph → w < count
      → part_of l s th' sh' ≡ part_back (saved_of l sv) (part_of l s th sh)
      → whole (set ths w th') sh' (phase_of l ph) ≡ in_phase (undone (whole ths sh (phase_of l ph))) (phase_of l ph)
  undone_showing ths sh sh' ph i w sv th th' e ew few h =
      let m : model.Run = whole ths sh (phase_of l ph) in
      let as_is : model.Run → model.Run = λ r. in_phase r (phase_of l ph) in
      let end : List model.Thread → model.Run =
      λ ks.
      record {
        locations = locations;
        threads = ks;
        memory = s.held sh'.store;
        capacity = s.capacity sh'.store;
        sc = sh'.sc;
        log = log_of sh'.log;
        phase = phase_of l ph;
      } in
      let who : w ≡ i = ew ∙ ap whose e in
      ap end (threads_set ths w th' few) ∙ ap (λ (p : model.Part). as_is (with_part m w p)) h ∙ ap (λ (n : ℕ). as_is (put_back m n (saved_of l sv))) who
      ∙ sym (ap (λ (p : Phase L). as_is (undone (whole ths sh (phase_of l p)))) e)

  -- the end of a turn or of a showing, from the run that is put back
  pub ended : (ths : List (Thread L)) (sh : Shared S) (ph : model.Phase) (w : ℕ) (m' : model.Run) → owed_by ths w ≡ true
      → m' ≡ in_phase (undone (whole ths sh ph)) ph
      → Agrees (cond (owed_by ths w) (went (in_phase (undone (whole ths sh ph)) between)) (refused StillOwing)) (whole ths sh ph) (Ok tt) (in_phase m' between)
  ended ths sh ph w m' b h = agrees_by _ _ _ (cond-true _ _ _ b) (refl, ap (λ (r : model.Run). in_phase r between) h)
