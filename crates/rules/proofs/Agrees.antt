-- The rules as a definition and as a relation agree. Assumes nothing.
use Rattle.std.proofs.Common.{◌≡◌, ℕ, ◌<◌, ◌≤◌, false, List, ◌++◌, length, Some, None, Option, sym, refl, ap, ◌∙◌, subst, inl, inr, arith}
use Rattle.std.proofs.lemmas.List.{length_push}
use Rattle.std.proofs.lemmas.Bool.{lt-ltb, ltb-true, cond-true, cond-false, cases_Bool}
use Rattle.lines.specs.declared.span.Span.{Span}
use Rattle.lines.specs.declared.trace.Line.{Line}
use Rattle.lines.specs.declared.trace.Line.TheVariants.{Turn as T, Next as N, Read as R, Write as W, Update as U, Promise as G, Keep as H, Show as X, EndTurn as E}
use Rattle.stores.specs.declared.view.View.{View}
use Rattle.stores.specs.declared.message.Message.{Message}
use Rattle.stores.specs.Views.{at}
use Rattle.stores.specs.StoreLaws.{Free}
use Rattle.rules.specs.declared.fault.StepFault.{StepFault}
use Rattle.rules.specs.Models.{Thread, Part, Phase, between, turn, showing, Run, thread_at, part_at, with_part}
use Rattle.rules.specs.Threads.{next_of, none_owed, marked}
use Rattle.rules.specs.Rules.{went, unless, with_message, adds, promised_message, owing, promise_result, act_result, lifted, act_in, promise_in, begin_in, show_in, end_in, line_result}
use Rattle.rules.specs.Alone.{Lone, lone, OwesNothing, Alone, silent, acquire_fence, release_fence, both_fence, sequential_fence, print, read, write, update, keep}
use Rattle.rules.specs.Steps.{lone_at, printed, Marks, Acting, in_turn, in_showing, Step, begins, acts, promises, shows, ends_turn, ends_showing}
use Rattle.rules.specs.Laws.{Agreement}
use Rattle.rules.proofs.Marked.{nothing, something, owes_none, marks_same}
use Rattle.rules.proofs.Accepts.{When, Acted, when_passed, when_missed}
use Rattle.rules.proofs.Preserved.{step_holds}
use Rattle.rules.proofs.Complete.{complete, span_complete, adds_complete}
use Rattle.rules.proofs.Sound.{Good, Sound, SoundAt, acting, when_acted, when_promised, holds_at}

pub sound_good : (r : Run) → Sound r → Good r
sound_good r h = go r.phase h
  where
    go : (ph : Phase) → SoundAt r ph → Good r
    go between s = s.0
    go (turn i) s = s.1
    go (showing i s cl) t = t.good

-- what holds of each line by which a thread acts
pub by_acting : (F : Line → Type 0) → F N → ((t : ℕ) → F (R t)) → ((s : Span) → F (W s)) → ((s : Span) → F (U s)) → ((t : ℕ) → F (H t))
    → {l : ℕ} {closing : Option View} {k k' : Lone} {S S' : View} {M M' : List Message} {line : Line} → Alone l closing k S M line k' S' M' → F line
by_acting F n r w u h (silent e) = n
by_acting F n r w u h (acquire_fence e) = n
by_acting F n r w u h (release_fence e o) = n
by_acting F n r w u h (both_fence e o) = n
by_acting F n r w u h (sequential_fence e o) = n
by_acting F n r w u h (print v e o) = n
by_acting F n r w u h (read o m e i le τ) = r _
by_acting F n r w u h (write x v o s e i less span free up) = w _
by_acting F n r w u h (update o p m v t e i j le τ span free up) = u _
by_acting F n r w u h (keep m before later e o less) = h _

module _ (r : Run) (g : Good r) where
  -- an accepted line is a step

  acted_step : (i : ℕ) (closing : Option View) (line : Line) → Acting r i closing → When (Step r line) (lifted r i (act_result r.locations i closing line (part_at r i)))
  acted_step i closing line act =
      when_acted r i closing line (Step r line) g
      (λ p a. done p a)
    where
      done : (p : Part) → Acted r.locations i closing line (part_at r i) p → Step r line (with_part r i p)
      done p a =
          let said = printed i (next_of r.locations (thread_at r i).does) in
          let q : Part = record { thread = p.thread; memory = p.memory; capacity = r.capacity; sc = p.sc; log = r.log ++ said } in
          let same : q ≡ p = λ j. record { thread = p.thread; memory = p.memory; capacity = sym a.capacity j; sc = p.sc; log = sym a.log j } in
          subst (λ (q : Part). Step r line (with_part r i q)) same
          (acts i closing p.thread p.sc p.memory act a.step a.marks a.room (let e = ap length a.log in let n = a.prints in omega arith))

  act_steps : (line : Line) (ph : Phase) → r.phase ≡ ph → When (Step r line) (act_in r line ph)
  act_steps line between e = tt
  act_steps line (turn i) e = acted_step i None line (in_turn i e)
  act_steps line (showing i s cl) e =
      when_missed (Step r line) _ _ _
      (λ owing. acted_step i (Some cl) line (in_showing i s cl e (something (thread_at r i).owed r.memory (g.marks i).1 owing)))

  begin_steps : (i : ℕ) (ph : Phase) → i < length r.threads → r.phase ≡ ph → When (Step r (T i)) (begin_in r i ph)
  begin_steps i between lt e = begins i lt e
  begin_steps i (turn j) lt e = tt
  begin_steps i (showing j s cl) lt e = tt

  promise_steps : (x v : ℕ) (s : Span) (ph : Phase) → x < r.locations → r.phase ≡ ph → When (Step r (G x v s)) (promise_in r x v s ph)
  promise_steps x v s between lt e = tt
  promise_steps x v s (turn i) lt e =
      when_promised r i x v s (Step r (G x v s))
      (λ p a. subst (λ (q : Part). Step r (G x v s) (with_part r i q)) (sym a.is) (promises i x v s e lt a.new a.span a.free a.room))
  promise_steps x v s (showing i sv cl) lt e = tt

  show_steps : (ph : Phase) → r.phase ≡ ph → When (Step r X) (show_in r ph)
  show_steps between e = tt
  show_steps (turn i) e =
      when_missed (Step r X) _ _ _
      (λ owing. shows i e (something (thread_at r i).owed r.memory (g.marks i).1 owing))
  show_steps (showing i s cl) e = tt

  end_steps : (ph : Phase) → r.phase ≡ ph → When (Step r E) (end_in r ph)
  end_steps between e = tt
  end_steps (turn i) e =
      when_passed (Step r E) _ _ _
      (λ o. ends_turn i e (nothing (thread_at r i).owed r.memory o))
  end_steps (showing i s cl) e =
      when_passed (Step r E) _ _ _
      (λ o. ends_showing i s cl e (nothing (thread_at r i).owed r.memory o))

  pub line_steps : (line : Line) → When (Step r line) (line_result line r)
  line_steps (T i) =
      when_passed (Step r (T i)) _ _ _
      (λ lt. begin_steps i r.phase (ltb-true i (length r.threads) lt) refl)
  line_steps N = act_steps N r.phase refl
  line_steps (R t) = act_steps (R t) r.phase refl
  line_steps (W s) = act_steps (W s) r.phase refl
  line_steps (U s) = act_steps (U s) r.phase refl
  line_steps (G x v s) =
      when_passed (Step r (G x v s)) _ _ _
      (λ lt. promise_steps x v s r.phase (ltb-true x r.locations lt) refl)
  line_steps (H t) = act_steps (H t) r.phase refl
  line_steps X = show_steps r.phase refl
  line_steps E = end_steps r.phase refl

  -- a step is accepted

  act_line : {l : ℕ} {closing : Option View} {k k' : Lone} {S S' : View} {M M' : List Message} {line : Line} → Alone l closing k S M line k' S' M'
      → line_result line r ≡ act_in r line r.phase
  act_line = by_acting (λ line. line_result line r ≡ act_in r line r.phase) refl (λ t. refl) (λ s. refl) (λ s. refl) (λ t. refl)

  is_owing : (i : ℕ) → (OwesNothing (lone_at r i) → ⊥) → none_owed (thread_at r i).owed ≡ false
  is_owing i h = elim (cases_Bool (none_owed (thread_at r i).owed)) [ inl e ↦ absurd (h (nothing (thread_at r i).owed r.memory e)) | inr e ↦ e ]

  act_in_is : (i : ℕ) (closing : Option View) (line : Line) → Acting r i closing → act_in r line r.phase ≡ lifted r i (act_result r.locations i closing line (part_at r i))
  act_in_is i closing line (in_turn j e) = ap (act_in r line) e
  act_in_is i closing line (in_showing j s cl e h) =
      ap (act_in r line) e
      ∙ cond-false _ _ _ (is_owing j h)

  -- the part that comes out is the one that the relation names
  same_part : (i : ℕ) (closing : Option View) (line : Line) (k : Thread) (S : View) (M : List Message) (p : Part)
      → Alone r.locations closing (lone_at r i) r.sc r.memory line (lone k M) S M → Marks k.owed M
      → Acted r.locations i closing line (part_at r i) p → lone p.thread p.memory ≡ lone k M → p.sc ≡ S → p.memory ≡ M
      → p ≡ record { thread = k; memory = M; capacity = r.capacity; sc = S; log = r.log ++ printed i (next_of r.locations (thread_at r i).does) }
  same_part i closing line k S M p s marks a same esc ems =
      let h = step_holds r.locations g.few closing (lone_at r i) r.sc r.memory (holds_at r i g) s in
      let now : Marks p.thread.owed M = subst (Marks p.thread.owed) ems a.marks in
      let eq : marked p.thread.owed M ≡ marked k.owed M = ap (marked p.thread.owed) (sym ems) ∙ ap (λ (q : Lone). q.owed) same in
      let owed : p.thread.owed ≡ k.owed = marks_same p.thread.owed k.owed M (now.0 ∙ sym marks.0) now.1 marks.1 h.sane.apart eq in
      λ j. record {
        thread = record { does = (same j).does; views = (same j).views; owed = owed j };
        memory = ems j;
        capacity = a.capacity j;
        sc = esc j;
        log = a.log j;
      }

  acts_accepted : (i : ℕ) (closing : Option View) (line : Line) (k : Thread) (S : View) (M : List Message) → Acting r i closing
      → Alone r.locations closing (lone_at r i) r.sc r.memory line (lone k M) S M → Marks k.owed M → length M ≤ r.capacity
      → length (r.log ++ printed i (next_of r.locations (thread_at r i).does)) ≤ 64
      → line_result line r ≡ went (with_part r i (record { thread = k; memory = M; capacity = r.capacity; sc = S; log = r.log ++ printed i (next_of r.locations (thread_at r i).does) }))
  acts_accepted i closing line k S M act s marks room prints =
      let c = complete r.locations i closing (part_at r i) (g.marks i) g.sane.apart s room prints in
      let a : Acted r.locations i closing line (part_at r i) c.0 = subst (When (λ p. Acted r.locations i closing line (part_at r i) p)) c.1 (acting r i closing line g) in
      act_line s ∙ act_in_is i closing line act ∙ ap (lifted r i) c.1
      ∙ ap (λ (p : Part). went (with_part r i p)) (same_part i closing line k S M c.0 s marks a c.2 c.3 c.4)

  promise_accepted : (i x v : ℕ) (s : Span) → at (thread_at r i).views.cur x < s.to → s.from < s.to → Free x s r.memory → length r.memory < r.capacity
      → promise_result x v s (part_at r i) ≡ went (with_message (part_at r i) (owing (thread_at r i) (length r.memory)) (promised_message (thread_at r i).views x v s))
  promise_accepted i x v s less span free room =
      let k = owing (thread_at r i) (length r.memory) in
      let m = promised_message (thread_at r i).views x v s in
      cond-true _ _ _ (lt-ltb (at (thread_at r i).views.cur x) s.to less)
      ∙ ap (λ (o : Option StepFault). unless o (adds (part_at r i) k m)) (span_complete None x s r.memory span free tt)
      ∙ adds_complete (part_at r i) k m (let e = length_push r.memory m in omega arith)

  step_accepted : (line : Line) (r' : Run) → Step r line r' → line_result line r ≡ went r'
  step_accepted line r' (begins i lt e) =
      cond-true _ _ _ (lt-ltb i (length r.threads) lt) ∙ ap (begin_in r i) e
  step_accepted line r' (acts i closing k S M act s marks room prints) = acts_accepted i closing line k S M act s marks room prints
  step_accepted line r' (promises i x v s e lt less span free room) =
      cond-true _ _ _ (lt-ltb x r.locations lt) ∙ ap (promise_in r x v s) e
      ∙ ap (lifted r i) (promise_accepted i x v s less span free room)
  step_accepted line r' (shows i e h) =
      ap (show_in r) e ∙ cond-false _ _ _ (is_owing i h)
  step_accepted line r' (ends_turn i e n) =
      ap (end_in r) e ∙ cond-true _ _ _ (owes_none (thread_at r i).owed r.memory (g.marks i).1 n)
  step_accepted line r' (ends_showing i s cl e n) =
      ap (end_in r) e
      ∙ cond-true _ _ _ (owes_none (thread_at r i).owed r.memory (g.marks i).1 n)

  pub agreement : Agreement r
  agreement line r' = (λ e. subst (When (Step r line)) e (line_steps line), step_accepted line r')
