-- The invariant of a run, which each line keeps. Assumes nothing.
use Rattle.std.proofs.Common.{◌≡◌, ℕ, ◌<◌, ◌≤◌, true, false, ltb, List, [], ◌∷◌, ◌++◌, length, get_or, take, set, Some, None, Option, sym, refl, ap, ◌∙◌, subst, inl, inr, arith, length-append, length-set}
use Rattle.std.proofs.lemmas.Bool.{cases_eq, ltb-true}
use Rattle.std.proofs.lemmas.List.FromFn.{get_or-map-range_with_len}
use Rattle.std.proofs.lemmas.List.{get_or-set_same, get_or-set_other, set-set, set-get_or, take_all, take-append-le, length_push}
use Rattle.lines.specs.declared.span.Span.{Span}
use Rattle.lines.specs.declared.trace.Line.{Line}
use Rattle.lines.specs.declared.trace.Line.TheVariants.{Turn as T, Next as N, Read as R, Write as W, Update as U, Promise as G, Keep as H, Show as X, EndTurn as E}
use Rattle.stores.specs.declared.view.View.{View}
use Rattle.stores.specs.declared.message.Message.{Message}
use Rattle.stores.specs.declared.kept.StoreFault.TheVariants.{Full}
use Rattle.stores.specs.Views.{at, single, join}
use Rattle.stores.specs.Memory.{greatest_end}
use Rattle.stores.specs.StoreLaws.{Free}
use Rattle.stores.proofs.StoreLaws.{greatest_end_bound}
use Rattle.stores.proofs.ViewLaws.{at_join, at_single}
use Rattle.rules.specs.declared.fault.StepFault.{StepFault}
use Rattle.rules.specs.declared.fault.StepFault.TheVariants.{Moment, Store, StillOwing}
use Rattle.rules.specs.Models.{Thread, Part, Saved, Phase, between, turn, showing, Run, nobody, thread_at, part_at, with_part, in_phase}
use Rattle.rules.specs.Threads.{rel_at, none_owed}
use Rattle.rules.specs.Rules.{Tried, went, refused, unless, span_refusal, with_message, adds, promised_message, owing, promise_result, act_result, lifted, act_in, promise_in, begin_in, closing_line, saved, show_in, put_back, end_in, line_result}
use Rattle.rules.specs.Alone.{Lone, lone, Within, OwesNothing, done, CanKeep}
use Rattle.rules.specs.Steps.{lone_at, printed, Marks}
use Rattle.rules.specs.Laws.{Known}
use Rattle.rules.proofs.Members.{in_left, in_last, known_more}
use Rattle.rules.proofs.Marked.{Bare, marked_in, marked_more, bare_more, marks_promise, nothing, something}
use Rattle.rules.proofs.Accepts.{When, Acted, act_step, span_sound, when_passed, when_missed}
use Rattle.rules.proofs.Preserved.{Fit, fit_more, Sane, sane_push, Holds, step_holds, step_grows, known_single, known_join}
use Rattle.rules.proofs.Shifted.{Shown, start, more, shown}

-- the data of a run, whatever its phase
pub record Good (r : Run) : Type 0 where
  pub few : r.locations ≤ 8
  pub small : r.capacity ≤ 64
  pub room : length r.memory ≤ r.capacity
  pub prints : length r.log ≤ 64
  pub marks : (j : ℕ) → Marks (thread_at r j).owed r.memory
  pub fit : (j : ℕ) → Fit r.memory (thread_at r j).views
  pub sc : Known r.memory r.sc
  pub sane : Sane r.memory

pub holds_at : (r : Run) (j : ℕ) → Good r → Holds (lone_at r j) r.sc r.memory
holds_at r j g = record { fit = g.fit j; sc = g.sc; sane = g.sane; owed = λ m i. marked_in (thread_at r j).owed r.memory m i }

good_phase : (r : Run) (ph : Phase) → Good r → Good (in_phase r ph)
good_phase r ph g = record {
  few = g.few;
  small = g.small;
  room = g.room;
  prints = g.prints;
  marks = g.marks;
  fit = g.fit;
  sc = g.sc;
  sane = g.sane;
}

-- one of a list that was set at i
pub at_set : (ks : List Thread) (i j : ℕ) (k : Thread) (F : Thread → Type 0) → i < length ks → (j ≡ i → F k) → ((j ≡ i → ⊥) → F (get_or ks j nobody)) → F (get_or (set ks i k) j nobody)
at_set ks i j k F lt same other =
    elim (cases_eq j i) [
      | inl e ↦ subst F (sym (ap (λ (n : ℕ). get_or (set ks i k) n nobody) e ∙ get_or-set_same ks i k nobody lt)) (same e)
      | inr ne ↦ subst F (sym (get_or-set_other ks i j k nobody ne)) (other ne)
    ]

-- the part of thread i has changed, and the memory has grown
pub record Changed (r : Run) (i : ℕ) (p : Part) : Type 0 where
  pub more : List Message
  pub memory : p.memory ≡ r.memory ++ more
  pub capacity : p.capacity ≡ r.capacity
  pub marks : Marks p.thread.owed p.memory
  pub holds : Holds (lone p.thread p.memory) p.sc p.memory
  pub room : length p.memory ≤ r.capacity
  pub prints : length p.log ≤ 64
  pub said : List (ℕ × ℕ)
  pub log : p.log ≡ r.log ++ said

good_part : (r : Run) (i : ℕ) (p : Part) → i < length r.threads → Good r → Changed r i p → Good (with_part r i p)
good_part r i p lt g c = record {
  few = g.few;
  small = let a = g.small in let b = c.capacity in omega arith;
  room = let a = c.room in let b = c.capacity in omega arith;
  prints = c.prints;
  marks = λ j. at_set r.threads i j p.thread (λ y. Marks y.owed p.memory) lt (λ _. c.marks)
      (λ _. subst (Marks (thread_at r j).owed) (sym c.memory) ((g.marks j).0, bare_more (thread_at r j).owed r.memory c.more (g.marks j).1));
  fit = λ j. at_set r.threads i j p.thread (λ y. Fit p.memory y.views) lt (λ _. c.holds.fit)
      (λ _. subst (λ (ms : List Message). Fit ms (thread_at r j).views) (sym c.memory) (fit_more r.memory c.more (thread_at r j).views (g.fit j)));
  sc = c.holds.sc;
  sane = c.holds.sane;
}

-- in every memory that has ms, and with every S, the thread can come to owe nothing
abbrev pub Safe : ℕ → Lone → List Message → Type 0
Safe l k ms = (big : List Message) → Within ms big → (S : View) → CanKeep l k S big

idle : (l : ℕ) (k : Lone) (ms : List Message) → OwesNothing k → Safe l k ms
idle l k ms e big h S = (k, S, big, done, e)

safe_more : (l : ℕ) (k : Thread) (ms xs : List Message) → Bare k.owed ms → Safe l (lone k ms) ms → Safe l (lone k (ms ++ xs)) (ms ++ xs)
safe_more l k ms xs bare h big w S =
    subst (λ (os : List Message). CanKeep l (record { does = k.does; views = k.views; owed = os }) S big) (sym (marked_more k.owed ms xs bare))
    (h big (λ m i. w m (in_left m ms xs i)) S)

-- each thread that is not busy is safe
abbrev pub Calm : (ℕ → Type 0) → Run → Type 0
Calm Busy r = (j : ℕ) → (Busy j → ⊥) → Safe r.locations (lone_at r j) r.memory

calm_part : (r : Run) (i : ℕ) (p : Part) → i < length r.threads → Good r → Changed r i p → Calm (λ j. j ≡ i) r → Calm (λ j. j ≡ i) (with_part r i p)
calm_part r i p lt g c h j ne =
    at_set r.threads i j p.thread (λ y. Safe r.locations (lone y p.memory) p.memory) lt (λ e. absurd (ne e))
    (λ _. subst (λ (ms : List Message). Safe r.locations (lone (thread_at r j) ms) ms) (sym c.memory)
    (safe_more r.locations (thread_at r j) r.memory c.more (g.marks j).1 (h j ne)))

-- a showing: what is put back is good and calm, and the thread came from what it was by steps above the line
pub record Shows (r : Run) (i : ℕ) (s : Saved) (cl : View) : Type 0 where
  pub mine : i < length r.threads
  pub good : Good r
  pub back : Good (put_back r i s)
  pub calm : Calm (λ j. j ≡ i) (put_back r i s)
  pub messages : s.messages ≤ length r.memory
  pub prints : s.prints ≤ length r.log
  pub line : cl ≡ closing_line (take s.messages r.memory)
  pub steps : Shown r.locations cl (lone s.thread (take s.messages r.memory)) s.sc (take s.messages r.memory) (lone_at r i) r.sc r.memory

abbrev pub SoundAt : Run → Phase → Type 0
SoundAt r between = Good r × Calm (λ j. ⊥) r
SoundAt r (turn i) = (i < length r.threads) × Good r × Calm (λ j. j ≡ i) r
SoundAt r (showing i s cl) = Shows r i s cl

abbrev pub Sound : Run → Type 0
Sound r = SoundAt r r.phase

-- what is put back does not change with the thread's steps
pub same_back : (r : Run) (i : ℕ) (p : Part) (s : Saved) → s.messages ≤ length r.memory → s.prints ≤ length r.log → Changed r i p
    → put_back (with_part r i p) i s ≡ put_back r i s
same_back r i p s few said c =
    let threads : set (set r.threads i p.thread) i s.thread ≡ set r.threads i s.thread = set-set r.threads i p.thread s.thread in
    let memory : take s.messages p.memory ≡ take s.messages r.memory = ap (take s.messages) c.memory ∙ take-append-le s.messages r.memory c.more few in
    let log : take s.prints p.log ≡ take s.prints r.log = ap (take s.prints) c.log ∙ take-append-le s.prints r.log c.said said in
    λ j. record {
      locations = r.locations;
      threads = threads j;
      memory = memory j;
      capacity = c.capacity j;
      sc = s.sc;
      log = log j;
      phase = turn i;
    }

-- a thread acts
pub acted_changed : (r : Run) (i : ℕ) (closing : Option View) (line : Line) (p : Part) → Good r → Acted r.locations i closing line (part_at r i) p → Changed r i p
acted_changed r i closing line p g a =
    let w = step_grows a.step in
    record {
      more = w.0;
      memory = w.1;
      capacity = a.capacity;
      marks = a.marks;
      holds = step_holds r.locations g.few closing (lone_at r i) r.sc r.memory (holds_at r i g) a.step;
      room = a.room;
      prints = a.prints;
      said = printed i (Rattle.rules.specs.Threads.next_of r.locations (thread_at r i).does);
      log = a.log;
    }

set_length : (r : Run) (i : ℕ) (k : Thread) → i < length r.threads → i < length (set r.threads i k)
set_length r i k lt = let e = length-set r.threads i k in omega arith

turn_part : (r : Run) (i : ℕ) (p : Part) → SoundAt r (turn i) → Changed r i p → SoundAt (with_part r i p) (turn i)
turn_part r i p h c = (set_length r i p.thread h.0, good_part r i p h.0 h.1 c, calm_part r i p h.0 h.1 c h.2)

show_part : (r : Run) (i : ℕ) (s : Saved) (cl : View) (line : Line) (p : Part) → Shows r i s cl → none_owed (thread_at r i).owed ≡ false
    → Acted r.locations i (Some cl) line (part_at r i) p → Shows (with_part r i p) i s cl
show_part r i s cl line p h owing a =
    let c = acted_changed r i (Some cl) line p h.good a in
    let same : put_back (with_part r i p) i s ≡ put_back r i s = same_back r i p s h.messages h.prints c in
    let base : take s.messages p.memory ≡ take s.messages r.memory = ap (λ (q : Run). q.memory) same in
    record {
      mine = set_length r i p.thread h.mine;
      good = good_part r i p h.mine h.good c;
      back = subst Good (sym same) h.back;
      calm = subst (Calm (λ j. j ≡ i)) (sym same) h.calm;
      messages = let e = ap length c.memory in let f = length-append r.memory c.more in let g = h.messages in omega arith;
      prints = let e = ap length c.log in let f = length-append r.log c.said in let g = h.prints in omega arith;
      line = h.line ∙ ap closing_line (sym base);
      steps =
          subst (λ (ms : List Message). Shown r.locations cl (lone s.thread ms) s.sc ms (lone (get_or (set r.threads i p.thread) i nobody) p.memory) p.sc p.memory) (sym base)
          (subst (λ (k : Thread). Shown r.locations cl (lone s.thread (take s.messages r.memory)) s.sc (take s.messages r.memory) (lone k p.memory) p.sc p.memory)
          (sym (get_or-set_same r.threads i p.thread nobody h.mine))
          (more h.steps (something (thread_at r i).owed r.memory (h.good.marks i).1 owing) a.step));
    }

when_lifted : (r : Run) (i : ℕ) (F : Part → Type 0) (B : Run → Type 0) (t : Tried Part) → When F t → ((p : Part) → F p → B (with_part r i p)) → When B (lifted r i t)
when_lifted r i F B (went p) h go = go p h
when_lifted r i F B (refused e) h go = tt

pub acting : (r : Run) (i : ℕ) (closing : Option View) (line : Line) → Good r → When (λ p. Acted r.locations i closing line (part_at r i) p) (act_result r.locations i closing line (part_at r i))
acting r i closing line g = act_step r.locations i closing (part_at r i) (g.marks i) g.room g.prints line

pub when_acted : (r : Run) (i : ℕ) (closing : Option View) (line : Line) (B : Run → Type 0) → Good r
    → ((p : Part) → Acted r.locations i closing line (part_at r i) p → B (with_part r i p)) → When B (lifted r i (act_result r.locations i closing line (part_at r i)))
when_acted r i closing line B g = when_lifted r i (Acted r.locations i closing line (part_at r i)) B _ (acting r i closing line g)

act_sound : (r : Run) (line : Line) (ph : Phase) → r.phase ≡ ph → SoundAt r ph → When Sound (act_in r line ph)
act_sound r line between e h = tt
act_sound r line (turn i) e h =
    when_acted r i None line Sound h.1
    (λ p a. subst (SoundAt (with_part r i p)) (sym e) (turn_part r i p h (acted_changed r i None line p h.1 a)))
act_sound r line (showing i s cl) e h =
    when_missed Sound _ _ _
    (λ owing. when_acted r i (Some cl) line Sound h.good
    (λ p a. subst (SoundAt (with_part r i p)) (sym e) (show_part r i s cl line p h owing a)))

begin_sound : (r : Run) (i : ℕ) (ph : Phase) → i < length r.threads → SoundAt r ph → When Sound (begin_in r i ph)
begin_sound r i between lt h = (lt, good_phase r (turn i) h.0, λ j ne. h.1 j (λ x. x))
begin_sound r i (turn j) lt h = tt
begin_sound r i (showing j s cl) lt h = tt

-- a promise
pub record Promised (r : Run) (i x v : ℕ) (s : Span) (p : Part) : Type 0 where
  pub is : p ≡ with_message (part_at r i) (owing (thread_at r i) (length r.memory)) (promised_message (thread_at r i).views x v s)
  pub new : at (thread_at r i).views.cur x < s.to
  pub span : s.from < s.to
  pub free : Free x s r.memory
  pub room : length r.memory < r.capacity

promising : (r : Run) (i x v : ℕ) (s : Span) → When (Promised r i x v s) (promise_result x v s (part_at r i))
promising r i x v s =
    let c = (thread_at r i).views.cur in
    let m = promised_message (thread_at r i).views x v s in
    let k = owing (thread_at r i) (length r.memory) in
    when_passed (Promised r i x v s) _ _ _
    (λ less. spans (ltb-true (at c x) s.to less) (span_refusal None x s r.memory) refl)
  where
    spans : at (thread_at r i).views.cur x < s.to → (o : Option StepFault) → span_refusal None x s r.memory ≡ o
        → When (Promised r i x v s) (unless o (adds (part_at r i) (owing (thread_at r i) (length r.memory)) (promised_message (thread_at r i).views x v s)))
    spans less None e =
        let ok = span_sound None x s r.memory e in
        when_passed (Promised r i x v s) (ltb (length r.memory) r.capacity) (went (with_message (part_at r i) (owing (thread_at r i) (length r.memory)) (promised_message (thread_at r i).views x v s))) (Store Full)
        (λ room. record { is = refl; new = less; span = ok.0; free = ok.1; room = ltb-true (length r.memory) r.capacity room })
    spans less (Some e) _ = tt

pub when_promised : (r : Run) (i x v : ℕ) (s : Span) (B : Run → Type 0) → ((p : Part) → Promised r i x v s p → B (with_part r i p))
    → When B (lifted r i (promise_result x v s (part_at r i)))
when_promised r i x v s B = when_lifted r i (Promised r i x v s) B _ (promising r i x v s)

pub promised_changed : (r : Run) (i x v : ℕ) (s : Span) (p : Part) → x < r.locations → Good r → Promised r i x v s p → Changed r i p
promised_changed r i x v s p here g a =
    let k = thread_at r i in
    let ms = r.memory in
    let m = promised_message k.views x v s in
    let few = g.few in
    let rel = (g.fit i).ordered.rel x x in
    let new = a.new in
    let own : at (join (rel_at k.views x) (single x s.to)) x ≡ s.to =
    let b = at_join (rel_at k.views x) (single x s.to) x in let d = at_single x s.to (omega arith) in omega arith in
    let known : Known (ms ++ (m ∷ [])) (join (rel_at k.views x) (single x s.to)) =
    known_join (ms ++ (m ∷ [])) (rel_at k.views x) (single x s.to) (known_more ms (m ∷ []) (rel_at k.views x) ((g.fit i).known.rel x)) (known_single (ms ++ (m ∷ [])) m (in_last m ms)) in
    let marks : Marks (set k.owed (length ms) true) (ms ++ (m ∷ [])) = marks_promise k.owed ms m (g.marks i) in
    subst (Changed r i) (sym a.is)
    (record {
      more = m ∷ [];
      memory = refl;
      capacity = refl;
      marks = marks;
      holds = record {
        fit = fit_more ms (m ∷ []) k.views (g.fit i);
        sc = known_more ms (m ∷ []) r.sc g.sc;
        sane = sane_push ms m g.sane (omega arith) a.span own a.free known;
        owed = λ n h. marked_in (set k.owed (length ms) true) (ms ++ (m ∷ [])) n h;
      };
      room = let b = length_push ms m in let d = a.room in omega arith;
      prints = g.prints;
      said = [];
      log = sym (mathlib.Core.List.append-nil r.log);
    })

promise_sound : (r : Run) (x v : ℕ) (s : Span) (ph : Phase) → x < r.locations → r.phase ≡ ph → SoundAt r ph → When Sound (promise_in r x v s ph)
promise_sound r x v s between here e h = tt
promise_sound r x v s (turn i) here e h =
    when_promised r i x v s Sound
    (λ p a. subst (SoundAt (with_part r i p)) (sym e) (turn_part r i p h (promised_changed r i x v s p here h.1 a)))
promise_sound r x v s (showing i sv cl) here e h = tt

-- X: what would be put back is the run as it is
pub shown_back : (r : Run) (i : ℕ) (ph : Phase) → put_back (in_phase r ph) i (saved r i) ≡ in_phase r (turn i)
shown_back r i ph =
    let threads : set r.threads i (thread_at r i) ≡ r.threads = set-get_or r.threads i nobody in
    let memory : take (length r.memory) r.memory ≡ r.memory = take_all (length r.memory) r.memory (omega arith) in
    let log : take (length r.log) r.log ≡ r.log = take_all (length r.log) r.log (omega arith) in
    λ j. record { locations = r.locations; threads = threads j; memory = memory j; capacity = r.capacity; sc = r.sc; log = log j; phase = turn i }

show_sound : (r : Run) (ph : Phase) → SoundAt r ph → When Sound (show_in r ph)
show_sound r between h = tt
show_sound r (turn i) h =
    let cl = closing_line r.memory in
    let ph = showing i (saved r i) cl in
    let same = shown_back r i ph in
    let base : take (length r.memory) r.memory ≡ r.memory = ap (λ (q : Run). q.memory) same in
    when_missed Sound (none_owed (thread_at r i).owed) (went (in_phase r ph)) Moment
    (λ _. record {
      mine = h.0;
      good = good_phase r ph h.1;
      back = subst Good (sym same) (good_phase r (turn i) h.1);
      calm = subst (Calm (λ j. j ≡ i)) (sym same) h.2;
      messages = omega arith;
      prints = omega arith;
      line = ap closing_line (sym base);
      steps = subst (λ (ms : List Message). Shown r.locations cl (lone (thread_at r i) ms) r.sc ms (lone_at r i) r.sc r.memory) (sym base) start;
    })
show_sound r (showing i s cl) h = tt

at_closing : (ms : List Message) (x : ℕ) → x < 8 → at (closing_line ms) x ≡ greatest_end x ms
at_closing ms x h = get_or-map-range_with_len (λ y. greatest_end y ms) 0 8 x x 0 h (omega arith)

-- nobody is busy any more
calm_all : (r : Run) (i : ℕ) → Calm (λ j. j ≡ i) r → Safe r.locations (lone_at r i) r.memory → Calm (λ j. ⊥) r
calm_all r i c s j _ = elim (cases_eq j i) [ inl e ↦ subst (λ (n : ℕ). Safe r.locations (lone_at r n) r.memory) (sym e) s | inr ne ↦ c j ne ]

end_sound : (r : Run) (ph : Phase) → SoundAt r ph → When Sound (end_in r ph)
end_sound r between h = tt
end_sound r (turn i) h =
    when_passed Sound (none_owed (thread_at r i).owed) (went (in_phase r between)) StillOwing
    (λ o. (good_phase r between h.1, calm_all r i h.2 (idle r.locations (lone_at r i) r.memory (nothing (thread_at r i).owed r.memory o))))
end_sound r (showing i s cl) h =
    let q : Run = put_back r i s in
    let base = take s.messages r.memory in
    let is : thread_at q i ≡ s.thread = get_or-set_same r.threads i s.thread nobody h.mine in
    let sane : Sane base = h.back.sane in
    when_passed Sound (none_owed (thread_at r i).owed) (went (in_phase q between)) StillOwing
    (λ o. (
      good_phase q between h.back,
      calm_all q i h.calm
          (λ big w. shown r.locations cl base big w sane
          (λ m j. let a = greatest_end_bound m.location base m j refl in
          let b = at_closing base m.location (sane.placed m j) in
          let e : at cl m.location ≡ at (closing_line base) m.location = ap (λ (v : View). at v m.location) h.line in
          omega arith)
          (holds_at q i h.back)
          (subst (λ (k : Thread). Shown r.locations cl (lone k base) s.sc base (lone_at r i) r.sc r.memory) (sym is) h.steps)
          (nothing (thread_at r i).owed r.memory o)),
    ))

pub line_sound : (line : Line) (r : Run) → Sound r → When Sound (line_result line r)
line_sound (T i) r h =
    when_passed Sound _ _ _
    (λ lt. begin_sound r i r.phase (ltb-true i (length r.threads) lt) h)
line_sound N r h = act_sound r N r.phase refl h
line_sound (R t) r h = act_sound r (R t) r.phase refl h
line_sound (W s) r h = act_sound r (W s) r.phase refl h
line_sound (U s) r h = act_sound r (U s) r.phase refl h
line_sound (G x v s) r h =
    when_passed Sound _ _ _
    (λ lt. promise_sound r x v s r.phase (ltb-true x r.locations lt) refl h)
line_sound (H t) r h = act_sound r (H t) r.phase refl h
line_sound X r h = show_sound r r.phase h
line_sound E r h = end_sound r r.phase h
