-- Lines in range, and the moments of lines.
use Rattle.std.proofs.Common.{◌≡◌, ℕ, ◌<◌, ◌≤◌, Bool, true, false, cond, List, map, length, take, Option, Some, Ok, Err, Result, sym, refl, ap, ◌∙◌, subst}
use Rattle.std.proofs.lemmas.List.{length-map, length-take-le}
use Rattle.std.proofs.lemmas.Bool.{ltb-true}
use Rattle.lines.specs.declared.trace.Line.{Line}
use Rattle.lines.specs.declared.trace.Line.TheVariants.{Turn as T, Next as N, Read as R, Write as W, Update as U, Promise as G, Keep as H, Show as X, EndTurn as E}
use Rattle.stores.specs.declared.view.View.{View}
use Rattle.rules.specs.declared.fault.StepFault.{StepFault}
use Rattle.rules.specs.declared.fault.StepFault.TheVariants.{Range, Moment, StillOwing}
use Rattle.rules.specs.Models as model
use Rattle.rules.specs.Models.{Run, Saved, between, turn, showing, thread_at, part_at, in_phase}
use Rattle.rules.specs.Threads.{none_owed}
use Rattle.rules.specs.Rules.{Tried, went, refused, Agrees, line_result, act_in, act_result, lifted, end_in}
use Rattle.rules.specs.Histories.{undone, undone_in}
use Rattle.languages.specs.declared.language.Language.{Ghosts as Language}
use Rattle.run.specs.declared.state.Phase.{Phase}
use Rattle.run.specs.declared.state.Phase.TheVariants.{Between, Turn, Showing}
use Rattle.run.specs.Models.{phase_of}
use Rattle.run.specs.Turns.{whose}
use Rattle.run.specs.Moments.{may_act_in, in_range, moment_in, moment_result}
use Rattle.run.proofs.Lifts.{agrees_by}

pub line_by_range : (line : Line) (r : Run) → line_result line r ≡ cond (in_range line r) (moment_result line r) (refused Range)
line_by_range (T i) r = refl
line_by_range N r = refl
line_by_range (R t) r = refl
line_by_range (W s) r = refl
line_by_range (U s) r = refl
line_by_range (G x v s) r = refl
line_by_range (H t) r = refl
line_by_range X r = refl
line_by_range E r = refl

pub count_is : {A B : Type 0} (f : A → B) (n : ℕ) (xs : List A) → n ≤ length xs → length (take n (map f xs)) ≡ n
count_is f n xs h = length-take-le n (map f xs) (subst (λ (m : ℕ). n ≤ m) (sym (length-map xs f)) h)

-- a turn in range is of a thread of the run
pub turn_in_range : (line : Line) (r : Run) (i : ℕ) → line ≡ T i → in_range line r ≡ true → i < length r.threads
turn_in_range line r i e h = ltb-true i (length r.threads) (sym (ap (λ (l : Line). in_range l r) e) ∙ h)

-- a known line in a known phase
pub moment_at : (line known : Line) (r : Run) (ph : model.Phase) (a : Result (Unit {0}) StepFault) (r' : Run) → line ≡ known → r.phase ≡ ph
    → Agrees (moment_in known r ph) r a r' → Agrees (moment_result line r) r a r'
moment_at line known r ph a r' e p h = agrees_by r a r' (λ i. moment_in (e i) r (p i)) h

-- a known line that a known phase refuses
pub refused_at : (line known : Line) (r : Run) (ph : model.Phase) → line ≡ known → r.phase ≡ ph → moment_in known r ph ≡ refused Moment
    → Agrees (moment_result line r) r (Err Moment) r
refused_at line known r ph e p m = moment_at line known r ph (Err Moment) r e p (agrees_by r (Err Moment) r m (refl, refl))

-- a line by which a thread acts
pub act_moment : (line known : Line) (r : Run) (a : Result (Unit {0}) StepFault) (r' : Run) → line ≡ known
    → moment_result known r ≡ act_in r known r.phase → Agrees (act_in r line r.phase) r a r' → Agrees (moment_result line r) r a r'
act_moment line known r a r' e same h =
    agrees_by r a r' (ap (λ (l : Line). moment_result l r) e ∙ same ∙ ap (λ (l : Line). act_in r l r.phase) (sym e)) h

-- what the end of a turn or of a showing does, by the phase that it is in
abbrev pub ending : Run → ℕ → Tried Run
ending r i = cond (none_owed (thread_at r i).owed) (went (in_phase (undone r) between)) (refused StillOwing)

pub end_turn : (r : Run) (i : ℕ) (a : Result (Unit {0}) StepFault) (r' : Run) → r.phase ≡ turn i → Agrees (ending r i) r a r' → Agrees (end_in r (turn i)) r a r'
end_turn r i a r' p h =
    agrees_by r a r' (ap (λ (u : Run). cond (none_owed (thread_at r i).owed) (went (in_phase u between)) (refused StillOwing)) (sym (ap (undone_in r) p))) h

pub end_showing : (r : Run) (i : ℕ) (s : Saved) (closing : View) (a : Result (Unit {0}) StepFault) (r' : Run) → r.phase ≡ showing i s closing
    → Agrees (ending r i) r a r' → Agrees (end_in r (showing i s closing)) r a r'
end_showing r i s closing a r' p h =
    agrees_by r a r' (ap (λ (u : Run). cond (none_owed (thread_at r i).owed) (went (in_phase u between)) (refused StillOwing)) (sym (ap (undone_in r) p))) h

-- a line of thread i, with the closing line that it has or the reason why it may not act
abbrev pub acting : Run → Line → ℕ → Result (Option View) StepFault → Tried Run
acting r line i (Ok closing) = lifted r i (act_result r.locations i closing line (part_at r i))
acting r line i (Err e) = refused e

acting_if : (r : Run) (line : Line) (i : ℕ) (closing : View) (b : Bool)
    → cond b (refused Moment) (lifted r i (act_result r.locations i (Some closing) line (part_at r i))) ≡ acting r line i (cond b (Err Moment) (Ok (Some closing)))
acting_if r line i closing true = refl
acting_if r line i closing false = refl

module _ {L : Type 0} (l : Language L) where
  acts_in : (r : Run) (line : Line) (ph : Phase L) → act_in r line (phase_of l ph) ≡ acting r line (whose ph) (may_act_in r (phase_of l ph))
  acts_in r line Between = refl
  acts_in r line (Turn i) = refl
  acts_in r line (Showing i s) = acting_if r line i s.closing.ends (none_owed (thread_at r i).owed)

  -- a thread's line, by whether it may act
  pub acts_by : (r : Run) (line : Line) (ph : Phase L) (t : Result (Option View) StepFault) (a : Result (Unit {0}) StepFault) (r' : Run)
      → t ≡ may_act_in r (phase_of l ph) → Agrees (acting r line (whose ph) t) r a r' → Agrees (act_in r line (phase_of l ph)) r a r'
  acts_by r line ph t a r' e h = agrees_by r a r' (acts_in r line ph ∙ ap (acting r line (whose ph)) (sym e)) h
