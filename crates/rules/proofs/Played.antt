-- Lines that the definition accepts one after another are steps, and where it refuses one that is its first reason.
-- Assumes nothing.
use Rattle.std.proofs.Common.{◌≡◌, ℕ, List, [], ◌∷◌, ◌++◌, map, length, take, drop, sym, refl, subst, arith}
use Rattle.std.proofs.lemmas.List.{take-append-drop}
use Rattle.lines.specs.declared.layer.Layer.{Layer}
use Rattle.lines.specs.declared.trace.Line.{Line}
use Rattle.languages.specs.declared.registers.RegisterLine.{RegisterLine}
use Rattle.languages.specs.Registers.{register_start}
use Rattle.rules.specs.Faults.{number, layer}
use Rattle.rules.specs.Models.{Run}
use Rattle.rules.specs.Rules.{Tried, went, refused, line_result, made}
use Rattle.rules.specs.Steps.{Step, Leads, nowhere_yet, by_step}
use Rattle.rules.specs.Reasons.{FirstReason}
use Rattle.rules.specs.Examples.{Shown, shown, Accepts, RefusesAfter}
use Rattle.rules.proofs.Accepts.{When}
use Rattle.rules.proofs.Sound.{Sound}
use Rattle.rules.proofs.Agrees.{sound_good, agreement}
use Rattle.rules.proofs.Led.{step_sound}
use Rattle.rules.proofs.Refused.{refusals}
use Rattle.rules.proofs.Lawfulness.{made_sound}

-- lines that all go
abbrev pub then_goes : Tried Run → (Run → Tried Run) → Tried Run
then_goes (went r) on = on r
then_goes (refused e) on = refused e

abbrev pub goes : Run → List Line → Tried Run
goes r [] = went r
goes r (line ∷ lines) = then_goes (line_result line r) (λ r'. goes r' lines)

-- they are steps, and keep the invariant
record Led (r : Run) (lines : List Line) (r' : Run) : Type 0 where
  pub steps : Leads r lines r'
  pub sound : Sound r'

led_on : (r : Run) (line : Line) (lines : List Line) → Sound r → ((r' : Run) → Sound r' → When (Led r' lines) (goes r' lines))
    → (t : Tried Run) → line_result line r ≡ t → When (Led r (line ∷ lines)) (then_goes t (λ r'. goes r' lines))
led_on r line lines s on (refused e) q = tt
led_on r line lines s on (went r₁) q = further (goes r₁ lines) (on r₁ (step_sound step s))
  where
    step : Step r line r₁
    step = (agreement r (sound_good r s) line r₁).0 q

    further : (t : Tried Run) → When (Led r₁ lines) t → When (Led r (line ∷ lines)) t
    further (went r') h = record { steps = by_step step h.steps; sound = h.sound }
    further (refused e) h = tt

led : (r : Run) (lines : List Line) → Sound r → When (Led r lines) (goes r lines)
led r [] s = record { steps = nowhere_yet; sound = s }
led r (line ∷ lines) s = led_on r line lines s (λ r' h. led r' lines h) (line_result line r) refl

-- what is left to compute: how a run ends
pub data Outcome : Type 0 where
  accepted : Shown → Outcome
  -- what it shows when a line is refused, with the number and the layer of the refusal
  stopped : Shown → ℕ → Layer → Outcome
  -- no such run
  none : Outcome

abbrev pub ending : Tried Run → Outcome
ending (went r) = accepted (shown r)
ending (refused e) = none

abbrev pub refusal : Shown → Tried Run → Outcome
refusal end (went r) = none
refusal end (refused e) = stopped end (number e) (layer e)

abbrev pub next_refused : List Line → Tried Run → Outcome
next_refused [] t = none
next_refused (line ∷ later) (went r) = refusal (shown r) (line_result line r)
next_refused (line ∷ later) (refused e) = none

module _ (programs : List (List RegisterLine)) where
  abbrev pub started : Tried Run
  started = made (map register_start programs) (length programs) 2 64

  begun : (first : Run) → started ≡ went first → Sound first
  begun first e = made_sound (map register_start programs) (length programs) 2 64 (omega arith) first e

  pub accepts : (lines : List Line) (count : ℕ) (end : Shown) → length lines ≡ count
      → ending (then_goes started (λ r. goes r lines)) ≡ accepted end → Accepts programs lines count end
  accepts lines count end many h = go started refl h
    where
      go : (t : Tried Run) → started ≡ t → ending (then_goes t (λ r. goes r lines)) ≡ accepted end → Accepts programs lines count end
      go (refused e) b h = cc
      go (went first) b h = on (goes first lines) (led first lines (begun first b)) h
        where
          on : (t : Tried Run) → When (Led first lines) t → ending t ≡ accepted end → Accepts programs lines count end
          on (refused e) l h = cc
          on (went last) l h = record { first = first; last = last; start = b; led = l.steps; many = many; shows = cc }

  refuses_after : (trace : List Line) (count : ℕ) (end : Shown) (n : ℕ) (l : Layer)
      → (before lines : List Line) → trace ≡ before ++ lines → length before ≡ count
      → next_refused lines (then_goes started (λ r. goes r before)) ≡ stopped end n l → RefusesAfter programs trace count end n l
  refuses_after trace count end n l before [] parts many h = cc
  refuses_after trace count end n l before (line ∷ later) parts many h = go started refl h
    where
      last_one : (first last : Run) → started ≡ went first → Led first before last → (t : Tried Run) → line_result line last ≡ t
          → refusal (shown last) t ≡ stopped end n l → RefusesAfter programs trace count end n l
      last_one first last b w (went r) e h = cc
      last_one first last b w (refused fault) e h =
          let g = sound_good last w.sound in
          record {
            before = before;
            line = line;
            later = later;
            parts = parts;
            run = record { first = first; last = last; start = b; led = w.steps; many = many; shows = cc };
            fault = fault;
            reason = (refusals last g.sane.apart g.marks line fault).0 e;
            number_is = cc;
            layer_is = cc;
          }

      on : (first : Run) → started ≡ went first → (t : Tried Run) → When (Led first before) t → next_refused (line ∷ later) t ≡ stopped end n l
          → RefusesAfter programs trace count end n l
      on first b (refused e) w h = cc
      on first b (went last) w h = last_one first last b w (line_result line last) refl h

      go : (t : Tried Run) → started ≡ t → next_refused (line ∷ later) (then_goes t (λ r. goes r before)) ≡ stopped end n l → RefusesAfter programs trace count end n l
      go (refused e) b h = cc
      go (went first) b h = on first b (goes first before) (led first before (begun first b)) h

  pub refuses : (trace : List Line) (count : ℕ) (end : Shown) (n : ℕ) (l : Layer) → length (take count trace) ≡ count
      → next_refused (drop count trace) (then_goes started (λ r. goes r (take count trace))) ≡ stopped end n l → RefusesAfter programs trace count end n l
  refuses trace count end n l = refuses_after trace count end n l (take count trace) (drop count trace) (sym (take-append-drop count trace))
