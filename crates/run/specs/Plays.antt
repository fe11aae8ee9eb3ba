-- A run that is made and given lines, and the law of what comes out.
use Rattle.std.specs.Prelude.{◌≡◌, ℕ, List, length, Ok, Err, Result}
use Rattle.lines.specs.declared.trace.Line.{Line}
use Rattle.languages.specs.declared.language.Language.{Ghosts as Language}
use Rattle.stores.specs.declared.store.Store.{Ghosts as Store}
use Rattle.rules.specs.declared.fault.StepFault.{StepFault}
use Rattle.rules.specs.Models.{Run}
use Rattle.rules.specs.Rules.{Tried, went, refused, played, accepted_count}
use Rattle.rules.specs.Histories.{Event, no_turn, Move, Given, Did}
use Rattle.rules.specs.Laws.{Lawful}
use Rattle.run.specs.declared.play.Played.{Played}
use Rattle.run.specs.Models.{run_of}

-- the run after lines, and how many of them it accepted
pub record Outcome : Type 0 where
  pub run : Run
  pub accepted : ℕ

abbrev pub outcome_of : {L S : Type 0} → Language L → Store S → Result (Played L S) StepFault → Tried Outcome
outcome_of l s (Ok p) = went (record { run = run_of l s p.run; accepted = p.accepted })
outcome_of l s (Err e) = refused e

-- the run after the lines, where one was made
abbrev pub plays : Tried Run → List Line → Tried Outcome
plays (went first) lines = went (record { run = played first lines; accepted = accepted_count first lines })
plays (refused e) lines = refused e

-- which of the lines were accepted, as many as the call answers, and what they did;
-- with them the run is lawful
pub record FollowsLines (l : ℕ) (first : Run) (lines : List Line) (end : Outcome) : Type 0 where
  pub moves : List Move
  pub events : List Event
  pub given : Given first lines moves end.run
  pub did : Did no_turn moves events
  pub many : end.accepted ≡ length moves
  pub lawful : Lawful l end.run moves events

-- where a run on l locations was made, it follows the lines; where none was, the refusal is the same
abbrev pub Obeys : ℕ → Tried Run → List Line → Tried Outcome → Type 0
Obeys l (went first) lines (went end) = FollowsLines l first lines end
Obeys l (went first) lines (refused e) = ⊥
Obeys l (refused e) lines (went end) = ⊥
Obeys l (refused e) lines (refused f) = e ≡ f
