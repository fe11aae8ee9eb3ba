-- What a thread does, whatever its language.
use Rattle.std.specs.Prelude.{ℕ, List, ◌∷◌}
use Rattle.languages.specs.declared.action.Action.{Action}
use Rattle.languages.specs.declared.action.Taking.{Taking}

-- one moment of a thread: its next action, and what it says of each value that it could read
pub record Moment : Type 0 where
  pub next : Action
  pub takes : ℕ → Taking

-- the moment that a thread comes to after each list of values that it was given
abbrev pub Behaviour : Type 0
Behaviour = List ℕ → Moment

-- the behaviour from the moment on at which the thread was given v
abbrev pub after : Behaviour → ℕ → Behaviour
after b v = λ vs. b (v ∷ vs)
