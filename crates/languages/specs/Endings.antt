-- When a thread has ended.
use Rattle.std.specs.Prelude.{◌≡◌, ℕ, ◌≤◌, List, ◌++◌, length}
use Rattle.languages.specs.Behaviours.{Behaviour}
use Rattle.languages.specs.declared.action.Action.TheVariants.{Ended}

-- a thread that has ended stays so, whatever values it is given
abbrev pub StaysEnded : Behaviour → Type 0
StaysEnded b = (vs more : List ℕ) → (b vs).next ≡ Ended → (b (vs ++ more)).next ≡ Ended

-- given n values or more, the thread has ended
abbrev pub EndsWithin : ℕ → Behaviour → Type 0
EndsWithin n b = (vs : List ℕ) → n ≤ length vs → (b vs).next ≡ Ended
