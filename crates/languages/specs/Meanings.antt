-- What each state of a language means, and the behaviour that follows from it.
use Rattle.std.specs.Prelude.{ℕ, ◌<◌, Bool, if◌then◌else◌, List, [], ◌∷◌, Some, None, Option}
use Rattle.std.specs.List.{slice_get}
use Rattle.languages.specs.Behaviours.{Behaviour}
use Rattle.languages.specs.declared.action.Action.{Action}
use Rattle.languages.specs.declared.action.Action.TheVariants.{Silent, Read, Write, Update, Fence, Print, Ended}
use Rattle.languages.specs.declared.action.Taking.{Taking}
use Rattle.languages.specs.declared.action.Taking.TheVariants.{NotTaken}

-- a state's next action, what it says of a value, and the state after going on with one
pub record Meaning (State : Type 0) : Type 0 where
  pub next : Action
  pub takes : ℕ → Taking
  pub goes_on : ℕ → State

-- the behaviour of a state, where each state means what `means` says
abbrev pub behaviour : {State : Type 0} → (State → Meaning State) → State → Behaviour
behaviour means s [] = record { next = (means s).next; takes = (means s).takes }
behaviour means s (v ∷ vs) = behaviour means ((means s).goes_on v) vs

-- an action that reads nothing, and the state after it: no value is taken, and none matters
abbrev pub acting : {State : Type 0} → Action → State → Meaning State
acting a s = record { next = a; takes = λ _. NotTaken; goes_on = λ _. s }

-- an action that reads: what it says of the value, and the state after it
abbrev pub reading : {State : Type 0} → Action → (ℕ → Taking) → (ℕ → State) → Meaning State
reading a says s = record { next = a; takes = says; goes_on = s }

-- a state that has ended: going on changes nothing
abbrev pub ended : {State : Type 0} → State → Meaning State
ended s = acting Ended s

-- a line that is not in range counts as none
abbrev pub if_in_range : {Line : Type 0} → (Line → Bool) → Option Line → Option Line
if_in_range in_range None = None
if_in_range in_range (Some l) = if in_range l then Some l else None

-- line n of a program, counted from 0: there is none past the last line
abbrev pub line_at : {Line : Type 0} → (Line → Bool) → List Line → ℕ → Option Line
line_at in_range program n = if_in_range in_range (slice_get program n)

-- what a state means at a line; with no line it has ended
abbrev pub means_at : {State Line : Type 0} → (State → Line → Meaning State) → State → Option Line → Meaning State
means_at line_means s None = ended s
means_at line_means s (Some l) = line_means s l

-- an action's location, if it has one, is below 8
abbrev pub Located : Action → Type 0
Located Silent = Unit {0}
Located (Read x o) = x < 8
Located (Write x v o) = x < 8
Located (Update x o p) = x < 8
Located (Fence k) = Unit {0}
Located (Print v) = Unit {0}
Located Ended = Unit {0}
