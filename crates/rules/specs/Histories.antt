-- The history of a run: what its accepted lines outside showings did.
use Rattle.std.specs.Prelude.{◌≡◌, ℕ, if◌then◌else◌, ◌&&◌, List, [], ◌∷◌, ◌++◌, Some, None, Option, ◌==◌}
use Rattle.lines.specs.declared.span.Span.{Span}
use Rattle.lines.specs.declared.trace.Line.{Line}
use Rattle.lines.specs.declared.trace.Line.TheVariants.{Turn as T, Next as N, Read as R, Write as W}
use Rattle.lines.specs.declared.trace.Line.TheVariants.{Update as U, Promise as G, Keep as H, Show as X}
use Rattle.lines.specs.declared.trace.Line.TheVariants.{EndTurn as E}
use Rattle.languages.specs.declared.action.Action.TheVariants.{Write}
use Rattle.languages.specs.declared.action.ReadMode.{ReadMode}
use Rattle.languages.specs.declared.action.WriteMode.TheVariants.{Relaxed}
use Rattle.stores.specs.declared.message.Message.{Message}
use Rattle.stores.specs.Memory.{ends_at}
use Rattle.rules.specs.Models.{Phase, between, turn, showing, Run, initials, put_back}
use Rattle.rules.specs.Threads.{reads}
use Rattle.rules.specs.Steps.{next_action, Step}

-- what a line of a thread did
pub data Event : Type 0 where
  -- the thread, the location and the end
  was_read : ℕ → ℕ → ℕ → Event
  -- the thread and the message
  was_written : ℕ → Message → Event
  -- the thread, the end that was read, and the message that was written
  was_updated : ℕ → ℕ → Message → Event
  was_promised : ℕ → Message → Event
  -- the thread, the location and the end
  was_kept : ℕ → ℕ → ℕ → Event

-- where accepted lines lead: between turns, in a turn of a thread, or in a showing of it
pub data Place : Type 0 where
  no_turn : Place
  turn_of : ℕ → Place
  showing_of : ℕ → Place

abbrev pub shows_at : Place → Place
shows_at no_turn = no_turn
shows_at (turn_of i) = showing_of i
shows_at (showing_of i) = showing_of i

-- where an accepted line leads: T into a turn, X into a showing, E out of both
abbrev pub place_after : Place → Line → Place
place_after a (T i) = turn_of i
place_after a X = shows_at a
place_after a E = no_turn
place_after a line = a

-- an accepted line, with the run before it and the run after it
pub record Move : Type 0 where
  pub before : Run
  pub line : Line
  pub after : Run

-- lines given one after another: each is a step of the rules and accepted, or there is no such step and the
-- run stays as it is; with the accepted ones, and the run that they lead to
pub data Given : Run → List Line → List Move → Run → Type 0 where
  nothing_given : {r : Run} → Given r [] [] r
  goes : {r r₁ r₂ : Run} {line : Line} {lines : List Line} {ms : List Move}
      → Step r line r₁ → Given r₁ lines ms r₂
      → Given r (line ∷ lines) (record { before = r; line = line; after = r₁ } ∷ ms) r₂
  stays : {r r₂ : Run} {line : Line} {lines : List Line} {ms : List Move}
      → ((r₁ : Run) → Step r line r₁ → ⊥) → Given r lines ms r₂ → Given r (line ∷ lines) ms r₂

-- where accepted lines lead, from a place on
abbrev pub led_to : Place → List Move → Place
led_to a [] = a
led_to a (m ∷ ms) = led_to (place_after a m.line) ms

-- what a line of the turn of thread i did, between the run r and the run after it
pub data Does (i : ℕ) (r r' : Run) : Line → List Event → Type 0 where
  reading : (x t : ℕ) (o : ReadMode) → reads (next_action r i) ≡ Some (x, o)
      → Does i r r' (R t) (was_read i x t ∷ [])
  writing : (s : Span) (m : Message) → r'.memory ≡ r.memory ++ (m ∷ [])
      → Does i r r' (W s) (was_written i m ∷ [])
  updating : (s : Span) (m : Message) → r'.memory ≡ r.memory ++ (m ∷ [])
      → Does i r r' (U s) (was_updated i s.from m ∷ [])
  promising : (x v : ℕ) (s : Span) (m : Message) → r'.memory ≡ r.memory ++ (m ∷ [])
      → Does i r r' (G x v s) (was_promised i m ∷ [])
  keeping : (x v t : ℕ) → next_action r i ≡ Write x v Relaxed → Does i r r' (H t) (was_kept i x t ∷ [])
  stepping : Does i r r' N []
  beginning : (j : ℕ) → Does i r r' (T j) []
  showing_it : Does i r r' X []
  ending : Does i r r' E []

-- what accepted lines did, from a place on: those in a turn count, and those of a showing do not
pub data Did : Place → List Move → List Event → Type 0 where
  nothing_done : {a : Place} → Did a [] []
  in_no_turn : {m : Move} {ms : List Move} {es : List Event}
      → Did (place_after no_turn m.line) ms es → Did no_turn (m ∷ ms) es
  in_a_turn : {i : ℕ} {m : Move} {ms : List Move} {es fs : List Event}
      → Does i m.before m.after m.line es → Did (place_after (turn_of i) m.line) ms fs
      → Did (turn_of i) (m ∷ ms) (es ++ fs)
  in_a_showing : {i : ℕ} {m : Move} {ms : List Move} {es : List Event}
      → Did (place_after (showing_of i) m.line) ms es → Did (showing_of i) (m ∷ ms) es

-- the run at the X of the showing that is open, none where none is: after one more accepted line of the run r
abbrev pub shown_after : Option Run → Run → Line → Option Run
shown_after x r X = Some r
shown_after x r E = None
shown_after x r line = x

-- and after accepted lines
abbrev pub shown_from : Option Run → List Move → Option Run
shown_from x [] = x
shown_from x (m ∷ ms) = shown_from (shown_after x m.before m.line) ms

-- the messages that a history brought
abbrev pub messages : List Event → List Message
messages [] = []
messages (was_read i x t ∷ es) = messages es
messages (was_written i m ∷ es) = m ∷ messages es
messages (was_updated i f m ∷ es) = m ∷ messages es
messages (was_promised i m ∷ es) = m ∷ messages es
messages (was_kept i x t ∷ es) = messages es

-- the messages that are present: the initial ones and those of the history
abbrev pub present : ℕ → List Event → List Message
present l es = initials l ++ messages es

-- without those at x that end at t
abbrev pub without : ℕ → ℕ → List Message → List Message
without x t [] = []
without x t (m ∷ ms) = if ends_at x t m then without x t ms else m ∷ without x t ms

-- what thread i owes after a history, where it owed ms before it: each promise until it is kept
abbrev pub owes_after : ℕ → List Message → List Event → List Message
owes_after i ms [] = ms
owes_after i ms (was_read j x t ∷ es) = owes_after i ms es
owes_after i ms (was_written j m ∷ es) = owes_after i ms es
owes_after i ms (was_updated j f m ∷ es) = owes_after i ms es
owes_after i ms (was_promised j m ∷ es) = owes_after i (if j == i then ms ++ (m ∷ []) else ms) es
owes_after i ms (was_kept j x t ∷ es) = owes_after i (if j == i then without x t ms else ms) es

-- an access of thread j at y, for the times of thread i at x
abbrev pub if_this : ℕ → ℕ → ℕ → ℕ → List ℕ → List ℕ
if_this i x j y ts = if j == i && y == x then ts else []

-- the times of the accesses of thread i at x: the end read, written or kept, of an update the end read and then the end written
abbrev pub times : ℕ → ℕ → List Event → List ℕ
times i x [] = []
times i x (was_read j y t ∷ es) = if_this i x j y (t ∷ []) ++ times i x es
times i x (was_written j m ∷ es) = if_this i x j m.location (m.span.to ∷ []) ++ times i x es
times i x (was_updated j f m ∷ es) = if_this i x j m.location (f ∷ m.span.to ∷ []) ++ times i x es
times i x (was_promised j m ∷ es) = times i x es
times i x (was_kept j y t ∷ es) = if_this i x j y (t ∷ []) ++ times i x es

-- what updates have read, by location and end
abbrev pub updates : List Event → List (ℕ × ℕ)
updates [] = []
updates (was_read i x t ∷ es) = updates es
updates (was_written i m ∷ es) = updates es
updates (was_updated i f m ∷ es) = (m.location, f) ∷ updates es
updates (was_promised i m ∷ es) = updates es
updates (was_kept i x t ∷ es) = updates es

-- the run with the showing that is open, if one is, put back to the moment of its X
abbrev pub undone_in : Run → Phase → Run
undone_in r between = r
undone_in r (turn i) = r
undone_in r (showing i s closing) = put_back r i s

abbrev pub undone : Run → Run
undone r = undone_in r r.phase

-- where a run is by its phase
abbrev pub place_of : Phase → Place
place_of between = no_turn
place_of (turn i) = turn_of i
place_of (showing i s closing) = showing_of i
