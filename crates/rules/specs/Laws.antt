-- The laws over whole runs.
use Rattle.std.specs.Prelude.{◌≡◌, ℕ, ◌<◌, ◌≤◌, ◌⊎◌, List, [], ◌∷◌, ◌++◌, length, Some, None, ◌≢◌}
use Rattle.lines.specs.declared.trace.Line.{Line}
use Rattle.lines.specs.declared.trace.Line.TheVariants.{EndTurn as E}
use Rattle.languages.specs.Behaviours.{Behaviour}
use Rattle.stores.specs.declared.view.View.{View}
use Rattle.stores.specs.declared.message.Message.{Message}
use Rattle.stores.specs.Views.{at, Below}
use Rattle.stores.specs.StoreLaws.{In, Overlaps}
use Rattle.rules.specs.Models.{Views, between, Run, thread_at, in_phase}
use Rattle.rules.specs.Threads.{rel_at}
use Rattle.rules.specs.Rules.{went, line_result, made, initial, played, accepted_count}
use Rattle.rules.specs.Reasons.{Refusals, Acceptances}
use Rattle.rules.specs.Alone.{Within, CanKeep}
use Rattle.rules.specs.Steps.{Step, lone_at}
use Rattle.rules.specs.Histories.{Event, Place, no_turn, Move, Given, led_to, Did, shown_from, present}
use Rattle.rules.specs.Histories.{owes_after, times, updates, undone, place_of}

-- a line is accepted, and leads to a run, exactly when the rules have that step
abbrev pub Agreement : Run → Type 0
Agreement r = (line : Line) (r' : Run) → (line_result line r ≡ went r' → Step r line r') × (Step r line r' → line_result line r ≡ went r')

-- between turns each thread can by itself come to owe nothing, in every memory that has the present messages
abbrev pub PromisesCanBeKept : Run → Place → List Event → Type 0
PromisesCanBeKept r a es =
    a ≡ no_turn → (i : ℕ) → (M : List Message) → Within (present r.locations es) M → CanKeep r.locations (lone_at r i) r.sc M

abbrev pub IsIn : (ℕ × ℕ) → List (ℕ × ℕ) → Type 0
IsIn p [] = ⊥
IsIn p (q ∷ qs) = (p ≡ q) ⊎ IsIn p qs

-- no two are the same
abbrev pub Distinct : List (ℕ × ℕ) → Type 0
Distinct [] = Unit {0}
Distinct (p ∷ ps) = (IsIn p ps → ⊥) × Distinct ps

-- no two updates have read the same message
abbrev pub UpdatesExclusive : List Event → Type 0
UpdatesExclusive es = Distinct (updates es)

-- each is at least the one before it, and the first at least t
abbrev pub RisingFrom : ℕ → List ℕ → Type 0
RisingFrom t [] = Unit {0}
RisingFrom t (u ∷ us) = (t ≤ u) × RisingFrom u us

-- for each thread and location the times of its accesses never fall
abbrev pub NeverBack : List Event → Type 0
NeverBack es = (i x : ℕ) → RisingFrom 0 (times i x es)

-- a message is an initial one, or its span is not empty and its view has its end at its location
abbrev pub WellFormed : Message → Type 0
WellFormed m = (m ≡ initial m.location) ⊎ ((m.span.from < m.span.to) × (at m.view m.location ≡ m.span.to))

-- a message neither overlaps one of these nor ends where one of these at its location ends
abbrev pub ApartFrom : Message → List Message → Type 0
ApartFrom m ns = (n : Message) → In n ns → n.location ≡ m.location → (Overlaps m.location m.span n → ⊥) × (n.span.to ≢ m.span.to)

-- no two messages overlap or have one end at one location
abbrev pub Apart : List Message → Type 0
Apart [] = Unit {0}
Apart (m ∷ ms) = ApartFrom m ms × Apart ms

-- each end in the view is 0 or the end of a message at its location
abbrev pub Known : List Message → View → Type 0
Known ms v = (x : ℕ) → (at v x ≡ 0) ⊎ ((m : Message) × In m ms × (m.location ≡ x) × (m.span.to ≡ at v x))

pub record KnownViews (ms : List Message) (vs : Views) : Type 0 where
  pub cur : Known ms vs.cur
  pub acq : Known ms vs.acq
  pub rel : (x : ℕ) → Known ms (rel_at vs x)

-- rel(x) ≤ cur ≤ acq at each place
pub record Ordered (vs : Views) : Type 0 where
  pub rel : (x : ℕ) → Below (rel_at vs x) vs.cur
  pub acq : Below vs.cur vs.acq

-- after the E of a showing the run is in all its parts the one at its X, but between turns;
-- and an open showing, undone, is the run at its X
pub record PutsBack (ms : List Move) (r : Run) : Type 0 where
  pub ended : (before later : List Move) (e : Move) (x : Run) → ms ≡ before ++ (e ∷ later) → e.line ≡ E
      → shown_from None before ≡ Some x → e.after ≡ in_phase x between
  pub not_ended : (x : Run) → shown_from None ms ≡ Some x → undone r ≡ x

-- the law of a run on l locations, after these accepted lines and what they did
pub record Lawful (l : ℕ) (r : Run) (ms : List Move) (es : List Event) : Type 0 where
  pub locations : r.locations ≡ l
  pub agreement : Agreement r
  -- a refused line is refused for its first reason, and only for that
  pub refusals : Refusals r
  -- and a line is accepted exactly when there is no reason
  pub acceptances : Acceptances r
  -- the phase is that of the accepted lines
  pub phase : place_of r.phase ≡ led_to no_turn ms
  -- the memory and the marks, with an open showing put back, are those of the history
  pub memory : (undone r).memory ≡ present l es
  pub owed : (i : ℕ) → (lone_at (undone r) i).owed ≡ owes_after i [] es
  pub back : PutsBack ms r
  pub promises : PromisesCanBeKept r (led_to no_turn ms) es
  pub updates : UpdatesExclusive es
  pub times : NeverBack es
  pub well_formed : (m : Message) → In m r.memory → WellFormed m
  pub apart : Apart r.memory
  pub message_views : (m : Message) → In m r.memory → Known r.memory m.view
  pub thread_views : (i : ℕ) → KnownViews r.memory (thread_at r i).views
  pub sc : Known r.memory r.sc
  pub ordered : (i : ℕ) → Ordered (thread_at r i).views
  -- each message is at a location of the run, and each print is of a thread of the run
  pub places : (m : Message) → In m r.memory → m.location < l
  pub printers : (p : ℕ × ℕ) → IsIn p r.log → p.0 < length r.threads

-- the lines have a history, and only one: which were accepted, where they led, and what they did
pub record OneHistory (first : Run) (lines : List Line) : Type 0 where
  pub run : Run
  pub moves : List Move
  pub events : List Event
  pub given : Given first lines moves run
  pub did : Did no_turn moves events
  pub one_given : (r : Run) (ms : List Move) → Given first lines ms r → (ms ≡ moves) × (r ≡ run)
  pub one_did : (es : List Event) → Did no_turn moves es → es ≡ events

-- every run that is made, in a store of at most 64 messages, is lawful after every list of lines;
-- it is the run that the definition leads to, with as many lines accepted
abbrev pub RunsAreLawful : Type 0
RunsAreLawful =
    (bs : List Behaviour) (n l capacity : ℕ) → capacity ≤ 64
    → (first : Run) → made bs n l capacity ≡ went first → (lines : List Line)
    → (h : OneHistory first lines) × Lawful l h.run h.moves h.events
    × (h.run ≡ played first lines) × (length h.moves ≡ accepted_count first lines)
