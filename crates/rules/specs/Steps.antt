-- The lines of a run, as a relation over the steps of its threads.
use Rattle.std.specs.Prelude.{◌≡◌, ℕ, ◌<◌, ◌≤◌, Bool, false, List, [], ◌∷◌, ◌++◌, length, Some, None, Option, slice_index_or}
use Rattle.lines.specs.declared.span.Span.{Span}
use Rattle.lines.specs.declared.trace.Line.{Line}
use Rattle.lines.specs.declared.trace.Line.TheVariants.{Turn as T, Promise as G, Show as X, EndTurn as E}
use Rattle.languages.specs.declared.action.Action.{Action}
use Rattle.languages.specs.declared.action.Action.TheVariants.{Silent, Read, Write, Update, Fence, Print, Ended}
use Rattle.stores.specs.declared.view.View.{View}
use Rattle.stores.specs.declared.message.Message.{Message}
use Rattle.stores.specs.Views.{at}
use Rattle.stores.specs.StoreLaws.{Free}
use Rattle.rules.specs.Models.{Thread, Saved, between, turn, showing, Run, thread_at, with_part, in_phase, closing_line, saved, put_back}
use Rattle.rules.specs.Threads.{next_of, promised_message, owing}
use Rattle.rules.specs.Alone.{Lone, lone, OwesNothing, Alone}

abbrev pub lone_at : Run → ℕ → Lone
lone_at r i = lone (thread_at r i) r.memory

-- thread i owes something
abbrev pub Owes : Run → ℕ → Type 0
Owes r i = OwesNothing (lone_at r i) → ⊥

-- what thread i does next
abbrev pub next_action : Run → ℕ → Action
next_action r i = next_of r.locations (thread_at r i).does

-- what the thread i prints by an action
abbrev pub printed : ℕ → Action → List (ℕ × ℕ)
printed i Silent = []
printed i (Read x o) = []
printed i (Write x v o) = []
printed i (Update x o p) = []
printed i (Fence o) = []
printed i (Print v) = (i, v) ∷ []
printed i Ended = []

-- there are 64 marks, and none past the messages that are there
abbrev pub Marks : List Bool → List Message → Type 0
Marks bs ms = (length bs ≡ 64) × ((j : ℕ) → length ms ≤ j → slice_index_or bs j false ≡ false)

-- the thread that may act, with the closing line that holds: in a showing it may as long as it owes something
pub data Acting (r : Run) : ℕ → Option View → Type 0 where
  in_turn : (i : ℕ) → r.phase ≡ turn i → Acting r i None
  in_showing : (i : ℕ) (s : Saved) (line : View) → r.phase ≡ showing i s line → Owes r i
      → Acting r i (Some line)

-- by which line the run r comes to which run
pub data Step (r : Run) : Line → Run → Type 0 where
  begins : (i : ℕ) → i < length r.threads → r.phase ≡ between → Step r (T i) (in_phase r (turn i))
  -- a step of the thread that may act, with room for what it writes and prints
  acts : {line : Line} (i : ℕ) (closing : Option View) (k : Thread) (S : View) (M : List Message)
      → Acting r i closing
      → Alone r.locations closing (lone_at r i) r.sc r.memory line (lone k M) S M
      → Marks k.owed M
      → length M ≤ r.capacity
      → length (r.log ++ printed i (next_action r i)) ≤ 64
      → Step r line (with_part r i (record {
        thread = k;
        memory = M;
        capacity = r.capacity;
        sc = S;
        log = r.log ++ printed i (next_action r i);
      }))
  promises : (i x v : ℕ) (s : Span)
      → r.phase ≡ turn i → x < r.locations
      → at (thread_at r i).views.cur x < s.to → s.from < s.to → Free x s r.memory
      → length r.memory < r.capacity
      → Step r (G x v s) (with_part r i (record {
        thread = owing (thread_at r i) (length r.memory);
        memory = r.memory ++ (promised_message (thread_at r i).views x v s ∷ []);
        capacity = r.capacity;
        sc = r.sc;
        log = r.log;
      }))
  shows : (i : ℕ) → r.phase ≡ turn i → Owes r i
      → Step r X (in_phase r (showing i (saved r i) (closing_line r.memory)))
  ends_turn : (i : ℕ) → r.phase ≡ turn i → OwesNothing (lone_at r i) → Step r E (in_phase r between)
  ends_showing : (i : ℕ) (s : Saved) (line : View) → r.phase ≡ showing i s line → OwesNothing (lone_at r i)
      → Step r E (in_phase (put_back r i s) between)

-- each line is a step, from the run that the ones before it led to
pub data Leads : Run → List Line → Run → Type 0 where
  nowhere_yet : {r : Run} → Leads r [] r
  by_step : {r r₁ r₂ : Run} {line : Line} {lines : List Line} → Step r line r₁ → Leads r₁ lines r₂
      → Leads r (line ∷ lines) r₂
