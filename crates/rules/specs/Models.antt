-- What a run stands for, with its language and its store left behind.
use Rattle.std.specs.Prelude.{ℕ, zero, suc, Bool, false, List, [], ◌∷◌, ◌++◌, map, length, take, replicate}
use Rattle.std.specs.Prelude.{slice_index_or, slice_set}
use Rattle.std.specs.List.{range_with_len}
use Rattle.languages.specs.declared.action.Action.TheVariants.{Ended}
use Rattle.languages.specs.declared.action.Taking.TheVariants.{NotTaken}
use Rattle.languages.specs.Behaviours.{Behaviour}
use Rattle.stores.specs.declared.view.View.{View}
use Rattle.stores.specs.declared.message.Message.{Message}
use Rattle.stores.specs.Views.{zero_view}
use Rattle.stores.specs.Memory.{greatest_end}

-- the views of a thread: cur, acq, and rel of each location
pub record Views : Type 0 where
  pub cur : View
  pub acq : View
  pub rel : List View

-- a thread: what it does, its views, and a mark for each arrival number, set where it owes that message
pub record Thread : Type 0 where
  pub does : Behaviour
  pub views : Views
  pub owed : List Bool

-- one thread, and what it shares with the others
pub record Part : Type 0 where
  pub thread : Thread
  pub memory : List Message
  pub capacity : ℕ
  pub sc : View
  pub log : List (ℕ × ℕ)

-- what a showing puts back when it ends: the thread, S, and how many messages and prints there were
pub record Saved : Type 0 where
  pub thread : Thread
  pub sc : View
  pub messages : ℕ
  pub prints : ℕ

pub data Phase : Type 0 where
  between : Phase
  -- the turn of a thread
  turn : ℕ → Phase
  -- a showing of a thread, with what it puts back and the closing line
  showing : ℕ → Saved → View → Phase

-- a run: its locations, its threads, the messages in order of arrival, the view S, and the prints, each with its thread
pub record Run : Type 0 where
  pub locations : ℕ
  pub threads : List Thread
  pub memory : List Message
  pub capacity : ℕ
  pub sc : View
  pub log : List (ℕ × ℕ)
  pub phase : Phase

-- a thread that has done nothing
abbrev pub fresh_views : Views
fresh_views = record { cur = zero_view; acq = zero_view; rel = replicate 8 zero_view }

abbrev pub fresh : Behaviour → Thread
fresh b = record { does = b; views = fresh_views; owed = replicate 64 false }

-- the thread at a place where there is none
abbrev pub nobody : Thread
nobody = fresh (λ _. record { next = Ended; takes = λ _. NotTaken })

abbrev pub thread_at : Run → ℕ → Thread
thread_at r i = slice_index_or r.threads i nobody

abbrev pub part_at : Run → ℕ → Part
part_at r i = record { thread = thread_at r i; memory = r.memory; capacity = r.capacity; sc = r.sc; log = r.log }

abbrev pub with_part : Run → ℕ → Part → Run
with_part r i p =
    record {
      locations = r.locations;
      threads = slice_set r.threads i p.thread;
      memory = p.memory;
      capacity = p.capacity;
      sc = p.sc;
      log = p.log;
      phase = r.phase;
    }

abbrev pub in_phase : Run → Phase → Run
in_phase r ph =
    record { locations = r.locations; threads = r.threads; memory = r.memory; capacity = r.capacity; sc = r.sc; log = r.log; phase = ph }

-- the initial message of x
abbrev pub initial : ℕ → Message
initial x = record { location = x; span = record { from = 0; to = 0 }; value = 0; view = zero_view }

-- the initial messages of the first l locations
abbrev pub initials : ℕ → List Message
initials zero = []
initials (suc l) = initials l ++ (initial l ∷ [])

-- the greatest end of each location
abbrev pub closing_line : List Message → View
closing_line ms = record { ends = map (λ x. greatest_end x ms) (range_with_len 0 8) }

abbrev pub saved : Run → ℕ → Saved
saved r i = record { thread = thread_at r i; sc = r.sc; messages = length r.memory; prints = length r.log }

-- a thread and what it shares, as they were at X
abbrev pub part_back : Saved → Part → Part
part_back s p = record { thread = s.thread; memory = take s.messages p.memory; capacity = p.capacity; sc = s.sc; log = take s.prints p.log }

-- the run as it was at X
abbrev pub put_back : Run → ℕ → Saved → Run
put_back r i s = in_phase (with_part r i (part_back s (part_at r i))) (turn i)
