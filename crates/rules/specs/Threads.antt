-- How the views of a thread change, and which messages it owes.
use Rattle.std.specs.Prelude.{ℕ, ◌+◌, Bool, true, false, if◌then◌else◌, not, ◌&&◌, List, [], ◌∷◌, replicate, zip, Some, None, Option, ◌==◌, nat_lt, slice_index_or, slice_set}
use Rattle.lines.specs.declared.span.Span.{Span}
use Rattle.std.specs.List.{list_all, list_any, position_from}
use Rattle.languages.specs.declared.action.Action.{Action}
use Rattle.languages.specs.declared.action.Action.TheVariants.{Silent, Read, Write, Update, Fence, Print, Ended}
use Rattle.languages.specs.declared.action.ReadMode.{ReadMode}
use Rattle.languages.specs.declared.action.ReadMode.TheVariants.{Relaxed as RelaxedRead, Acquire}
use Rattle.languages.specs.declared.action.WriteMode.{WriteMode}
use Rattle.languages.specs.declared.action.WriteMode.TheVariants.{Relaxed, Release}
use Rattle.languages.specs.Behaviours.{Behaviour}
use Rattle.stores.specs.declared.view.View.{View}
use Rattle.stores.specs.declared.message.Message.{Message}
use Rattle.stores.specs.Views.{zero_view, single, join}
use Rattle.stores.specs.Memory.{ends_at}
use Rattle.rules.specs.Models.{Views, Thread}

-- an action at location l or beyond counts as ended
abbrev pub within : ℕ → Action → Action
within l Silent = Silent
within l (Read x o) = if nat_lt x l then Read x o else Ended
within l (Write x v o) = if nat_lt x l then Write x v o else Ended
within l (Update x o p) = if nat_lt x l then Update x o p else Ended
within l (Fence o) = Fence o
within l (Print v) = Print v
within l Ended = Ended

-- what a thread does next, in a run of l locations
abbrev pub next_of : ℕ → Behaviour → Action
next_of l b = within l (b []).next

-- the location and the mode with which an action can read
abbrev pub reads : Action → Option (ℕ × ReadMode)
reads Silent = None
reads (Read x o) = Some (x, o)
reads (Write x v o) = None
reads (Update x o p) = Some (x, o)
reads (Fence o) = None
reads (Print v) = None
reads Ended = None

abbrev pub rel_at : Views → ℕ → View
rel_at vs x = slice_index_or vs.rel x zero_view

-- cur takes in {x@t}, and the message's view m if the read is an acquire
abbrev pub read_cur : ReadMode → ℕ → ℕ → View → View → View
read_cur RelaxedRead x t m c = join c (single x t)
read_cur Acquire x t m c = join (join c (single x t)) m

-- acq takes in {x@t} and m
abbrev pub read_views : ReadMode → ℕ → ℕ → View → Views → Views
read_views o x t m vs = record { cur = read_cur o x t m vs.cur; acq = join (join vs.acq (single x t)) m; rel = vs.rel }

-- for a release rel(x) takes in cur
abbrev pub write_rel : WriteMode → View → View → View
write_rel Relaxed r c = r
write_rel Release r c = join r c

-- cur, acq and rel(x) take in {x@t}
abbrev pub write_views : WriteMode → ℕ → ℕ → Views → Views
write_views o x t vs =
    record {
      cur = join vs.cur (single x t);
      acq = join vs.acq (single x t);
      rel = slice_set vs.rel x (write_rel o (join (rel_at vs x) (single x t)) (join vs.cur (single x t)));
    }

-- an update reads the message that ends where the span s begins and has the view m, and then writes s
abbrev pub update_views : ReadMode → WriteMode → ℕ → Span → View → Views → Views
update_views o w x s m vs = write_views w x s.to (read_views o x s.from m vs)

-- the message that a write makes, with the views after it
abbrev pub written : ℕ → ℕ → Span → Views → Message
written x v s vs = record { location = x; span = s; value = v; view = rel_at vs x }

-- the message that an update makes, with the views after it: its view also takes in that of the message read
abbrev pub updated_message : ℕ → ℕ → Span → View → Views → Message
updated_message x v s m vs = record { location = x; span = s; value = v; view = join (rel_at vs x) m }

-- the message that a promise makes
abbrev pub promised_message : Views → ℕ → ℕ → Span → Message
promised_message vs x v s = record { location = x; span = s; value = v; view = join (rel_at vs x) (single x s.to) }

-- cur becomes acq
abbrev pub acquire_views : Views → Views
acquire_views vs = record { cur = vs.acq; acq = vs.acq; rel = vs.rel }

-- every rel becomes cur
abbrev pub release_views : Views → Views
release_views vs = record { cur = vs.cur; acq = vs.acq; rel = replicate 8 vs.cur }

-- cur and every rel become acq
abbrev pub both_views : Views → Views
both_views vs = record { cur = vs.acq; acq = vs.acq; rel = replicate 8 vs.acq }

-- all become s
abbrev pub all_views : View → Views
all_views s = record { cur = s; acq = s; rel = replicate 8 s }

-- no mark is set
abbrev pub none_owed : List Bool → Bool
none_owed bs = list_all not bs

-- the messages that are marked, in order of arrival
abbrev pub marked : List Bool → List Message → List Message
marked [] ms = []
marked (b ∷ bs) [] = []
marked (b ∷ bs) (m ∷ ms) = if b then m ∷ marked bs ms else marked bs ms

-- a message at x is marked
abbrev pub owes_at : ℕ → List Bool → List Message → Bool
owes_at x bs ms = list_any (λ p. p.0 && p.1.location == x) (zip bs ms)

-- the arrival number of the first marked message of x that ends at t, where the list's first has number k
abbrev pub find_owed_from : ℕ → ℕ → ℕ → List Bool → List Message → Option ℕ
find_owed_from k x t bs ms = position_from (λ p. p.0 && ends_at x t p.1) k (zip bs ms)

abbrev pub find_owed : ℕ → ℕ → List Bool → List Message → Option ℕ
find_owed x t bs ms = find_owed_from 0 x t bs ms

-- the thread owes the message that arrives as number j
abbrev pub owing : Thread → ℕ → Thread
owing k j = record { does = k.does; views = k.views; owed = slice_set k.owed j true }

-- the first thread that owes the message that arrived as number k
abbrev pub owing_thread : ℕ → List Thread → Option ℕ
owing_thread k ts = position_from (λ t. slice_index_or t.owed k false) 0 ts

-- 0, or the owing thread plus 1
abbrev pub owner : Option ℕ → ℕ
owner None = 0
owner (Some i) = i + 1
