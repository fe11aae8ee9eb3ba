-- What each line does, and the first reason for which it is refused.
use Rattle.std.specs.Prelude.{◌≡◌, ℕ, zero, suc, ◌+◌, Bool, true, false, if◌then◌else◌, ◌&&◌, List, [], ◌∷◌, ◌++◌, map, length, take, Some, None, Ok, Err, Option, Result, ◌==◌, nat_le, nat_lt, slice_index_or, slice_set}
use Rattle.lines.specs.declared.span.Span.{Span}
use Rattle.lines.specs.Scopes.{in_scope}
use Rattle.lines.specs.declared.trace.Line.{Line}
use Rattle.lines.specs.declared.trace.Line.TheVariants.{Turn as T, Next as N, Read as R, Write as W, Update as U, Promise as G, Keep as H, Show as X, EndTurn as E}
use Rattle.languages.specs.declared.action.Action.{Action}
use Rattle.languages.specs.declared.action.Action.TheVariants.{Silent, Read, Write, Update, Fence, Print, Ended}
use Rattle.languages.specs.declared.action.ReadMode.{ReadMode}
use Rattle.languages.specs.declared.action.WriteMode.{WriteMode}
use Rattle.languages.specs.declared.action.WriteMode.TheVariants.{Relaxed, Release}
use Rattle.languages.specs.declared.action.FenceKind.{FenceKind}
use Rattle.languages.specs.declared.action.FenceKind.TheVariants.{Acquire as AcquireFence, Release as ReleaseFence, Both, Sequential}
use Rattle.languages.specs.declared.action.Taking.{Taking}
use Rattle.languages.specs.declared.action.Taking.TheVariants.{NotTaken, OnlyRead, Replaced}
use Rattle.languages.specs.Behaviours.{Behaviour, after}
use Rattle.stores.specs.declared.kept.StoreFault.TheVariants.{Full}
use Rattle.stores.specs.declared.view.View.{View}
use Rattle.stores.specs.declared.message.Message.{Message}
use Rattle.stores.specs.Views.{at, zero_view, join}
use Rattle.stores.specs.Memory.{zero_message, find, is_free}
use Rattle.rules.specs.declared.fault.StepFault.{StepFault}
use Rattle.rules.specs.declared.fault.StepFault.TheVariants.{Range, Moment, Kind, Owing, NoMessage, TooNew, Value, Span as BadSpan, ClosingLine, Store, LogFull, StillOwing}
use Rattle.rules.specs.Models.{Views, Thread, Part, Phase, between, turn, showing, Run, fresh, thread_at}
use Rattle.rules.specs.Models.{part_at, with_part, in_phase}
pub use Rattle.rules.specs.Models.{initial, initials, closing_line, saved, put_back}
use Rattle.rules.specs.Threads.{next_of, reads, read_views, write_views, acquire_views, release_views, both_views, all_views, none_owed, owes_at, find_owed}
pub use Rattle.rules.specs.Threads.{update_views, written, updated_message, promised_message, owing}

pub data Tried (Y : Type 0) : Type 0 where
  went : Y → Tried Y
  refused : StepFault → Tried Y

-- what a call that changes y did: it went as said, or refused and left y as it was
abbrev pub Agrees : {Y : Type 0} → Tried Y → Y → Result (Unit {0}) StepFault → Y → Type 0
Agrees (went z) y r y' = (r ≡ Ok tt) × (y' ≡ z)
Agrees (refused e) y r y' = (r ≡ Err e) × (y' ≡ y)

-- refused for the reason, where there is one
abbrev pub unless : {Y : Type 0} → Option StepFault → Tried Y → Tried Y
unless None t = t
unless (Some e) t = refused e

-- the message that arrived as number j
abbrev pub message_at : List Message → ℕ → Message
message_at ms j = slice_index_or ms j zero_message

-- the thread after going on with v, with these views
abbrev pub goes_on : Thread → ℕ → Views → Thread
goes_on k v vs = record { does = after k.does v; views = vs; owed = k.owed }

abbrev pub with_thread : Part → Thread → Part
with_thread p k = record { thread = k; memory = p.memory; capacity = p.capacity; sc = p.sc; log = p.log }

-- N: a silent step, a fence or a print of the thread i

abbrev pub fence_result : Part → FenceKind → Tried Part
fence_result p AcquireFence = went (with_thread p (goes_on p.thread 0 (acquire_views p.thread.views)))
fence_result p ReleaseFence =
    if none_owed p.thread.owed then went (with_thread p (goes_on p.thread 0 (release_views p.thread.views))) else refused Owing
fence_result p Both =
    if none_owed p.thread.owed then went (with_thread p (goes_on p.thread 0 (both_views p.thread.views))) else refused Owing
fence_result p Sequential =
    if none_owed p.thread.owed then went (record {
      thread = goes_on p.thread 0 (all_views (join p.sc p.thread.views.acq));
      memory = p.memory;
      capacity = p.capacity;
      sc = join p.sc p.thread.views.acq;
      log = p.log;
    }) else refused Owing

abbrev pub print_result : ℕ → Part → ℕ → Tried Part
print_result i p v =
    if none_owed p.thread.owed then (if nat_lt (length p.log) 64 then went (record {
      thread = goes_on p.thread 0 p.thread.views;
      memory = p.memory;
      capacity = p.capacity;
      sc = p.sc;
      log = p.log ++ ((i, v) ∷ []);
    }) else refused LogFull) else refused Owing

abbrev pub next_at : ℕ → Part → Action → Tried Part
next_at i p Silent = went (with_thread p (goes_on p.thread 0 p.thread.views))
next_at i p (Read x o) = refused Kind
next_at i p (Write x v o) = refused Kind
next_at i p (Update x o w) = refused Kind
next_at i p (Fence o) = fence_result p o
next_at i p (Print v) = print_result i p v
next_at i p Ended = refused Kind

abbrev pub next_result : ℕ → ℕ → Part → Tried Part
next_result l i p = next_at i p (next_of l p.thread.does)

-- R t: reads the message of x that ends at t, a value that is only read

abbrev pub read_taking : Part → ReadMode → ℕ → ℕ → Message → Taking → Tried Part
read_taking p o x t m NotTaken = refused Value
read_taking p o x t m OnlyRead = went (with_thread p (goes_on p.thread m.value (read_views o x t m.view p.thread.views)))
read_taking p o x t m (Replaced v) = refused Value

abbrev pub read_found : Part → ReadMode → ℕ → ℕ → Option ℕ → Tried Part
read_found p o x t None = refused NoMessage
read_found p o x t (Some j) =
    if nat_le (at p.thread.views.cur x) t then read_taking p o x t (message_at p.memory j) ((p.thread.does []).takes (message_at p.memory j).value) else refused TooNew

abbrev pub read_at : Part → ℕ → Option (ℕ × ReadMode) → Tried Part
read_at p t None = refused Kind
read_at p t (Some xo) = read_found p xo.1 xo.0 t (find xo.0 t p.memory)

abbrev pub read_result : ℕ → ℕ → Part → Tried Part
read_result l t p = read_at p t (reads (next_of l p.thread.does))

-- W s: writes a message with the span s

-- a release, while the thread owes something at x
abbrev pub release_owes : WriteMode → ℕ → Part → Bool
release_owes Relaxed x p = false
release_owes Release x p = owes_at x p.thread.owed p.memory

-- f is above the closing line of x, where there is one
abbrev pub above : Option View → ℕ → ℕ → Bool
above None x f = true
above (Some line) x f = nat_lt (at line x) f

-- why the span s cannot be written at x
abbrev pub span_refusal : Option View → ℕ → Span → List Message → Option StepFault
span_refusal closing x s ms = if nat_lt s.from s.to && is_free x s ms then (if above closing x s.from then None else Some ClosingLine) else Some BadSpan

abbrev pub write_refusal : Option View → ℕ → WriteMode → Span → Part → Option StepFault
write_refusal closing x o s p =
    if release_owes o x p then Some Owing else if nat_lt (at p.thread.views.cur x) s.to then span_refusal closing x s p.memory else Some TooNew

-- the part with this thread and one message more
abbrev pub with_message : Part → Thread → Message → Part
with_message p k m = record { thread = k; memory = p.memory ++ (m ∷ []); capacity = p.capacity; sc = p.sc; log = p.log }

-- the message is added, if there is room, with the thread after that
abbrev pub adds : Part → Thread → Message → Tried Part
adds p k m = if nat_lt (length p.memory) p.capacity then went (with_message p k m) else refused (Store Full)

abbrev pub write_at : Option View → Part → Span → Action → Tried Part
write_at closing p s Silent = refused Kind
write_at closing p s (Read x o) = refused Kind
write_at closing p s (Write x v o) =
    unless (write_refusal closing x o s p)
    (adds p (goes_on p.thread 0 (write_views o x s.to p.thread.views)) (written x v s (write_views o x s.to p.thread.views)))
write_at closing p s (Update x o w) = refused Kind
write_at closing p s (Fence o) = refused Kind
write_at closing p s (Print v) = refused Kind
write_at closing p s Ended = refused Kind

abbrev pub write_result : ℕ → Option View → Span → Part → Tried Part
write_result l closing s p = write_at closing p s (next_of l p.thread.does)

-- U s: reads the message of x that ends where s begins, a value that is replaced, and writes one with the span s

abbrev pub update_taking : Option View → Part → ReadMode → WriteMode → ℕ → Span → Message → Taking → Tried Part
update_taking closing p o w x s m NotTaken = refused Value
update_taking closing p o w x s m OnlyRead = refused Value
update_taking closing p o w x s m (Replaced v) =
    unless (span_refusal closing x s p.memory)
    (adds p (goes_on p.thread m.value (update_views o w x s m.view p.thread.views))
    (updated_message x v s m.view (update_views o w x s m.view p.thread.views)))

abbrev pub update_found : Option View → Part → ReadMode → WriteMode → ℕ → Span → Option ℕ → Tried Part
update_found closing p o w x s None = refused NoMessage
update_found closing p o w x s (Some j) =
    if nat_le (at p.thread.views.cur x) s.from then update_taking closing p o w x s (message_at p.memory j) ((p.thread.does []).takes (message_at p.memory j).value) else refused TooNew

abbrev pub update_at : Option View → Part → Span → Action → Tried Part
update_at closing p s Silent = refused Kind
update_at closing p s (Read x o) = refused Kind
update_at closing p s (Write x v o) = refused Kind
update_at closing p s (Update x o w) = if release_owes w x p then refused Owing else update_found closing p o w x s (find x s.from p.memory)
update_at closing p s (Fence o) = refused Kind
update_at closing p s (Print v) = refused Kind
update_at closing p s Ended = refused Kind

abbrev pub update_result : ℕ → Option View → Span → Part → Tried Part
update_result l closing s p = update_at closing p s (next_of l p.thread.does)

-- H t: keeps the promise at x that ends at t, by a relaxed write of its value

abbrev pub keeps : Thread → ℕ → ℕ → ℕ → Thread
keeps k j x t = record { does = after k.does 0; views = write_views Relaxed x t k.views; owed = slice_set k.owed j false }

abbrev pub keep_found : Part → ℕ → ℕ → ℕ → Option ℕ → Tried Part
keep_found p x v t None = refused NoMessage
keep_found p x v t (Some j) =
    if nat_lt (at p.thread.views.cur x) t then (if (message_at p.memory j).value == v then went (with_thread p (keeps p.thread j x t)) else refused Value) else refused TooNew

abbrev pub keep_at : Part → ℕ → Action → Tried Part
keep_at p t Silent = refused Kind
keep_at p t (Read x o) = refused Kind
keep_at p t (Write x v Relaxed) = keep_found p x v t (find_owed x t p.thread.owed p.memory)
keep_at p t (Write x v Release) = refused Kind
keep_at p t (Update x o w) = refused Kind
keep_at p t (Fence o) = refused Kind
keep_at p t (Print v) = refused Kind
keep_at p t Ended = refused Kind

abbrev pub keep_result : ℕ → ℕ → Part → Tried Part
keep_result l t p = keep_at p t (next_of l p.thread.does)

-- the lines by which the thread i acts, with the closing line that holds, if one does
abbrev pub act_result : ℕ → ℕ → Option View → Line → Part → Tried Part
act_result l i closing (T j) p = refused Moment
act_result l i closing N p = next_result l i p
act_result l i closing (R t) p = read_result l t p
act_result l i closing (W s) p = write_result l closing s p
act_result l i closing (U s) p = update_result l closing s p
act_result l i closing (G x v s) p = refused Moment
act_result l i closing (H t) p = keep_result l t p
act_result l i closing X p = refused Moment
act_result l i closing E p = refused Moment

-- G x v s: promises a relaxed write
abbrev pub promise_result : ℕ → ℕ → Span → Part → Tried Part
promise_result x v s p =
    if nat_lt (at p.thread.views.cur x) s.to then unless (span_refusal None x s p.memory) (adds p (owing p.thread (length p.memory)) (promised_message p.thread.views x v s)) else refused TooNew

-- what a step of thread i is to the run
abbrev pub lifted : Run → ℕ → Tried Part → Tried Run
lifted r i (went p) = went (with_part r i p)
lifted r i (refused e) = refused e

abbrev pub act_in : Run → Line → Phase → Tried Run
act_in r line between = refused Moment
act_in r line (turn i) = lifted r i (act_result r.locations i None line (part_at r i))
act_in r line (showing i s closing) =
    if none_owed (thread_at r i).owed then refused Moment else lifted r i (act_result r.locations i (Some closing) line (part_at r i))

abbrev pub promise_in : Run → ℕ → ℕ → Span → Phase → Tried Run
promise_in r x v s between = refused Moment
promise_in r x v s (turn i) = lifted r i (promise_result x v s (part_at r i))
promise_in r x v s (showing i sv closing) = refused Moment

-- T i

abbrev pub begin_in : Run → ℕ → Phase → Tried Run
begin_in r i between = went (in_phase r (turn i))
begin_in r i (turn j) = refused Moment
begin_in r i (showing j s closing) = refused Moment

-- X
abbrev pub show_in : Run → Phase → Tried Run
show_in r between = refused Moment
show_in r (turn i) = if none_owed (thread_at r i).owed then refused Moment else went (in_phase r (showing i (saved r i) (closing_line r.memory)))
show_in r (showing i s closing) = refused Moment

-- E
abbrev pub end_in : Run → Phase → Tried Run
end_in r between = refused Moment
end_in r (turn i) = if none_owed (thread_at r i).owed then went (in_phase r between) else refused StillOwing
end_in r (showing i s closing) = if none_owed (thread_at r i).owed then went (in_phase (put_back r i s) between) else refused StillOwing

-- what a line does to a run
abbrev pub line_result : Line → Run → Tried Run
line_result (T i) r = if nat_lt i (length r.threads) then begin_in r i r.phase else refused Range
line_result N r = act_in r N r.phase
line_result (R t) r = act_in r (R t) r.phase
line_result (W s) r = act_in r (W s) r.phase
line_result (U s) r = act_in r (U s) r.phase
line_result (G x v s) r = if nat_lt x r.locations then promise_in r x v s r.phase else refused Range
line_result (H t) r = act_in r (H t) r.phase
line_result X r = show_in r r.phase
line_result E r = end_in r r.phase

-- making a run

abbrev pub new_run : List Behaviour → ℕ → ℕ → ℕ → Run
new_run bs n l capacity =
    record {
      locations = l;
      threads = take n (map fresh bs);
      memory = initials l;
      capacity = capacity;
      sc = zero_view;
      log = [];
      phase = between;
    }

-- a run of the first n of these threads on l locations, in a store of this capacity
abbrev pub made : List Behaviour → ℕ → ℕ → ℕ → Tried Run
made bs n l capacity =
    if in_scope n l then (if nat_le l capacity then went (new_run bs n l capacity) else refused (Store Full)) else refused Range

-- lines one after another

-- the run after a line: a refused one leaves it as it is
abbrev pub settled : Run → Tried Run → Run
settled r (went r') = r'
settled r (refused e) = r

-- the run after lines, each judged on the run that the ones before led to
abbrev pub played : Run → List Line → Run
played r [] = r
played r (line ∷ lines) = played (settled r (line_result line r)) lines

-- one more, if the line went
abbrev pub one_more : {Y : Type 0} → Tried Y → ℕ → ℕ
one_more (went y) n = n + 1
one_more (refused e) n = n

-- how many of them are accepted
abbrev pub accepted_count : Run → List Line → ℕ
accepted_count r [] = 0
accepted_count r (line ∷ lines) =
    one_more (line_result line r) (accepted_count (settled r (line_result line r)) lines)
