-- Why a line is refused: every reason that holds, as a relation, and the first of them by the table.
use Rattle.std.specs.Prelude.{◌≡◌, ℕ, ◌<◌, ◌≤◌, [], length, Some, None, Option, ◌≢◌}
use Rattle.lines.specs.declared.span.Span.{Span}
use Rattle.lines.specs.declared.trace.Line.{Line}
use Rattle.lines.specs.declared.trace.Line.TheVariants.{Turn as T, Next as N, Read as R, Write as W}
use Rattle.lines.specs.declared.trace.Line.TheVariants.{Update as U, Promise as G, Keep as H, Show as X}
use Rattle.lines.specs.declared.trace.Line.TheVariants.{EndTurn as E}
use Rattle.languages.specs.declared.action.Action.{Action}
use Rattle.languages.specs.declared.action.Action.TheVariants.{Silent, Read, Write, Update, Fence, Print}
use Rattle.languages.specs.declared.action.ReadMode.{ReadMode}
use Rattle.languages.specs.declared.action.WriteMode.{WriteMode}
use Rattle.languages.specs.declared.action.WriteMode.TheVariants.{Relaxed, Release}
use Rattle.languages.specs.declared.action.FenceKind.{FenceKind}
use Rattle.languages.specs.declared.action.FenceKind.TheVariants.{Acquire as AcquireFence}
use Rattle.languages.specs.declared.action.Taking.{Taking}
use Rattle.languages.specs.declared.action.Taking.TheVariants.{OnlyRead, Replaced}
use Rattle.stores.specs.declared.kept.StoreFault.TheVariants.{Full}
use Rattle.stores.specs.declared.view.View.{View}
use Rattle.stores.specs.declared.message.Message.{Message}
use Rattle.stores.specs.Views.{at}
use Rattle.stores.specs.StoreLaws.{In, EndsAt, Overlaps}
use Rattle.rules.specs.declared.fault.StepFault.{StepFault}
use Rattle.rules.specs.declared.fault.StepFault.TheVariants.{Range, Moment, Kind, Owing, NoMessage, TooNew}
use Rattle.rules.specs.declared.fault.StepFault.TheVariants.{Value, Span as BadSpan, ClosingLine}
use Rattle.rules.specs.declared.fault.StepFault.TheVariants.{Store, LogFull, StillOwing}
use Rattle.rules.specs.Models.{Saved, between, turn, showing, Run, thread_at}
use Rattle.rules.specs.Rules.{went, refused, line_result}
use Rattle.rules.specs.Threads.{reads}
use Rattle.rules.specs.Alone.{OwesNothing, Above}
use Rattle.rules.specs.Steps.{lone_at, Owes, next_action}

-- the place of a refusal in the table, whose rows are tried downwards
abbrev pub row : StepFault → ℕ
row Range = 1
row Moment = 2
row Kind = 3
row Owing = 4
row NoMessage = 5
row TooNew = 6
row Value = 7
row BadSpan = 8
row ClosingLine = 9
row (Store Full) = 10
row LogFull = 10
row StillOwing = 11

-- the thread whose turn or showing it is, with the closing line of a showing
pub data Whose (r : Run) : ℕ → Option View → Type 0 where
  of_turn : (i : ℕ) → r.phase ≡ turn i → Whose r i None
  of_showing : (i : ℕ) (s : Saved) (closing : View) → r.phase ≡ showing i s closing → Whose r i (Some closing)

-- the lines by which a thread acts
abbrev pub Acts : Line → Type 0
Acts N = Unit {0}
Acts (R t) = Unit {0}
Acts (W s) = Unit {0}
Acts (U s) = Unit {0}
Acts (H t) = Unit {0}
Acts line = ⊥

-- the actions that such a line serves
abbrev pub Serves : Line → Action → Type 0
Serves N Silent = Unit {0}
Serves N (Fence o) = Unit {0}
Serves N (Print v) = Unit {0}
Serves (R t) (Read x o) = Unit {0}
Serves (R t) (Update x o p) = Unit {0}
Serves (W s) (Write x v o) = Unit {0}
Serves (U s) (Update x o p) = Unit {0}
Serves (H t) (Write x v Relaxed) = Unit {0}
Serves line a = ⊥

-- the end of x that thread i has seen
abbrev pub cur_at : Run → ℕ → ℕ → ℕ
cur_at r i x = at (thread_at r i).views.cur x

-- what thread i says of a value
abbrev pub taking : Run → ℕ → ℕ → Taking
taking r i v = ((thread_at r i).does []).takes v

-- it owes something at x
abbrev pub OwesAt : Run → ℕ → ℕ → Type 0
OwesAt r i x = (m : Message) × In m (lone_at r i).owed × (m.location ≡ x)

-- no message of x ends at t
abbrev pub NoneEnds : Run → ℕ → ℕ → Type 0
NoneEnds r x t = (m : Message) → In m r.memory → EndsAt x t m → ⊥

-- the span is empty, or overlaps a message of x
pub data Misplaced (r : Run) (x : ℕ) (s : Span) : Type 0 where
  empty : s.to ≤ s.from → Misplaced r x s
  overlapping : (m : Message) → In m r.memory → Overlaps x s m → Misplaced r x s

-- there is no room for a message
abbrev pub NoRoom : Run → Type 0
NoRoom r = r.capacity ≤ length r.memory

-- what hinders thread i, above this closing line, by line and refusal: each reason by itself
pub data Hinders (r : Run) (i : ℕ) (closing : Option View) : Line → StepFault → Type 0 where
  another_kind : {line : Line} → Acts line → (Serves line (next_action r i) → ⊥)
      → Hinders r i closing line Kind
  -- N
  fence_owing : (o : FenceKind) → next_action r i ≡ Fence o → o ≢ AcquireFence → Owes r i
      → Hinders r i closing N Owing
  print_owing : (v : ℕ) → next_action r i ≡ Print v → Owes r i → Hinders r i closing N Owing
  log_full : (v : ℕ) → next_action r i ≡ Print v → 64 ≤ length r.log → Hinders r i closing N LogFull
  -- R
  read_nothing : {t : ℕ} (x : ℕ) (o : ReadMode) → reads (next_action r i) ≡ Some (x, o) → NoneEnds r x t
      → Hinders r i closing (R t) NoMessage
  read_new : {t : ℕ} (x : ℕ) (o : ReadMode) → reads (next_action r i) ≡ Some (x, o) → t < cur_at r i x
      → Hinders r i closing (R t) TooNew
  read_value : {t : ℕ} (x : ℕ) (o : ReadMode) (m : Message) → reads (next_action r i) ≡ Some (x, o)
      → In m r.memory → EndsAt x t m → taking r i m.value ≢ OnlyRead
      → Hinders r i closing (R t) Value
  -- W
  write_owing : {s : Span} (x v : ℕ) → next_action r i ≡ Write x v Release → OwesAt r i x
      → Hinders r i closing (W s) Owing
  write_new : {s : Span} (x v : ℕ) (o : WriteMode) → next_action r i ≡ Write x v o → s.to ≤ cur_at r i x
      → Hinders r i closing (W s) TooNew
  write_span : {s : Span} (x v : ℕ) (o : WriteMode) → next_action r i ≡ Write x v o → Misplaced r x s
      → Hinders r i closing (W s) BadSpan
  write_line : {s : Span} (x v : ℕ) (o : WriteMode) → next_action r i ≡ Write x v o
      → (Above closing x s.from → ⊥) → Hinders r i closing (W s) ClosingLine
  write_full : {s : Span} (x v : ℕ) (o : WriteMode) → next_action r i ≡ Write x v o → NoRoom r
      → Hinders r i closing (W s) (Store Full)
  -- U
  update_owing : {s : Span} (x : ℕ) (o : ReadMode) → next_action r i ≡ Update x o Release → OwesAt r i x
      → Hinders r i closing (U s) Owing
  update_nothing : {s : Span} (x : ℕ) (o : ReadMode) (p : WriteMode) → next_action r i ≡ Update x o p
      → NoneEnds r x s.from → Hinders r i closing (U s) NoMessage
  update_new : {s : Span} (x : ℕ) (o : ReadMode) (p : WriteMode) → next_action r i ≡ Update x o p
      → s.from < cur_at r i x → Hinders r i closing (U s) TooNew
  update_value : {s : Span} (x : ℕ) (o : ReadMode) (p : WriteMode) (m : Message)
      → next_action r i ≡ Update x o p → In m r.memory → EndsAt x s.from m → ((v : ℕ) → taking r i m.value ≢ Replaced v)
      → Hinders r i closing (U s) Value
  update_span : {s : Span} (x : ℕ) (o : ReadMode) (p : WriteMode) → next_action r i ≡ Update x o p
      → Misplaced r x s → Hinders r i closing (U s) BadSpan
  update_line : {s : Span} (x : ℕ) (o : ReadMode) (p : WriteMode) → next_action r i ≡ Update x o p
      → (Above closing x s.from → ⊥) → Hinders r i closing (U s) ClosingLine
  update_full : {s : Span} (x : ℕ) (o : ReadMode) (p : WriteMode) → next_action r i ≡ Update x o p → NoRoom r
      → Hinders r i closing (U s) (Store Full)
  -- G
  promise_new : {x v : ℕ} {s : Span} → s.to ≤ cur_at r i x → Hinders r i closing (G x v s) TooNew
  promise_span : {x v : ℕ} {s : Span} → Misplaced r x s → Hinders r i closing (G x v s) BadSpan
  promise_full : {x v : ℕ} {s : Span} → NoRoom r → Hinders r i closing (G x v s) (Store Full)
  -- H
  keep_nothing : {t : ℕ} (x v : ℕ) → next_action r i ≡ Write x v Relaxed
      → ((m : Message) → In m (lone_at r i).owed → EndsAt x t m → ⊥) → Hinders r i closing (H t) NoMessage
  keep_new : {t : ℕ} (x v : ℕ) → next_action r i ≡ Write x v Relaxed → t ≤ cur_at r i x
      → Hinders r i closing (H t) TooNew
  keep_value : {t : ℕ} (x v : ℕ) (m : Message) → next_action r i ≡ Write x v Relaxed
      → In m (lone_at r i).owed → EndsAt x t m → m.value ≢ v → Hinders r i closing (H t) Value
  -- E
  still_owing : Owes r i → Hinders r i closing E StillOwing

-- why a line is refused
pub data Because (r : Run) : Line → StepFault → Type 0 where
  no_thread : (i : ℕ) → length r.threads ≤ i → Because r (T i) Range
  no_location : (x v : ℕ) (s : Span) → r.locations ≤ x → Because r (G x v s) Range
  -- T in a turn or a showing
  begun : (i j : ℕ) (closing : Option View) → Whose r j closing → Because r (T i) Moment
  -- any other line between turns
  before_a_turn : (line : Line) → ((i : ℕ) → line ≢ T i) → r.phase ≡ between → Because r line Moment
  -- in a showing, once nothing is owed
  all_kept : (line : Line) (i : ℕ) (s : Saved) (closing : View) → Acts line → r.phase ≡ showing i s closing
      → OwesNothing (lone_at r i) → Because r line Moment
  promise_shown : (x v : ℕ) (s : Span) (i : ℕ) (sv : Saved) (closing : View) → r.phase ≡ showing i sv closing
      → Because r (G x v s) Moment
  shown_already : (i : ℕ) (s : Saved) (closing : View) → r.phase ≡ showing i s closing → Because r X Moment
  nothing_to_show : (i : ℕ) → r.phase ≡ turn i → OwesNothing (lone_at r i) → Because r X Moment
  hindered : {line : Line} {e : StepFault} (i : ℕ) (closing : Option View) → Whose r i closing
      → Hinders r i closing line e → Because r line e

-- it holds of the line, and no reason that holds stands in a row above it
abbrev pub FirstReason : Run → Line → StepFault → Type 0
FirstReason r line e = Because r line e × ((e' : StepFault) → Because r line e' → row e ≤ row e')

-- a line is refused for its first reason, and only for that
abbrev pub Refusals : Run → Type 0
Refusals r = (line : Line) (e : StepFault)
    → (line_result line r ≡ refused e → FirstReason r line e)
    × (FirstReason r line e → line_result line r ≡ refused e)

-- a line is accepted exactly when there is no reason
abbrev pub Acceptances : Run → Type 0
Acceptances r = (line : Line)
    → ((r' : Run) → line_result line r ≡ went r' → (e : StepFault) → Because r line e → ⊥)
    × (((e : StepFault) → Because r line e → ⊥) → (r' : Run) × (line_result line r ≡ went r'))
