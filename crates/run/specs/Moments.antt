-- Lines in range, the moments of lines, and whether a thread may act.
use Rattle.std.specs.Prelude.{Bool, true, length, nat_lt, if◌then◌else◌, Option, Some, None, Result, Ok, Err}
use Rattle.lines.specs.declared.trace.Line.{Line}
use Rattle.lines.specs.declared.trace.Line.TheVariants.{Turn as T, Next as N, Read as R, Write as W, Update as U, Promise as G, Keep as H, Show as X, EndTurn as E}
use Rattle.stores.specs.declared.view.View.{View}
use Rattle.rules.specs.declared.fault.StepFault.{StepFault}
use Rattle.rules.specs.declared.fault.StepFault.TheVariants.{Moment}
use Rattle.rules.specs.Models.{Phase, Run, between, turn, showing, thread_at}
use Rattle.rules.specs.Threads.{none_owed}
use Rattle.run.specs.declared.parts.Closing.{Closing}
use Rattle.run.specs.Models.{line_of}
use Rattle.rules.specs.Rules.{Tried, act_in, promise_in, begin_in, show_in, end_in}

-- the thread or the location that the line names is there
abbrev pub in_range : Line → Run → Bool
in_range (T i) r = nat_lt i (length r.threads)
in_range N r = true
in_range (R t) r = true
in_range (W s) r = true
in_range (U s) r = true
in_range (G x v s) r = nat_lt x r.locations
in_range (H t) r = true
in_range X r = true
in_range E r = true

-- what a line in range does in a phase
abbrev pub moment_in : Line → Run → Phase → Tried Run
moment_in (T i) r ph = begin_in r i ph
moment_in N r ph = act_in r N ph
moment_in (R t) r ph = act_in r (R t) ph
moment_in (W s) r ph = act_in r (W s) ph
moment_in (U s) r ph = act_in r (U s) ph
moment_in (G x v s) r ph = promise_in r x v s ph
moment_in (H t) r ph = act_in r (H t) ph
moment_in X r ph = show_in r ph
moment_in E r ph = end_in r ph

abbrev pub moment_result : Line → Run → Tried Run
moment_result line r = moment_in line r r.phase

-- the closing line above which the thread whose turn or showing it is has to write, none in a turn; or why it may not act
abbrev pub may_act_in : Run → Phase → Result (Option View) StepFault
may_act_in r between = Err Moment
may_act_in r (turn i) = Ok None
may_act_in r (showing i s closing) = if none_owed (thread_at r i).owed then Err Moment else Ok (Some closing)

-- the same, of a closing line of the code
abbrev pub closing_of : Result (Option Closing) StepFault → Result (Option View) StepFault
closing_of (Ok closing) = Ok (line_of closing)
closing_of (Err e) = Err e
