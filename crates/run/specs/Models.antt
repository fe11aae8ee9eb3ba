-- What a run stands for, with its language and its store left behind.
use Rattle.std.specs.Prelude.{ℕ, List, map, take, Some, None, Ok, Err, Option, Result}
use Rattle.languages.specs.declared.language.Language.{Ghosts as Language}
use Rattle.stores.specs.declared.store.Store.{Ghosts as Store}
use Rattle.stores.specs.declared.view.View.{View}
use Rattle.rules.specs.declared.fault.StepFault.{StepFault}
use Rattle.rules.specs.Rules.{Tried, went, refused, Agrees}
use Rattle.rules.specs.Models as model
use Rattle.rules.specs.Models.{between, turn, showing}
use Rattle.run.specs.declared.parts.ThreadViews.{ThreadViews}
use Rattle.run.specs.declared.parts.Closing.{Closing}
use Rattle.run.specs.declared.parts.Print.{Print}
use Rattle.run.specs.declared.state.Thread.{Thread}
use Rattle.run.specs.declared.state.Shared.{Shared}
use Rattle.run.specs.declared.state.Saved.{Saved}
use Rattle.run.specs.declared.state.Phase.{Phase}
use Rattle.run.specs.declared.state.Phase.TheVariants.{Between, Turn, Showing}
use Rattle.run.specs.declared.state.Run.{Run}

abbrev pub views_of : ThreadViews → model.Views
views_of vs = record { cur = vs.cur; acq = vs.acq; rel = vs.rel }

abbrev pub print_of : Print → ℕ × ℕ
print_of p = (p.thread, p.value)

abbrev pub print_in : Option Print → Option (ℕ × ℕ)
print_in None = None
print_in (Some p) = Some (print_of p)

abbrev pub log_of : List Print → List (ℕ × ℕ)
log_of prints = map print_of prints

abbrev pub line_of : Option Closing → Option View
line_of None = None
line_of (Some c) = Some c.ends

module _ {L : Type 0} (l : Language L) where
  abbrev pub thread_of : Thread L → model.Thread
  thread_of th = record { does = l.behaves th.state; views = views_of th.views; owed = th.owed.marks }

  abbrev pub saved_of : Saved L → model.Saved
  saved_of s = record { thread = thread_of s.thread; sc = s.sc; messages = s.messages; prints = s.prints }

  abbrev pub phase_of : Phase L → model.Phase
  phase_of Between = between
  phase_of (Turn i) = turn i
  phase_of (Showing i s) = showing i (saved_of s) s.closing.ends

module _ {L S : Type 0} (l : Language L) (s : Store S) where
  abbrev pub part_of : Thread L → Shared S → model.Part
  part_of th sh =
      record { thread = thread_of l th; memory = s.held sh.store; capacity = s.capacity sh.store; sc = sh.sc; log = log_of sh.log }

  -- what a call did to a thread and to what it shares, by a rule for them
  abbrev pub PartAgrees : (model.Part → Tried model.Part) → Thread L → Shared S → Result (Unit {0}) StepFault → Thread L → Shared S → Type 0
  PartAgrees rule th sh r th' sh' = Agrees (rule (part_of th sh)) (part_of th sh) r (part_of th' sh')

  abbrev pub run_of : Run L S → model.Run
  run_of run =
      record {
        locations = run.scope.locations;
        threads = take run.scope.threads (map (thread_of l) run.threads);
        memory = s.held run.shared.store;
        capacity = s.capacity run.shared.store;
        sc = run.shared.sc;
        log = log_of run.shared.log;
        phase = phase_of l run.phase;
      }

  -- a run, or why there is none
  abbrev pub tried : Result (Run L S) StepFault → Tried model.Run
  tried (Ok run) = went (run_of run)
  tried (Err e) = refused e

  -- what a call did to a run, by a rule for it
  abbrev pub RunAgrees : (model.Run → Tried model.Run) → Run L S → Result (Unit {0}) StepFault → Run L S → Type 0
  RunAgrees rule run r run' = Agrees (rule (run_of run)) (run_of run) r (run_of run')
