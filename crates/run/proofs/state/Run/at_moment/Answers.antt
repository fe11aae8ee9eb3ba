use Rattle.std.proofs.Common.{refl, ap, arith, rules}
use Rattle.run.specs.Models.{run_of, thread_of, phase_of}
use Rattle.run.proofs.Lifts.{turn_is, showing_is}
use Rattle.run.proofs.Moments.{count_is, turn_in_range, moment_at, refused_at, act_moment, end_turn, end_showing}
use Rattle.run.proofs.state.Run.at_moment.Goals as goal

pub begin-requires : goal.begin-requires
begin-requires g c =
    let run = c.args.self.now in
    let there = turn_in_range c.args.line (run_of g.L.Language g.S.Store run) c.in-Turn-Between.thread c.in-Turn-Between.is-0 c.requires in
    let all = count_is (thread_of g.L.Language) run.scope.threads run.threads (omega arith) in
    (search rules, omega arith)

pub returns-in-Turn-Between : goal.returns-in-Turn-Between
returns-in-Turn-Between g c =
    moment_at c.args.line _ (run_of g.L.Language g.S.Store c.args.self.now) _ c.begin.result _ c.in-Turn-Between.is-0 (ap (phase_of g.L.Language) c.in-Turn-Between.is-1)
    c.begin.ensures

pub returns-in-Promise-Turn : goal.returns-in-Promise-Turn
returns-in-Promise-Turn g c =
    moment_at c.args.line _ (run_of g.L.Language g.S.Store c.args.self.now) _ c.promise.result _ c.in-Promise-Turn.is-0 (turn_is g.L.Language g.S.Store c.args.self.now.scope.locations c.args.self.now.scope.threads c.args.self.now.phase _ c.in-Promise-Turn.is-1)
    c.promise.ensures

pub returns-in-Show-Turn : goal.returns-in-Show-Turn
returns-in-Show-Turn g c =
    moment_at c.args.line _ (run_of g.L.Language g.S.Store c.args.self.now) _ c.show.result _ c.in-Show-Turn.is-0 (turn_is g.L.Language g.S.Store c.args.self.now.scope.locations c.args.self.now.scope.threads c.args.self.now.phase _ c.in-Show-Turn.is-1)
    c.show.ensures

pub returns-in-EndTurn-Turn : goal.returns-in-EndTurn-Turn
returns-in-EndTurn-Turn g c =
    let run = c.args.self.now in
    let phase = turn_is g.L.Language g.S.Store run.scope.locations run.scope.threads run.phase _ c.in-EndTurn-Turn.is-1 in
    moment_at c.args.line _ (run_of g.L.Language g.S.Store run) _ c.end.result _ c.in-EndTurn-Turn.is-0 phase (end_turn (run_of g.L.Language g.S.Store run) _ _ _ phase c.end.ensures)

pub returns-in-EndTurn-Showing : goal.returns-in-EndTurn-Showing
returns-in-EndTurn-Showing g c =
    let run = c.args.self.now in
    let phase = showing_is g.L.Language g.S.Store run.scope.locations run.scope.threads run.phase _ _ c.in-EndTurn-Showing.is-1 in
    moment_at c.args.line _ (run_of g.L.Language g.S.Store run) _ c.end-in-EndTurn-Showing.result _ c.in-EndTurn-Showing.is-0 phase (end_showing (run_of g.L.Language g.S.Store run) _ _ _ _ _ phase c.end-in-EndTurn-Showing.ensures)

pub returns-in-Turn-Turn : goal.returns-in-Turn-Turn
returns-in-Turn-Turn g c = refused_at c.args.line _ (run_of g.L.Language g.S.Store c.args.self.now) _ c.in-Turn-Turn.is-0 (ap (phase_of g.L.Language) c.in-Turn-Turn.is-1) refl

pub returns-in-Turn-Showing : goal.returns-in-Turn-Showing
returns-in-Turn-Showing g c = refused_at c.args.line _ (run_of g.L.Language g.S.Store c.args.self.now) _ c.in-Turn-Showing.is-0 (ap (phase_of g.L.Language) c.in-Turn-Showing.is-1) refl

pub returns-in-Promise-Between : goal.returns-in-Promise-Between
returns-in-Promise-Between g c = refused_at c.args.line _ (run_of g.L.Language g.S.Store c.args.self.now) _ c.in-Promise-Between.is-0 (ap (phase_of g.L.Language) c.in-Promise-Between.is-1) refl

pub returns-in-Promise-Showing : goal.returns-in-Promise-Showing
returns-in-Promise-Showing g c = refused_at c.args.line _ (run_of g.L.Language g.S.Store c.args.self.now) _ c.in-Promise-Showing.is-0 (ap (phase_of g.L.Language) c.in-Promise-Showing.is-1) refl

pub returns-in-Show-Between : goal.returns-in-Show-Between
returns-in-Show-Between g c = refused_at c.args.line _ (run_of g.L.Language g.S.Store c.args.self.now) _ c.in-Show-Between.is-0 (ap (phase_of g.L.Language) c.in-Show-Between.is-1) refl

pub returns-in-Show-Showing : goal.returns-in-Show-Showing
returns-in-Show-Showing g c = refused_at c.args.line _ (run_of g.L.Language g.S.Store c.args.self.now) _ c.in-Show-Showing.is-0 (ap (phase_of g.L.Language) c.in-Show-Showing.is-1) refl

pub returns-in-EndTurn-Between : goal.returns-in-EndTurn-Between
returns-in-EndTurn-Between g c = refused_at c.args.line _ (run_of g.L.Language g.S.Store c.args.self.now) _ c.in-EndTurn-Between.is-0 (ap (phase_of g.L.Language) c.in-EndTurn-Between.is-1) refl

pub returns-in-Next-default : goal.returns-in-Next-default
returns-in-Next-default g c = act_moment c.args.line _ (run_of g.L.Language g.S.Store c.args.self.now) c.step_of_thread.result _ c.in-Next-default.is-0 refl c.step_of_thread.ensures

pub returns-in-Read-default : goal.returns-in-Read-default
returns-in-Read-default g c = act_moment c.args.line _ (run_of g.L.Language g.S.Store c.args.self.now) c.step_of_thread-in-Read-default.result _ c.in-Read-default.is-0 refl c.step_of_thread-in-Read-default.ensures

pub returns-in-Write-default : goal.returns-in-Write-default
returns-in-Write-default g c = act_moment c.args.line _ (run_of g.L.Language g.S.Store c.args.self.now) c.step_of_thread-in-Write-default.result _ c.in-Write-default.is-0 refl c.step_of_thread-in-Write-default.ensures

pub returns-in-Update-default : goal.returns-in-Update-default
returns-in-Update-default g c = act_moment c.args.line _ (run_of g.L.Language g.S.Store c.args.self.now) c.step_of_thread-in-Update-default.result _ c.in-Update-default.is-0 refl c.step_of_thread-in-Update-default.ensures

pub returns-in-Keep-default : goal.returns-in-Keep-default
returns-in-Keep-default g c = act_moment c.args.line _ (run_of g.L.Language g.S.Store c.args.self.now) c.step_of_thread-in-Keep-default.result _ c.in-Keep-default.is-0 refl c.step_of_thread-in-Keep-default.ensures
