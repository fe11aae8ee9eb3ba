use Rattle.std.proofs.Common.{arith}
use Rattle.rules.specs.Rules.{promise_result}
use Rattle.run.specs.Models.{phase_of}
use Rattle.run.proofs.Lifts.{lift_run}
use Rattle.run.proofs.state.Run.promise.Goals as goal

pub returns : goal.returns
returns g c =
    let run = c.args.self.now in
    lift_run g.L.Language g.S.Store run.scope.locations run.scope.threads run.threads run.shared c.promise.new.shared (phase_of g.L.Language run.phase) c.whose-i.result _ c.index-self-i.result c.promise.new.thread
    (λ _. promise_result c.args.location c.args.value c.args.span) c.promise.result c.whose-i.ensures.value (omega arith) (omega arith) c.promise.ensures
