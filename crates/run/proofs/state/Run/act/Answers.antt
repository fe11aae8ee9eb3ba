use Rattle.std.proofs.Common.{arith}
use Rattle.rules.specs.Rules.{act_result}
use Rattle.run.specs.Models.{line_of, phase_of}
use Rattle.run.proofs.Lifts.{lift_run}
use Rattle.run.proofs.state.Run.act.Goals as goal

pub returns : goal.returns
returns g c =
    let run = c.args.self.now in
    lift_run g.L.Language g.S.Store run.scope.locations run.scope.threads run.threads run.shared c.act.new.shared (phase_of g.L.Language run.phase) c.whose.result _ c.index-self-turn.result c.act.new.thread
    (λ n. act_result run.scope.locations n (line_of c.args.closing) c.args.line) c.act.result c.whose.ensures.value (omega arith) (omega arith) c.act.ensures
