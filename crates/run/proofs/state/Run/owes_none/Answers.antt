use Rattle.std.proofs.Common.{arith}
use Rattle.run.proofs.Lifts.{owes}
use Rattle.run.proofs.state.Run.owes_none.Goals as goal

pub returns : goal.returns
returns g c =
    let run = c.args.self.now in
    owes g.L.Language g.S.Store run.scope.locations run.scope.threads run.threads c.whose.result _ c.index-self-whose.result c.none.result c.whose.ensures.value (omega arith) (omega arith) c.none.ensures
