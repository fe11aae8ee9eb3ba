use Rattle.run.proofs.Lifts.{undone_showing}
use Rattle.run.proofs.state.Run.undo.Goals as goal

pub returns-in-Showing : goal.returns-in-Showing
returns-in-Showing g c =
    let run = c.args.self.now in
    undone_showing g.L.Language g.S.Store run.scope.locations run.scope.threads run.threads run.shared c.put_back.new.shared run.phase _ c.whose-i.result c.in-Showing.saved c.index-self-i.result c.put_back.new.thread
    c.in-Showing.is c.whose-i.ensures.value c.whose-i.ensures.there c.put_back.ensures
