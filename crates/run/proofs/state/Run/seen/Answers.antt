use Rattle.std.proofs.Common.{sym, ap, ◌∙◌, arith}
use Rattle.std.proofs.lemmas.List.{get_or_past}
use Rattle.stores.specs.Views.{at}
use Rattle.stores.proofs.ViewLaws.{at_zero}
use Rattle.rules.specs.Models as model
use Rattle.rules.specs.Models.{nobody}
use Rattle.run.specs.Models.{run_of, thread_of}
use Rattle.run.proofs.Lifts.{thread_read}
use Rattle.run.proofs.Moments.{count_is}
use Rattle.run.proofs.state.Run.seen.Goals as goal

pub returns-then-thread-threads : goal.returns-then-thread-threads
returns-then-thread-threads g c =
    let run = c.args.self.now in
    c.seen.ensures ∙ ap (λ (t : model.Thread). at t.views.cur c.args.location)
    (thread_read g.L.Language g.S.Store run.scope.locations run.scope.threads run.threads c.args.thread c.index-self-thread.result (omega arith) (omega arith))

pub returns-else-thread-threads : goal.returns-else-thread-threads
returns-else-thread-threads g c =
    let run = c.args.self.now in
    let ts = (run_of g.L.Language g.S.Store run).threads in
    let n = count_is (thread_of g.L.Language) run.scope.threads run.threads (omega arith) in
    sym (ap (λ (t : model.Thread). at t.views.cur c.args.location) (get_or_past ts c.args.thread nobody (omega arith)) ∙ at_zero c.args.location)
