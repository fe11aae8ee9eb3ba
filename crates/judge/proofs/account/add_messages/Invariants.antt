use Rattle.run.specs.Models.{run_of}
use Rattle.run.specs.Reports.{owing_thread}
use Rattle.jobs.proofs.Texts.{Added}
use Rattle.judge.specs.Reports.{message_line}
use Rattle.judge.proofs.account.add_messages.Given as goal

abbrev pub invariant-loop-k : goal.invariant-loop-k
invariant-loop-k g l =
    let r = run_of g.L.Language g.S.Store l.run in
    Added (λ k m. message_line m (owing_thread k r.threads)) r.memory 24 l.initial.text.bytes l.k l.text.bytes
