use Rattle.run.specs.Models.{run_of}
use Rattle.jobs.proofs.Texts.{Added}
use Rattle.judge.specs.Reports.{view_line}
use Rattle.judge.proofs.account.add_views.Given as goal

abbrev pub invariant-loop-i : goal.invariant-loop-i
invariant-loop-i g l =
    let r = run_of g.L.Language g.S.Store l.run in
    Added (λ i k. view_line r.locations i k.views.cur) r.threads 52 l.initial.text.bytes l.i l.text.bytes
