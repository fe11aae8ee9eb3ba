use Rattle.std.proofs.Common.{ap, ◌∙◌, subst, arith}
use Rattle.lines.specs.Spelling.{spelled}
use Rattle.rules.specs.Models.{nobody, thread_at}
use Rattle.run.specs.Models.{run_of}
use Rattle.jobs.specs.Texts.{added}
use Rattle.jobs.proofs.Texts.{none_yet, one_more, all_there}
use Rattle.judge.specs.Reports.{view_line}
use Rattle.judge.proofs.Ends.{view_short}
use Rattle.judge.proofs.Lengths.{Narrow}
use Rattle.judge.proofs.account.add_views.Goals as goal

pub loop-i-init : goal.loop-i-init
loop-i-init g c =
    let r = run_of g.L.Language g.S.Store c.args.run.now in
    none_yet (λ i k. view_line r.locations i k.views.cur) r.threads 52 c.args.text.now.bytes c.args.text.now.few

pub loop-i-preserved : goal.loop-i-preserved
loop-i-preserved g c =
    let r = run_of g.L.Language g.S.Store c.args.run.now in
    let i = c.loop-i.i in
    let v = (thread_at r i).views.cur in
    let is = c.view_numbers.ensures.value in
    let short = view_short r.locations i v (omega arith) (omega (arith, c.thread_count-i-end.ensures.few)) (subst Narrow is c.view_numbers.ensures.narrow) in
    one_more (λ i k. view_line r.locations i k.views.cur) r.threads 52 c.args.text.now.bytes i c.loop-i.text.bytes c.loop-i.invariant nobody _
    (omega (arith, c.thread_count-i-end.ensures.value)) short (c.line.ensures ∙ ap (λ ns. added c.loop-i.text.bytes (spelled 99 ns)) (c.as_slice.ensures.value ∙ is))

pub returns : goal.returns
returns g c =
    let r = run_of g.L.Language g.S.Store c.args.run.now in
    let all = all_there (λ i k. view_line r.locations i k.views.cur) r.threads 52 c.args.text.now.bytes c.loop-i.i c.loop-i.text.bytes c.loop-i.invariant (omega (arith, c.thread_count-i-end.ensures.value)) in
    record { after = all.0; short = omega (arith, all.1, c.thread_count-i-end.ensures.few) }
