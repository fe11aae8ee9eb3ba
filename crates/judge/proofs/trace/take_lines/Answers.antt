use Rattle.std.proofs.Common.{◌+◌, Ok, Err, sym, refl, ap, ◌∙◌, subst, arith}
use Rattle.lines.specs.declared.refusal.LineRefusal.{LineRefusal}
use Rattle.lines.proofs.Walked.{walk_end}
use Rattle.run.specs.Models.{run_of}
use Rattle.judge.specs.declared.fault.Fault.{Fault}
use Rattle.judge.specs.Traces.{Progress, one_line, run_left, Follows}
use Rattle.judge.proofs.TraceSteps.{one_more, no_more, line_shorter}
use Rattle.judge.proofs.trace.take_lines.Goals as goal

pub loop-reader-smaller : goal.loop-reader-smaller
loop-reader-smaller g c =
    let m = run_of g.L.Language g.S.Store in
    (one_more c.args.scope.threads c.args.scope.locations (omega arith) (omega arith) c.loop-reader.count (m c.loop-reader.run) (m c.take_line.new.run)
    c.loop-reader.reader.rest.now c.take_line.new.reader.rest.now (omega arith) c.in-Ok.ensures.value c.in-Ok.ensures.left).less

pub loop-reader-preserved : goal.loop-reader-preserved
loop-reader-preserved g c =
    let m = run_of g.L.Language g.S.Store in
    let more = one_more c.args.scope.threads c.args.scope.locations (omega arith) (omega arith) c.loop-reader.count (m c.loop-reader.run) (m c.take_line.new.run)
    c.loop-reader.reader.rest.now c.take_line.new.reader.rest.now (omega arith) c.in-Ok.ensures.value c.in-Ok.ensures.left in
    (omega (arith, more.less, c.loop-reader.invariant.0), sym more.go ∙ c.loop-reader.invariant.1, sym more.reach ∙ c.loop-reader.invariant.2)

pub returns-then-left-eq0 : goal.returns-then-left-eq0
returns-then-left-eq0 g c =
    let m = run_of g.L.Language g.S.Store in
    let n = c.args.scope.threads in
    let l = c.args.scope.locations in
    let s : Progress = record { count = c.loop-reader.count; run = m c.loop-reader.run } in
    let end = walk_end (one_line n l) (line_shorter n l (omega arith) (omega arith)) s (c.loop-reader.count + 1) c.loop-reader.reader.rest.now (omega arith) in
    let last = run_left n l (m c.args.run.now) c.args.section.now in
    record {
      value = subst (λ o. Follows o last (Ok c.loop-reader.count) (m c.loop-reader.run)) (sym end ∙ c.loop-reader.invariant.1) (refl, refl);
      few = omega (arith, c.loop-reader.invariant.0);
    }

pub returns-in-Err : goal.returns-in-Err
returns-in-Err g c =
    let m = run_of g.L.Language g.S.Store in
    let n = c.args.scope.threads in
    let l = c.args.scope.locations in
    let e : LineRefusal Fault = record { fault = c.in-Err.fault; line = c.loop-reader.count + 1 } in
    let stop = no_more n l (omega arith) (omega arith) c.loop-reader.count (m c.loop-reader.run) (m c.take_line.new.run)
    c.loop-reader.reader.rest.now c.in-Err.fault (omega arith) c.in-Err.ensures.value in
    let last = run_left n l (m c.args.run.now) c.args.section.now in
    record {
      value = subst (λ o. Follows o last (Err e) (m c.take_line.new.run)) (sym stop.go ∙ c.loop-reader.invariant.1)
          (refl, stop.reach ∙ ap (λ (p : Progress). p.run) c.loop-reader.invariant.2);
      few = tt;
    }
