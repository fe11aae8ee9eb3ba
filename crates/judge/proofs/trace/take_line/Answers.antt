use Rattle.std.proofs.Common.{Err, ap, ◌∙◌}
use Rattle.std.proofs.lemmas.Result.{err_from_is_err_and}
use Rattle.lines.specs.Families.{reads}
use Rattle.lines.specs.TraceLines.{trace_lines}
use Rattle.lines.proofs.Familiar.{was_read, was_refused}
use Rattle.run.specs.Models.{run_of}
use Rattle.judge.proofs.TraceSteps.{not_read, not_accepted, accepted}
use Rattle.judge.proofs.trace.take_line.Goals as goal

pub returns-in_err-line : goal.returns-in_err-line
returns-in_err-line g c =
    let o = reads (trace_lines c.args.scope.threads c.args.scope.locations) c.args.reader.now.rest.now in
    let p = err_from_is_err_and c.from_residual.result c.from_residual.ensures.1 in
    record {
      value = not_read o c.in_err-line.field-0.0 (run_of g.L.Language g.S.Store c.args.run.now) c.from_residual.result
          (was_refused o c.in_err-line.field-0.0 c.in_err-line.ensures.value) (p.1 ∙ ap Err p.2);
      left = c.in_err-line.ensures.left;
    }

pub returns-in_err-step : goal.returns-in_err-step
returns-in_err-step g c =
    let bs = c.args.reader.now.rest.now in
    let o = reads (trace_lines c.args.scope.threads c.args.scope.locations) bs in
    let rest = c.read.new.reader.rest.now in
    let p = err_from_is_err_and c.from_residual-in_err-step.result c.from_residual-in_err-step.ensures.1 in
    record {
      value = not_accepted o c.in_ok-line.line rest (run_of g.L.Language g.S.Store c.args.run.now)
          (was_read o c.in_ok-line.line bs rest c.in_ok-line.ensures.value c.in_ok-line.ensures.left)
          c.step.result (run_of g.L.Language g.S.Store c.step.new.self) c.from_residual-in_err-step.result c.in_err-step.field-0.0
          c.step.ensures c.in_err-step.was (p.1 ∙ ap Err p.2);
      left = c.in_ok-line.ensures.left;
    }

pub returns : goal.returns
returns g c =
    let bs = c.args.reader.now.rest.now in
    let o = reads (trace_lines c.args.scope.threads c.args.scope.locations) bs in
    let rest = c.read.new.reader.rest.now in
    record {
      value = accepted o c.in_ok-line.line rest (run_of g.L.Language g.S.Store c.args.run.now)
          (was_read o c.in_ok-line.line bs rest c.in_ok-line.ensures.value c.in_ok-line.ensures.left)
          c.step.result (run_of g.L.Language g.S.Store c.step.new.self) c.step.ensures c.in_ok-step.was;
      left = c.in_ok-line.ensures.left;
    }
