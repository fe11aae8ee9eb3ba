use Rattle.std.proofs.Common.{Err, sym, ap, ◌∙◌}
use Rattle.std.proofs.lemmas.Result.{err_from_is_err_and, MatchResult-from_err}
use Rattle.run.specs.Models.{run_of}
use Rattle.judge.specs.Traces.{followed, run_left}
use Rattle.judge.proofs.TraceSteps.{stops, unfinished, ends, followed_reach}
use Rattle.judge.proofs.trace.follow.Goals as goal

pub returns-in_err-count : goal.returns-in_err-count
returns-in_err-count g c =
    let m = run_of g.L.Language g.S.Store in
    let o = followed c.args.scope.threads c.args.scope.locations (m c.args.run.now) c.args.section.now in
    let last = run_left c.args.scope.threads c.args.scope.locations (m c.args.run.now) c.args.section.now in
    let p = err_from_is_err_and c.from_residual.result c.from_residual.ensures.1 in
    record {
      value = stops o last (m c.take_lines.new.run) c.in_err-count.field-0.0 c.from_residual.result c.in_err-count.ensures.value (p.1 ∙ ap Err p.2);
      few = MatchResult-from_err c.from_residual.result _ _ c.from_residual.ensures.0 (λ _. tt);
    }

pub returns-then-not-is_between : goal.returns-then-not-is_between
returns-then-not-is_between g c =
    let m = run_of g.L.Language g.S.Store in
    let n = c.args.scope.threads in
    let l = c.args.scope.locations in
    let first = m c.args.run.now in
    let bs = c.args.section.now in
    record {
      value = unfinished (followed n l first bs) (run_left n l first bs) (m c.take_lines.new.run) c.in_ok-count.count c.in_ok-count.ensures.value
          (followed_reach n l first bs) (sym c.is_between.ensures ∙ c.if-not-is_between.true);
      few = tt;
    }

pub returns : goal.returns
returns g c =
    let m = run_of g.L.Language g.S.Store in
    let o = followed c.args.scope.threads c.args.scope.locations (m c.args.run.now) c.args.section.now in
    let last = run_left c.args.scope.threads c.args.scope.locations (m c.args.run.now) c.args.section.now in
    record {
      value = ends o last (m c.take_lines.new.run) c.in_ok-count.count c.in_ok-count.ensures.value (sym c.is_between.ensures ∙ c.if-not-is_between.false);
      few = c.in_ok-count.ensures.few;
    }
