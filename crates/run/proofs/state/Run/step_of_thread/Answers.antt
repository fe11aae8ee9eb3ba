use Rattle.std.proofs.Common.{Ok, Err, ap, sym, ◌∙◌, refl}
use Rattle.std.proofs.lemmas.Result.{err_from_is_err_and}
use Rattle.run.specs.Models.{run_of, line_of}
use Rattle.run.specs.Moments.{closing_of}
use Rattle.run.proofs.Moments.{acts_by}
use Rattle.run.proofs.state.Run.step_of_thread.Goals as goal

pub returns-in_err-closing : goal.returns-in_err-closing
returns-in_err-closing g c =
    let run = c.args.self.now in
    let p = err_from_is_err_and c.from_residual.result c.from_residual.ensures.1 in
    acts_by g.L.Language (run_of g.L.Language g.S.Store run) c.args.line run.phase (Err c.in_err-closing.field-0.0) c.from_residual.result _
    (ap closing_of (sym c.in_err-closing.was) ∙ c.may_act.ensures) (p.1 ∙ ap Err p.2, refl)

pub returns : goal.returns
returns g c =
    let run = c.args.self.now in
    acts_by g.L.Language (run_of g.L.Language g.S.Store run) c.args.line run.phase (Ok (line_of c.in_ok-closing.closing)) c.act.result _ (ap closing_of (sym c.in_ok-closing.was) ∙ c.may_act.ensures) c.act.ensures
