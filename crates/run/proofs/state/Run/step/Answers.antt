use Rattle.std.proofs.Common.{sym, refl, ◌∙◌}
use Rattle.std.proofs.lemmas.Bool.{cond-true, cond-false}
use Rattle.run.specs.Models.{run_of}
use Rattle.run.proofs.Lifts.{agrees_by}
use Rattle.run.proofs.Moments.{line_by_range}
use Rattle.run.proofs.state.Run.step.Goals as goal

pub returns-then-not-in_range : goal.returns-then-not-in_range
returns-then-not-in_range g c =
    let m = run_of g.L.Language g.S.Store c.args.self.now in
    agrees_by m _ m (line_by_range c.args.line m ∙ cond-false _ _ _ (sym c.in_range.ensures ∙ c.if-not-in_range.true)) (refl, refl)

pub returns : goal.returns
returns g c =
    let m = run_of g.L.Language g.S.Store c.args.self.now in
    agrees_by m _ _ (line_by_range c.args.line m ∙ cond-true _ _ _ (sym c.in_range.ensures ∙ c.if-not-in_range.false)) c.at_moment.ensures
