use Rattle.std.proofs.Common.{sym, refl, ◌∙◌}
use Rattle.std.proofs.lemmas.Bool.{cond-false}
use Rattle.run.specs.Models.{run_of, phase_of}
use Rattle.run.specs.Turns.{whose}
use Rattle.run.proofs.Lifts.{agrees_by, ended}
use Rattle.run.proofs.state.Run.end.Goals as goal

pub returns-then-not-owes_none : goal.returns-then-not-owes_none
returns-then-not-owes_none g c = agrees_by _ _ _ (cond-false _ _ _ (sym c.owes_none.ensures ∙ c.if-not-owes_none.true)) (refl, refl)

pub returns : goal.returns
returns g c =
    let run = c.args.self.now in
    ended g.L.Language g.S.Store run.scope.locations run.scope.threads run.threads run.shared (phase_of g.L.Language run.phase) (whose run.phase) (run_of g.L.Language g.S.Store c.undo.new.self)
    (sym c.owes_none.ensures ∙ c.if-not-owes_none.false) c.undo.ensures
