use Rattle.std.proofs.Common.{sym, ap, ◌∙◌, subst}
use Rattle.rowstore.specs.Entries.{earlier, WellFormed}
use Rattle.rowstore.proofs.Placed.{formed_earlier}
use Rattle.rowstore.proofs.row.Row.keep.Goals as goal

pub invariant_of-self : goal.invariant_of-self
invariant_of-self c =
    subst WellFormed (sym c.retain.ensures) (formed_earlier c.args.n c.self.inside.entries c.self.invariant)

pub returns : goal.returns
returns c = c.retain.ensures ∙ ap (earlier c.args.n) c.self.view_is
