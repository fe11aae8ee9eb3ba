use Rattle.std.proofs.Common.{arith, ◌<◌, length}
use Rattle.bounded.proofs.Opened.{one_more}
use Rattle.bounded.proofs.Bounded.insert.Goals as goal

pub returns-clause-after : goal.returns-clause-after
returns-clause-after g c =
    let room : c.self.inside.len < length c.self.inside.slots = omega arith in
    let few : c.self.inside.len < g.row.N = omega arith in
    rw (c.copy_within.ensures.after, c.min-k.ensures, ← c.self.view_is) (one_more c.self.inside.slots c.self.inside.len c.args.k c.args.element g.row.N room few)
