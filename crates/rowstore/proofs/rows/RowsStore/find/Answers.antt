use Rattle.std.proofs.Common.{◌≡◌, ap, ◌∙◌, arith}
use Rattle.stores.specs.Memory.{find}
use Rattle.stores.proofs.StoreLaws.{find_inside, find_law}
use Rattle.rowstore.specs.Entries.{number_at}
use Rattle.rowstore.specs.Tables.{row_of}
use Rattle.rowstore.proofs.Orders.{number_at_ordered}
use Rattle.rowstore.proofs.rows.RowsStore.find.Goals as goal

pub returns : goal.returns
returns c =
    let s = c.args.self.now in
    let ms = s.arrivals.messages in
    let x = c.args.location in
    let t = c.args.end in
    let e : c.find.result ≡ find x t ms = c.find.ensures ∙ ap (number_at x t) (c.row.ensures ∙ s.indexed (row_of x) (omega arith)) ∙ number_at_ordered x t ms in
    record { value = e; inside = find_inside x t ms _ e; exact = find_law x t ms _ e }
