use Rattle.std.proofs.Common.{◌≡◌, ap, ◌∙◌, arith}
use Rattle.stores.specs.Memory.{greatest_end}
use Rattle.stores.proofs.StoreLaws.{greatest_end_law}
use Rattle.rowstore.specs.Entries.{last_end}
use Rattle.rowstore.specs.Tables.{row_of}
use Rattle.rowstore.proofs.Orders.{last_end_ordered}
use Rattle.rowstore.proofs.rows.RowsStore.greatest_end.Goals as goal

pub returns : goal.returns
returns c =
    let s = c.args.self.now in
    let ms = s.arrivals.messages in
    let x = c.args.location in
    let e : c.greatest_end.result ≡ greatest_end x ms = c.greatest_end.ensures ∙ ap (last_end x) (c.row.ensures ∙ s.indexed (row_of x) (omega arith)) ∙ last_end_ordered x ms in
    record { value = e; exact = greatest_end_law x ms _ e }
