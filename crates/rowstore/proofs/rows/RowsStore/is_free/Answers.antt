use Rattle.std.proofs.Common.{◌≡◌, ap, ◌∙◌, arith}
use Rattle.stores.specs.Memory.{is_free}
use Rattle.stores.proofs.StoreLaws.{is_free_law}
use Rattle.rowstore.specs.Entries.{clear}
use Rattle.rowstore.specs.Tables.{row_of}
use Rattle.rowstore.proofs.Orders.{clear_ordered}
use Rattle.rowstore.proofs.rows.RowsStore.is_free.Goals as goal

pub returns : goal.returns
returns c =
    let s = c.args.self.now in
    let ms = s.arrivals.messages in
    let x = c.args.location in
    let p = c.args.span in
    let e : c.is_free.result ≡ is_free x p ms = c.is_free.ensures ∙ ap (clear x p) (c.row.ensures ∙ s.indexed (row_of x) (omega arith)) ∙ clear_ordered x p ms in
    record { value = e; exact = is_free_law x p ms _ e }
