use Rattle.std.proofs.Common.{List, take, sym, ap, ◌∙◌, subst}
use Rattle.stores.specs.declared.message.Message.{Message}
use Rattle.rowstore.specs.declared.index.Index.{Index}
use Rattle.rowstore.specs.Tables.{only_earlier}
use Rattle.rowstore.specs.Ordered.{Indexed}
use Rattle.rowstore.proofs.Stored.{indexed_kept}
use Rattle.rowstore.proofs.rows.RowsStore.keep.Goals as goal

pub invariant_of-self : goal.invariant_of-self
invariant_of-self c =
    let s = c.args.self.now in
    let ms = s.arrivals.messages in
    let n = c.args.n in
    let index = c.keep.ensures ∙ ap (λ (dropped : List Message). only_earlier n dropped s.index) c.since.ensures in
    let kept = subst (λ (l : List Message). Indexed l c.keep.new.self) (sym c.keep-2.ensures.after) (subst (λ (b : Index). Indexed (take n ms) b) (sym index) (indexed_kept ms s.index s.indexed n)) in
    record { indexed = kept }
