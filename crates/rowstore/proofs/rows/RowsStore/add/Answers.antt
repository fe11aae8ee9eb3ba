use Rattle.std.proofs.Common.{◌≡◌, ◌<◌, List, [], ◌∷◌, ◌++◌, length, sym, ap, ◌∙◌, subst}
use Rattle.std.proofs.lemmas.Bool.{cond-true, lt-ltb}
use Rattle.stores.specs.declared.message.Message.{Message}
use Rattle.rowstore.specs.declared.index.Index.{Index}
use Rattle.rowstore.specs.Tables.{with_message}
use Rattle.rowstore.specs.Ordered.{Indexed}
use Rattle.rowstore.proofs.Stored.{row_room, indexed_after, had_room}
use Rattle.rowstore.proofs.rows.RowsStore.add.Goals as goal

pub add-requires-2 : goal.add-requires-2
add-requires-2 c =
    let s = c.args.self.now in
    let ms = s.arrivals.messages in
    row_room ms s.index s.indexed (had_room ms c.add.result c.in_ok-add.was c.add.ensures.value) c.args.message.location

pub invariant_of-self-2 : goal.invariant_of-self-2
invariant_of-self-2 c =
    let s = c.args.self.now in
    let m = c.args.message in
    let ms = s.arrivals.messages in
    let less : length ms < 64 = had_room ms c.add.result c.in_ok-add.was c.add.ensures.value in
    let list : c.add.new.self.messages ≡ ms ++ m ∷ [] = c.add.ensures.after ∙ cond-true _ _ _ (lt-ltb (length ms) 64 less) in
    let index : c.add-2.new.self ≡ with_message s.index m (length ms) = c.add-2.ensures.after ∙ ap (with_message s.index m) c.len-number.ensures in
    let held = subst (λ (b : Index). Indexed (ms ++ m ∷ []) b) (sym index) (indexed_after ms s.index s.indexed m c.add-2.ensures.rows) in
    record { indexed = subst (λ (l : List Message). Indexed l c.add-2.new.self) (sym list) held }
