use Rattle.std.proofs.Common.{◌≡◌, ◌+◌, [], drop, ap, sym, ◌∙◌, subst}
use Rattle.std.proofs.lemmas.List.{at_drop_more, length-set}
use Rattle.stores.specs.declared.message.Message.{Message}
use Rattle.rowstore.specs.Tables.{only_earlier_in, only_earlier}
use Rattle.rowstore.proofs.Stored.{done_once, done_more}
use Rattle.rowstore.proofs.index.Index.keep.Goals as goal
use Rattle.rowstore.proofs.index.Index.keep.Goals.{then-not-done-y, else-not-done-y}

-- what stands past the last message
abbrev filler : Message
filler = record { location = 0; span = record { from = 0; to = 0 }; value = 0; view = record { ends = [] } }

pub loop-message-preserved : goal.loop-message-preserved
loop-message-preserved c =
    let n = c.args.n in
    let before = c.loop-message.self in
    let inv = c.loop-message.invariant in
    let front = at_drop_more (λ ms. only_earlier n ms before) c.args.dropped.now c.loop-message.message-index filler c.loop-message-test.true in
    elim c.if-not-done-y.branch [
      | then-not-done-y w ↦
          rw (w.self-is, w.done-is, w.keep_at.ensures, c.row_of-y.ensures) (length-set _ _ _ ∙ inv.0, done_more n _ c.loop-message.done before inv.1, sym front ∙ inv.2)
      | else-not-done-y w ↦
          let passed = subst (λ y. only_earlier_in y n before ≡ before) c.row_of-y.ensures (done_once n c.row_of-y.result before (inv.1 c.row_of-y.result w.if-not-done-y.false)) in
          rw (w.self-is, w.done-is) (inv.0, inv.1, ap (only_earlier n (drop (c.loop-message.message-index + 1) c.args.dropped.now)) (sym passed) ∙ sym front ∙ inv.2)
    ]
