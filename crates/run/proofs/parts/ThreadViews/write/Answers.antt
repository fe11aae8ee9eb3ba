use Rattle.std.proofs.Common.{length, get_or, sym, ap, ◌∙◌, subst, length-set}
use Rattle.stores.specs.declared.view.View.{View}
use Rattle.stores.specs.Views.{zero_view, join, Below}
use Rattle.stores.proofs.ViewLaws.{join_left}
use Rattle.rules.specs.Threads.{write_rel}
use Rattle.run.specs.Orders.{AllBelow}
use Rattle.run.proofs.ViewOrders.{join_keeps, rel_below, all_below_trans, all_below_set}
use Rattle.run.proofs.parts.ThreadViews.write.Goals as goal

pub invariant_of-self : goal.invariant_of-self
invariant_of-self c =
    let s = c.args.self.now in
    let one = c.single-one.result in
    let x = c.args.location in
    let now = c.join-cur.result in
    let cur = c.join-cur.ensures.value in
    let rel = c.join.ensures.value ∙ ap (λ (v : View). join v one) c.released.ensures in
    let written = c.released_into-released.ensures ∙ (λ i. write_rel c.args.mode (rel i) (cur i)) in
    let below = rel_below c.args.mode (get_or s.rel x zero_view) s.cur one (s.rel_cur x) in
    record {
      eight = ap length c.put.ensures ∙ length-set s.rel x _ ∙ s.eight;
      cur_acq = subst (λ (v : View). Below v c.join-acq.result) (sym cur) (subst (Below (join s.cur one)) (sym c.join-acq.ensures.value) (join_keeps s.cur s.acq one s.cur_acq));
      rel_cur =
          subst (λ rs. AllBelow rs now) (sym c.put.ensures)
          (all_below_set s.rel x _ now (all_below_trans s.rel s.cur now s.rel_cur (subst (Below s.cur) (sym cur) (join_left s.cur one)))
          (subst (λ (v : View). Below v now) (sym written) (subst (Below _) (sym cur) below)));
    }
