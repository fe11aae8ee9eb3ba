use Rattle.std.proofs.Common.{◌≡◌, sym, ap, ◌∙◌, subst}
use Rattle.stores.specs.declared.view.View.{View}
use Rattle.stores.specs.Views.{join, Below}
use Rattle.run.specs.Orders.{acquired}
use Rattle.run.proofs.ViewOrders.{cur_after, read_ordered, read_above, all_below_trans}
use Rattle.run.proofs.parts.ThreadViews.read.Goals as goal

pub invariant_of-self : goal.invariant_of-self
invariant_of-self c =
    let s = c.args.self.now in
    let one = c.single-one.result in
    let m = c.args.view in
    let cur : c.cur_read-cur.result ≡ acquired c.args.mode (join s.cur one) m =
    c.cur_read-cur.ensures ∙ cur_after c.args.mode c.args.location c.args.end m s.cur ∙ ap (λ (v : View). acquired c.args.mode (join s.cur v) m) (sym c.single-one.ensures.value) in
    let acq : c.join-acq.result ≡ join (join s.acq one) m = c.join-acq.ensures.value ∙ ap (λ (v : View). join v m) c.join.ensures.value in
    let above : Below s.cur c.cur_read-cur.result = subst (λ (v : View). Below s.cur v) (sym cur) (read_above c.args.mode s.cur one m) in
    let below : Below (acquired c.args.mode (join s.cur one) m) c.join-acq.result =
    subst (λ (v : View). Below (acquired c.args.mode (join s.cur one) m) v) (sym acq) (read_ordered c.args.mode s.cur s.acq one m s.cur_acq) in
    record {
      eight = s.eight;
      cur_acq = subst (λ (v : View). Below v c.join-acq.result) (sym cur) below;
      rel_cur = all_below_trans s.rel s.cur _ s.rel_cur above;
    }
