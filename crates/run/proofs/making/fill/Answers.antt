use Rattle.std.proofs.Common.{◌≡◌, ℕ, true, false, leb, min, Err, sym, ap, ◌∙◌, arith}
use Rattle.std.proofs.lemmas.Result.{err_from_is_err_and}
use Rattle.std.proofs.lemmas.Bool.{leb-true, cond-true, cond-false}
use Rattle.rules.specs.Rules.{initials}
use Rattle.run.proofs.Makings.{only_full, fill_full, fill_left, fill_done}
use Rattle.run.proofs.making.fill.Goals as goal

pub returns-in_err-add : goal.returns-in_err-add
returns-in_err-add g c =
    let p = err_from_is_err_and c.from_residual.result c.from_residual.ensures.1 in
    let cap = c.loop-x.invariant.1 ∙ c.keep.ensures.same in
    let full : leb c.args.locations (g.S.Store.capacity c.args.store.now) ≡ false =
    ap (leb c.args.locations) (sym cap) ∙ fill_full (g.S.Store.capacity c.loop-x.store) c.loop-x.x (g.S.Store.held c.loop-x.store) c.add.result c.loop-x.invariant.0 c.add.ensures.value c.args.locations _ c.loop-x-test.true c.in_err-add.was in
    let err = p.1 ∙ ap Err (only_full p.0) in
    let left = fill_left (g.S.Store.capacity c.loop-x.store) c.loop-x.x (g.S.Store.held c.loop-x.store) c.add.result c.loop-x.invariant.0 c.add.ensures.value c.args.locations _ _ c.loop-x-test.true c.in_err-add.was (g.met.S.Store.bounded c.loop-x.store) in
    record {
      value = err ∙ sym (cond-false _ _ _ full);
      after = c.add.ensures.after ∙ left ∙ ap (λ (n : ℕ). initials (min c.args.locations n)) cap;
      same = c.add.ensures.same ∙ cap;
    }

pub returns : goal.returns
returns g c =
    let cap = c.loop-x.invariant.1 ∙ c.keep.ensures.same in
    let fits = g.met.S.Store.bounded c.loop-x.store in
    let all : c.loop-x.x ≡ c.args.locations = omega arith in
    let room : leb c.args.locations (g.S.Store.capacity c.args.store.now) ≡ true =
    ap (leb c.args.locations) (sym cap) ∙ fill_done (g.S.Store.capacity c.loop-x.store) c.loop-x.x c.args.locations (g.S.Store.held c.loop-x.store) c.loop-x.invariant.0 all fits in
    let fit = leb-true c.args.locations (g.S.Store.capacity c.args.store.now) room in
    let least : c.loop-x.x ≡ min c.args.locations (g.S.Store.capacity c.args.store.now) = omega arith in
    record {
      value = sym (cond-true _ _ _ room);
      after = c.loop-x.invariant.0 ∙ ap initials least;
      same = cap;
    }
