use Rattle.std.proofs.Common.{◌≡◌, ◌<◌, length, arith, sym, ap, ◌∙◌}
use Rattle.std.proofs.lemmas.List.{get_or_default}
use Rattle.std.proofs.lemmas.List.Filters.{FiltersInPlace-more_set, FiltersInPlace-more_no}
use Rattle.bounded.proofs.Kept.{front_stays}
use Rattle.bounded.proofs.to_front.Goals.{then-chooses, else-chooses}
use Rattle.bounded.proofs.to_front.Goals as goal

pub loop-k-init : goal.loop-k-init
loop-k-init g c = front_stays (g.C.Choice.chooses c.args.choice) c.args.elements.now c.chosen_front-front.result c.chosen_front-front.ensures

pub loop-k-preserved : goal.loop-k-preserved
loop-k-preserved g c =
    let p = g.C.Choice.chooses c.args.choice in
    let x = c.index-elements-k.result in
    let less : c.loop-k.k < length c.loop-k.elements = omega arith in
    elim c.if-chooses.branch [
      | then-chooses w ↦
          let y = w.index-elements-k-then-chooses.result in
          let same : y ≡ x = w.index-elements-k-then-chooses.is ∙ get_or_default c.loop-k.elements c.loop-k.k y x less ∙ sym c.index-elements-k.is in
          rw (w.elements-is, w.kept-is) (FiltersInPlace-more_set {p = p} c.loop-k.invariant less (ap p same ∙ sym c.chooses.ensures ∙ w.if-chooses.true) w.index-elements-k-then-chooses.is)
      | else-chooses w ↦
          rw (w.elements-is, w.kept-is) (FiltersInPlace-more_no {p = p} c.loop-k.invariant less (sym c.chooses.ensures ∙ w.if-chooses.false) c.index-elements-k.is)
    ]
