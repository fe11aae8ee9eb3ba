use Rattle.std.proofs.Common.{◌+◌, eqb, length, sym, refl, ◌∙◌}
use Rattle.std.proofs.lemmas.List.{at_drop_all}
use Rattle.jobs.specs.Sections.{first_wrong}
use Rattle.jobs.proofs.HeadSteps.{wrong_stop, wrong_more, lies_within}
use Rattle.jobs.proofs.read_head.first_wrong_section.Goals as goal

pub returns-then-not-lies_at : goal.returns-then-not-lies_at
returns-then-not-lies_at c =
    let ss = c.args.sections.now in
    let k = c.loop-k.k in
    let stop = wrong_stop ss k c.loop-k.at c.args.end _ c.loop-k-test.true c.loop-k.invariant.0 (eqb (k + 1) (length ss)) refl (sym c.if-not-lies_at.ensures) in
    record { value = sym stop ∙ c.loop-k.invariant.1; inside = c.loop-k-test.true }

pub loop-k-preserved : goal.loop-k-preserved
loop-k-preserved c =
    let ss = c.args.sections.now in
    let k = c.loop-k.k in
    let yes = sym c.if-not-lies_at.ensures in
    let more = wrong_more ss k c.loop-k.at c.args.end _ c.loop-k-test.true c.loop-k.invariant.0 (eqb (k + 1) (length ss)) refl yes in
    (lies_within c.loop-k.at _ (eqb (k + 1) (length ss)) c.args.end yes, sym more ∙ c.loop-k.invariant.1)

pub returns : goal.returns
returns c =
    record {
      value = sym (at_drop_all (λ xs. first_wrong c.loop-k.k c.loop-k.at xs c.args.end) c.args.sections.now c.loop-k.k c.loop-k-test.false) ∙ c.loop-k.invariant.1;
      inside = tt;
    }
