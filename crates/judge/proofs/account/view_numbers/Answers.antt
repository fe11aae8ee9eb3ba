use Rattle.std.proofs.Common.{◌≡◌, ◌+◌, [], ◌∷◌, ◌++◌, length, sym, ap, ◌∙◌, add-one, subst, arith}
use Rattle.std.proofs.lemmas.Bool.{cond-true, lt-ltb}
use Rattle.stores.specs.Views.{at}
use Rattle.rules.specs.Models.{thread_at}
use Rattle.run.specs.Models.{run_of}
use Rattle.judge.specs.Reports.{first_ends}
use Rattle.judge.proofs.Ends.{ends_length}
use Rattle.judge.proofs.Lengths.{Narrow, narrow_push}
use Rattle.judge.proofs.account.view_numbers.Goals as goal

pub loop-x-init : goal.loop-x-init
loop-x-init g c = (c.from_slice-numbers.ensures, subst Narrow (sym c.from_slice-numbers.ensures) (narrow_push [] c.args.thread (omega arith) (λ k. omega arith)))

pub loop-x-preserved : goal.loop-x-preserved
loop-x-preserved g c =
    let cur = (thread_at (run_of g.L.Language g.S.Store c.args.run.now) c.args.thread).views.cur in
    let x = c.loop-x.x in
    let numbers = c.loop-x.numbers in
    let ends = ends_length x cur in
    let same : length numbers ≡ length (c.args.thread ∷ first_ends x cur) = ap length c.loop-x.invariant.0 in
    let few = c.location_count-x-end.ensures.few in
    let pushed : c.push.new.self ≡ numbers ++ (c.seen.result ∷ []) = c.push.ensures.after ∙ cond-true _ _ _ (lt-ltb (length numbers) 9 (omega arith)) in
    let more : first_ends (x + 1) cur ≡ first_ends x cur ++ (at cur x ∷ []) = ap (λ n. first_ends n cur) (add-one x) in (
      pushed ∙ (λ i. c.loop-x.invariant.0 i ++ (c.seen.ensures i ∷ [])) ∙ ap (λ es. c.args.thread ∷ es) (sym more),
      subst Narrow (sym pushed) (narrow_push numbers c.seen.result (omega arith) c.loop-x.invariant.1),
    )

pub returns : goal.returns
returns g c =
    let cur = (thread_at (run_of g.L.Language g.S.Store c.args.run.now) c.args.thread).views.cur in
    let e : c.loop-x.x ≡ (run_of g.L.Language g.S.Store c.args.run.now).locations = omega (arith, c.location_count-x-end.ensures.value) in
    record { value = c.loop-x.invariant.0 ∙ ap (λ n. c.args.thread ∷ first_ends n cur) e; narrow = c.loop-x.invariant.1 }
