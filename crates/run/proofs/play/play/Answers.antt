use Rattle.std.proofs.Common.{◌≡◌, map, take, sym, ap, ◌∙◌, arith}
use Rattle.std.proofs.lemmas.List.{take_all, length-take-le}
use Rattle.std.proofs.lemmas.Bool.{cond-true, cond-false}
use Rattle.rules.specs.Models.{Run}
use Rattle.rules.specs.Rules.{Tried, went, made, played, accepted_count}
use Rattle.run.specs.Models.{run_of, tried}
use Rattle.run.specs.Plays.{Outcome, plays}
use Rattle.run.proofs.Played.{played_more, count_more, count_bound, obeys}
use Rattle.run.proofs.play.play.Goals as goal
use Rattle.run.proofs.play.play.Goals.{then-is_ok, else-is_ok}

pub overflow_add-accepted : goal.overflow_add-accepted
overflow_add-accepted g c =
    let lines = c.args.lines.now in
    let i = c.loop-line.line-index in
    let bound = count_bound (run_of g.L.Language g.S.Store c.in_ok-run.run') (take i lines) in
    let many = c.loop-line.invariant.many in
    omega (arith, length-take-le i lines)

pub loop-line-preserved : goal.loop-line-preserved
loop-line-preserved g c =
    let m = run_of g.L.Language g.S.Store in
    let first = m c.in_ok-run.run' in
    let lines = c.args.lines.now in
    let i = c.loop-line.line-index in
    let more = count_more first (m c.loop-line.run) (m c.step.new.self) lines i c.loop-line.accepted _ c.step.result c.loop-line-test.true c.loop-line.invariant.run c.loop-line.invariant.many c.step.ensures in
    record {
      run = played_more first (m c.loop-line.run) (m c.step.new.self) lines i _ c.step.result c.loop-line-test.true c.loop-line.invariant.run c.step.ensures;
      many = elim c.if-is_ok.branch [
        | then-is_ok w ↦ w.accepted-is ∙ sym (cond-true _ _ _ (sym c.is_ok.ensures.value ∙ w.if-is_ok.true)) ∙ more
        | else-is_ok w ↦ w.accepted-is ∙ sym (cond-false _ _ _ (sym c.is_ok.ensures.value ∙ w.if-is_ok.false)) ∙ more
      ];
    }

pub returns : goal.returns
returns g c =
    let lines = c.args.lines.now in
    let m = run_of g.L.Language g.S.Store in
    let first = made (map g.L.Language.behaves c.args.threads) c.args.n c.args.locations (g.S.Store.capacity c.args.store) in
    let start : went (m c.in_ok-run.run') ≡ first = sym (ap (tried g.L.Language g.S.Store) c.in_ok-run.was) ∙ c.new.ensures in
    let all : take c.loop-line.line-index lines ≡ lines = take_all _ _ c.loop-line-test.false in
    let run : m c.loop-line.run ≡ played (m c.in_ok-run.run') lines = c.loop-line.invariant.run ∙ ap (played (m c.in_ok-run.run')) all in
    let many : c.loop-line.accepted ≡ accepted_count (m c.in_ok-run.run') lines = c.loop-line.invariant.many ∙ ap (accepted_count (m c.in_ok-run.run')) all in
    let end : Tried Outcome = went (record { run = m c.loop-line.run; accepted = c.loop-line.accepted }) in
    let ends : end ≡ plays first lines =
    (λ i. went (record { run = run i; accepted = many i })) ∙ ap (λ (t : Tried Run). plays t lines) start in
    record { ends = ends; law = obeys (map g.L.Language.behaves c.args.threads) c.args.n c.args.locations (g.S.Store.capacity c.args.store) lines _ (g.met.S.Store.small c.args.store) ends }
