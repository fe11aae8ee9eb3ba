use Rattle.std.proofs.Common.{◌≡◌, ℕ, ◌+◌, ◌<◌, ◌≤◌, List, [], ◌∷◌, length, get_or, Some, ap, ◌∙◌, subst, arith}
use Rattle.std.specs.List.{slice_get}
use Rattle.std.proofs.lemmas.Option.{slice_get-get_or}
use Rattle.lines.specs.Spelling.{spelled}
use Rattle.std.proofs.lemmas.Option.{none-some}
use Rattle.lines.proofs.Options.{some_same}
use Rattle.run.specs.declared.parts.Print.{Print}
use Rattle.run.specs.Models.{run_of, print_of}
use Rattle.jobs.specs.declared.text.Text.{Text}
use Rattle.jobs.specs.Texts.{added}
use Rattle.jobs.proofs.Lengths.{fields_within}
use Rattle.jobs.proofs.Texts.{Added, none_yet, one_more, all_there}
use Rattle.judge.proofs.account.add_prints.Goals as goal

abbrev line : ℕ × ℕ → List ℕ
line p = spelled 112 (p.0 ∷ p.1 ∷ [])

line_short : (i v : ℕ) → i < 4 → v < 65536 → length (line (i, v)) ≤ 10
line_short i v a b = let s = fields_within (1 ∷ 5 ∷ []) (i ∷ v ∷ []) (omega arith, omega arith, omega arith, (omega arith, omega arith, omega arith, tt)) in omega arith

pub loop-k-init : goal.loop-k-init
loop-k-init g c =
    let r = run_of g.L.Language g.S.Store c.args.run.now in
    none_yet (λ _ p. spelled 112 (p.0 ∷ p.1 ∷ [])) r.log 10 c.args.text.now.bytes c.args.text.now.few

pub loop-k-preserved : goal.loop-k-preserved
loop-k-preserved g c =
    let r = run_of g.L.Language g.S.Store c.args.run.now in
    let k = c.loop-k.k in
    let t = c.loop-k.text.bytes in
    let here : k < length r.log = omega (arith, c.print_count-k-end.ensures.value) in
    let step : (p : Print) (next : List ℕ) → Some (print_of p) ≡ slice_get r.log k → p.value < 65536 → next ≡ added t (line (print_of p)) → Added (λ _ p. line p) r.log 10 c.args.text.now.bytes (k + 1) next =
    λ p next e small after.
    let is : print_of p ≡ get_or r.log k (0, 0) = let x : Some (print_of p) ≡ Some (get_or r.log k (0, 0)) = e ∙ slice_get-get_or r.log k (0, 0) here in some_same x in
    let few = c.requires.printers k in
    let thread : p.thread ≡ (get_or r.log k (0, 0)).0 = ap (λ (q : ℕ × ℕ). q.0) is in
    one_more (λ _ p. line p) r.log 10 c.args.text.now.bytes k t c.loop-k.invariant (0, 0) next here
    (subst (λ q. length (line q) ≤ 10) is (line_short p.thread p.value (omega arith) small)) (after ∙ ap (λ q. added t (line q)) is) in
    elim c.match-print.branch [
      | goal.in-Some w ↦ step w.in-Some.print _ w.in-Some.ensures (omega arith) (ap (λ (x : Text). x.bytes) w.text-is ∙ w.line.ensures)
      | goal.in_default w ↦ absurd (none-some _ (w.in_default.ensures ∙ slice_get-get_or r.log k (0, 0) here))
    ]

pub returns : goal.returns
returns g c =
    let r = run_of g.L.Language g.S.Store c.args.run.now in
    let all = all_there (λ _ p. spelled 112 (p.0 ∷ p.1 ∷ [])) r.log 10 c.args.text.now.bytes c.loop-k.k c.loop-k.text.bytes c.loop-k.invariant (omega (arith, c.print_count-k-end.ensures.value)) in
    record { after = all.0; short = omega (arith, all.1, c.print_count-k-end.ensures.few) }
