use Rattle.std.proofs.Common.{ℕ, ◌^◌, ◌<◌, ◌≤◌, List, [], ◌∷◌, length, ap, ◌∙◌, arith}
use Rattle.lines.specs.Spelling.{spelled}
use Rattle.lines.specs.Layers.{layer_number}
use Rattle.jobs.specs.Texts.{added}
use Rattle.jobs.proofs.Lengths.{fields_within}
use Rattle.jobs.proofs.Texts.{added_then, added_fits}
use Rattle.jobs.proofs.fault.Refusal.text.Goals as goal

line_short : (a b c d : ℕ) → a < 2 ^ 64 → b < 2 ^ 64 → c < 2 ^ 64 → d < 2 ^ 64 → length (spelled 79 (a ∷ b ∷ c ∷ d ∷ [])) ≤ 90
line_short a b c d p q r s =
    let w = fields_within (20 ∷ 20 ∷ 20 ∷ 20 ∷ []) (a ∷ b ∷ c ∷ d ∷ []) (omega arith, omega arith, p, (omega arith, omega arith, q, (omega arith, omega arith, r, (omega arith, omega arith, s, tt)))) in
    omega arith

pub returns : goal.returns
returns g c =
    let r = c.args.self in
    let text : ℕ → ℕ → List ℕ = λ a b. spelled 79 (a ∷ b ∷ r.section ∷ r.line ∷ []) in
    let short = line_short c.number.result c.number-2.result r.section r.line (omega arith) (omega arith) (omega arith) (omega arith) in
    let whole = added_then [] _ _ (78 ∷ []) (text c.number.result c.number-2.result) (c.push.ensures ∙ ap (λ t. added t (78 ∷ [])) c.new-text.ensures) c.line.ensures in
    whole ∙ added_fits [] (78 ∷ text c.number.result c.number-2.result) (omega arith) ∙ (λ i. 78 ∷ text (c.number.ensures i) ((c.number-2.ensures ∙ ap layer_number c.layer.ensures) i))
