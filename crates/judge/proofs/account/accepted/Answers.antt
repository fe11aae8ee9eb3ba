use Rattle.std.proofs.Common.{◌≡◌, ℕ, ◌≤◌, List, [], ◌∷◌, ◌++◌, length, ap, ◌∙◌, append_assoc, arith, length-append}
use Rattle.lines.specs.Spelling.{spelled}
use Rattle.run.specs.Models.{run_of}
use Rattle.jobs.specs.Texts.{added}
use Rattle.jobs.proofs.Lengths.{fields_within}
use Rattle.jobs.proofs.Texts.{added_then, added_fits}
use Rattle.judge.specs.Reports.{messages_text, views_text, prints_text}
use Rattle.judge.proofs.account.accepted.Goals as goal

count_short : (n : ℕ) → n ≤ 65535 → length (spelled 75 (n ∷ [])) ≤ 8
count_short n h = let s = fields_within (5 ∷ []) (n ∷ []) (omega arith, omega arith, omega arith, tt) in omega arith

-- four texts, which are short enough together
four : (a m v p : List ℕ) (t₀ t₁ t₂ t₃ t₄ : List ℕ) → length a ≤ 9 → length m ≤ 1536 → length v ≤ 208 → length p ≤ 640 → t₁ ≡ added [] a → t₂ ≡ added t₁ m → t₃ ≡ added t₂ v → t₄ ≡ added t₃ p → t₄ ≡ a ++ (m ++ (v ++ p))
four a m v p t₀ t₁ t₂ t₃ t₄ ka km kv kp e₁ e₂ e₃ e₄ =
    let x = length-append a m in
    let y = length-append (a ++ m) v in
    let z = length-append ((a ++ m) ++ v) p in
    added_then [] t₃ t₄ ((a ++ m) ++ v) p (added_then [] t₂ t₃ (a ++ m) v (added_then [] t₁ t₂ a m e₁ e₂) e₃) e₄
    ∙ added_fits [] (((a ++ m) ++ v) ++ p) (omega arith) ∙ append_assoc (a ++ m) v p ∙ append_assoc a m (v ++ p)

pub returns : goal.returns
returns g c =
    let r = run_of g.L.Language g.S.Store c.args.run.now in
    let n = c.args.count in
    let short = count_short n c.requires.lines in
    four (79 ∷ spelled 75 (n ∷ [])) (messages_text r) (views_text r) (prints_text r) [] _ _ _ _ (omega arith) c.add_messages.ensures.short c.add_views.ensures.short c.add_prints.ensures.short
    (added_then [] _ _ (79 ∷ []) (spelled 75 (n ∷ [])) (c.push.ensures ∙ ap (λ t. added t (79 ∷ [])) c.new-text.ensures) c.line.ensures) c.add_messages.ensures.after c.add_views.ensures.after c.add_prints.ensures.after
