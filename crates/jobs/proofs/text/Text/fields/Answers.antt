use Rattle.std.proofs.Common.{◌+◌, [], ◌∷◌, drop, sym, ap, ◌∙◌}
use Rattle.std.proofs.lemmas.List.{at_drop_more, at_drop_all}
use Rattle.lines.specs.Spelling.{spelled_fields}
use Rattle.jobs.specs.Texts.{added}
use Rattle.jobs.proofs.Texts.{added_two, added_then}
use Rattle.jobs.proofs.text.Text.fields.Goals as goal

pub loop-number-preserved : goal.loop-number-preserved
loop-number-preserved c =
    let ns = c.args.numbers.now in
    let i = c.loop-number.number-index in
    let t = c.loop-number.self.bytes in
    let field = added_then t _ c.number.new.self.bytes (32 ∷ []) _ c.push.ensures c.number.ensures in
    ap (λ x. added x (spelled_fields (drop (i + 1) ns))) field ∙ added_two t _ _ ∙ ap (added t) (sym (at_drop_more spelled_fields ns i 0 c.loop-number-test.true)) ∙ c.loop-number.invariant

pub returns : goal.returns
returns c =
    c.push-2.ensures ∙ ap (added c.loop-number.self.bytes) (sym (at_drop_all spelled_fields c.args.numbers.now c.loop-number.number-index c.loop-number-test.false)) ∙ c.loop-number.invariant
