use Rattle.std.proofs.Common.{sym, ap, ◌∙◌, arith}
use Rattle.std.proofs.lemmas.Fmt.{decimal_digit, decimal_step}
use Rattle.jobs.specs.Texts.{added}
use Rattle.jobs.proofs.Texts.{added_then}
use Rattle.jobs.proofs.text.Text.+number.Goals as goal

pub returns-then-number-lt10 : goal.returns-then-number-lt10
returns-then-number-lt10 t c = c.push.ensures ∙ ap (added c.args.self.now.bytes) (sym (decimal_digit c.args.number c.if-number-lt10.true))

pub returns : goal.returns
returns t c =
    added_then c.args.self.now.bytes _ _ _ _ c.number.ensures c.push-2.ensures ∙ ap (added c.args.self.now.bytes) (sym (decimal_step c.args.number c.if-number-lt10.false (omega arith)))
