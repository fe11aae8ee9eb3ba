use Rattle.std.proofs.Common.{◌≡◌, true, get_or, Some, refl, ap, rules, arith}
use Rattle.std.proofs.lemmas.List.{take_rest}
use Rattle.lines.specs.Fields.{digit}
use Rattle.lines.proofs.Numbers.{Past, past_if, read_one_more, number_is}
use Rattle.lines.proofs.reader.Reader.number.Goals as goal
use Rattle.lines.proofs.reader.Reader.number.Goals.{in_default, in_default-2, in_default-3}

pub loop-rest-preserved : goal.loop-rest-preserved
loop-rest-preserved c =
    let rest = c.loop-rest.rest.now in
    let here : digit (get_or rest 0 0) ≡ true = search rules in
    rw (c.with_digit-number.ensures, take_rest rest 1) (read_one_more c.args.most c.args.self.now.rest.now c.loop-rest.number rest (omega arith) here c.loop-rest.invariant)

pub returns : goal.returns
returns c =
    let rest = c.loop-rest.rest.now in
    let past : Past rest = past_if rest (elim c.if-rest-lt1.branch [
      | in_default w ↦ λ l. absurd (omega arith)
      | in_default-2 w ↦ λ l. search rules
      | in_default-3 w ↦ λ l. search rules
    ]) in
    let is = number_is c.args.most c.args.self.now.rest.now c.loop-rest.number rest past c.loop-rest.invariant in
    rw (is, ← c.is_plain.ensures, c.if-not-is_plain.false) (ap Some c.at_most.ensures, refl)

pub returns-then-not-is_plain : goal.returns-then-not-is_plain
returns-then-not-is_plain c =
    let rest = c.loop-rest.rest.now in
    let past : Past rest = past_if rest (elim c.if-rest-lt1.branch [
      | in_default w ↦ λ l. absurd (omega arith)
      | in_default-2 w ↦ λ l. search rules
      | in_default-3 w ↦ λ l. search rules
    ]) in
    let is = number_is c.args.most c.args.self.now.rest.now c.loop-rest.number rest past c.loop-rest.invariant in
    rw (is, ← c.is_plain.ensures, c.if-not-is_plain.true) refl
