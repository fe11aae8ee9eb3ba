use Rattle.std.proofs.Common.{◌≡◌, ◌≤◌, ◌+◌, length, get_or, drop, Some, refl, sym, ap, ◌∙◌, arith}
use Rattle.std.specs.Bool.{then_some}
use Rattle.lines.specs.Fields.{field, fields}
use Rattle.lines.proofs.Answered.{read_none, read_some}
use Rattle.lines.proofs.Gathered.{both, alone, more_gathered, out_of_range, prepend, fields_more, fields_stop, fields_end}
use Rattle.lines.proofs.reader.Reader.fields.Goals as goal
use Rattle.lines.proofs.reader.Reader.fields.Goals.{in-Some, in-None}

pub loop-most-preserved : goal.loop-most-preserved
loop-most-preserved c =
    let ms = c.as_slice-most-items.result.now in
    let k = c.loop-most.most-index in
    let bs = c.loop-most.self.rest.now in
    let before = then_some c.loop-most.within c.loop-most.numbers in
    let rest = c.field.new.self.rest.now in
    let v = c.in_ok-number.field-0 in
    let e = read_some (field (get_or ms k 0) bs) v rest c.in_ok-number.ensures in
    let more = fields_more ms k c.loop-most-test.true before bs v rest e in
    let one : (length c.match-branch-2.numbers ≤ k + 1) × (then_some c.match-branch-2.within c.match-branch-2.numbers ≡ both before (alone v)) = elim c.match-branch-2.branch [
      | in-Some w ↦ rw (w.within-is, w.numbers-is, w.push.ensures.after, w.in-Some.is) (more_gathered k c.loop-most.within c.loop-most.numbers w.in-Some.number c.loop-most.invariant.0 (omega arith))
      | in-None w ↦ rw (w.within-is, w.numbers-is, w.in-None.is) (omega arith, out_of_range before)
    ] in
    (one.0, ap (λ a. prepend a (fields (drop (k + 1) ms) rest)) one.1 ∙ sym more ∙ c.loop-most.invariant.1)

pub returns-in_err-number : goal.returns-in_err-number
returns-in_err-number c =
    let ms = c.as_slice-most-items.result.now in
    let k = c.loop-most.most-index in
    let bs = c.loop-most.self.rest.now in
    let none = read_none (field (get_or ms k 0) bs) c.field.new.self.rest.now c.in_err-number.ensures in
    rw (← c.as_slice-most-items.ensures.value, sym c.loop-most.invariant.1 ∙ fields_stop ms k c.loop-most-test.true (then_some c.loop-most.within c.loop-most.numbers) bs none) c.from_residual.ensures

pub returns : goal.returns
returns c =
    let ms = c.as_slice-most-items.result.now in
    let end = fields_end ms c.loop-most.most-index c.loop-most-test.false (then_some c.loop-most.within c.loop-most.numbers) c.loop-most.self.rest.now in
    rw (← c.as_slice-most-items.ensures.value, sym c.loop-most.invariant.1 ∙ end) (ap Some c.then_some.ensures, refl)
