use Rattle.std.proofs.Common.{refl}
use Rattle.lines.specs.Fields.{past}
use Rattle.lines.proofs.Answered.{passed, not_passed}
use Rattle.lines.proofs.reader.Reader.field.Goals as goal

pub returns-then-not-pass : goal.returns-then-not-pass
returns-then-not-pass c =
    let e = not_passed (past 32 c.args.self.now.rest.now) _ _ c.if-not-pass.ensures in
    rw e refl

pub returns : goal.returns
returns c =
    let e = passed (past 32 c.args.self.now.rest.now) _ _ c.if-not-pass.ensures in
    rw e c.number.ensures
