use Rattle.judge.proofs.Reported.{call_reported}
use Rattle.judge.proofs.report.judge_flat.Goals as goal

pub returns : goal.returns
returns c =
    let value = c.report_from.ensures.value in
    let after = c.report_from.ensures.after in
    record { value = value; after = after; law = call_reported c.args.file.now c.args.report.now _ _ value after }
