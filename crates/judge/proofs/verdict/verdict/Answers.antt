use Rattle.judge.proofs.Reported.{judges}
use Rattle.judge.proofs.verdict.verdict.Goals as goal

pub returns-clause-law : goal.returns-clause-law
returns-clause-law c = judges c.args.file.now _ c.report_accepted.ensures
