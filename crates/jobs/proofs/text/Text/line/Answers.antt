use Rattle.jobs.proofs.Texts.{added_then}
use Rattle.jobs.proofs.text.Text.line.Goals as goal

pub returns : goal.returns
returns c = added_then c.args.self.now.bytes _ _ _ _ c.push.ensures c.fields.ensures
