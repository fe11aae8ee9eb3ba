use Rattle.std.proofs.Common.{◌∙◌}
use Rattle.jobs.proofs.Texts.{added_one}
use Rattle.jobs.proofs.text.Text.push.Goals as goal

pub returns : goal.returns
returns c = c.push.ensures.after ∙ added_one c.args.self.now.bytes c.args.byte c.args.self.now.few
