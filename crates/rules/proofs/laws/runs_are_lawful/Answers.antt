use Rattle.rules.proofs.laws.runs_are_lawful.Goals as goal
use Rattle.rules.proofs.Lawfulness.{lawful}

pub returns : goal.returns
returns c = lawful
