use Rattle.std.proofs.Common.{arith}
use Rattle.std.proofs.lemmas.Grind.{common_steps}
use Rattle.stores.proofs.StoreLaws.{greatest_end_law}
use Rattle.stores.proofs.flat.FlatStore.greatest_end.Goals as goal

pub returns-clause-exact : goal.returns-clause-exact
returns-clause-exact c = greatest_end_law c.args.location c.args.self.now.messages _ (grind (arith, common_steps))
