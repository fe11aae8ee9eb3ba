use Rattle.std.proofs.Common.{arith}
use Rattle.std.proofs.lemmas.Grind.{common_steps}
use Rattle.stores.proofs.StoreLaws.{find_law}
use Rattle.stores.proofs.flat.FlatStore.find.Goals as goal

pub returns-then-ends_at-clause-exact : goal.returns-then-ends_at-clause-exact
returns-then-ends_at-clause-exact c = find_law c.args.location c.args.end c.args.self.now.messages _ (grind (arith, common_steps))

pub returns-clause-exact : goal.returns-clause-exact
returns-clause-exact c = find_law c.args.location c.args.end c.args.self.now.messages _ (grind (arith, common_steps))
