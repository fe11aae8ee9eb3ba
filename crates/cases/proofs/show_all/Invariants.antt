use Rattle.std.proofs.Common.{length}
use Rattle.cases.proofs.show_all.Given as goal

abbrev pub decreases-loop-job : goal.decreases-loop-job
decreases-loop-job l = length l.rest
