use Rattle.std.proofs.Common.{arith}
use Rattle.languages.proofs.Endings.{strip_stays_ended, strip_ends}
use Rattle.languages.proofs.strip_thread.StripThread.new.Goals as goal

pub returns-clause-ended : goal.returns-clause-ended
returns-clause-ended c = strip_stays_ended _

pub returns-clause-straight : goal.returns-clause-straight
returns-clause-straight c = λ vs h. strip_ends vs _ (omega arith)
