use Rattle.languages.proofs.Endings.{register_stays_ended}
use Rattle.languages.proofs.register_thread.RegisterThread.new.Goals as goal

pub returns-clause-ended : goal.returns-clause-ended
returns-clause-ended c = register_stays_ended _
