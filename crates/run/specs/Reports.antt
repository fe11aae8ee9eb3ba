-- What a report asks of a run.
use Rattle.std.specs.Prelude.{Bool, true, false}
use Rattle.rules.specs.Models.{Phase, between, turn, showing}
pub use Rattle.rules.specs.Threads.{owing_thread}

abbrev pub is_between : Phase → Bool
is_between between = true
is_between (turn i) = false
is_between (showing i s closing) = false
