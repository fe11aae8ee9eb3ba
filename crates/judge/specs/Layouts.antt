-- Code that holds a run of any store owes that the run's memory can be addressed.
use Rattle.std.specs.Prelude.{◌^◌, ◌<◌}
use prog.Memory.{size}
use denote.Param.{layout}
use Rattle.std.specs.Borrow.{RattleType}
use denote.Ref.{NamedLft}
use Rattle.languages.specs.contracts.register_thread.RegisterThread.{the_row as register_row}
use Rattle.languages.specs.contracts.strip_thread.StripThread.{the_row as strip_row}
use Rattle.run.specs.contracts.state.Run.{the_row as run_row}

abbrev pub Addressed : RattleType → RattleType → Type 0
Addressed L S = size (layout (run_row L S)) < 2 ^ 63

-- of runs of both languages
pub record JobsAddressed (S : RattleType) : Type 0 where
  pub registers : (a : NamedLft) → Addressed (register_row a) S
  pub strips : (a : NamedLft) → Addressed (strip_row a) S
