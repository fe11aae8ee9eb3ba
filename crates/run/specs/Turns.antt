-- Whose turn it is.
use Rattle.std.specs.Prelude.{ℕ}
use Rattle.run.specs.declared.state.Phase.{Phase}
use Rattle.run.specs.declared.state.Phase.TheVariants.{Between, Turn, Showing}

-- 0 stands for nobody's too
abbrev pub whose : {L : Type 0} → Phase L → ℕ
whose Between = 0
whose (Turn i) = i
whose (Showing i s) = i
