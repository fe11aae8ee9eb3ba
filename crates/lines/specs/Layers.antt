-- The number of each layer.
use Rattle.std.specs.Prelude.{ℕ}
use Rattle.lines.specs.declared.layer.Layer.{Layer}
use Rattle.lines.specs.declared.layer.Layer.TheVariants.{File, Line, Step, Store}

abbrev pub layer_number : Layer → ℕ
layer_number File = 0
layer_number Line = 1
layer_number Step = 2
layer_number Store = 3
