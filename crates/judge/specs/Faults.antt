-- The number and the layer of each refusal.
use Rattle.std.specs.Prelude.{ℕ}
use Rattle.rules.specs.Faults.{number, layer}
use Rattle.lines.specs.declared.layer.Layer.{Layer}
use Rattle.lines.specs.declared.layer.Layer.TheVariants.{File as LayerOfFile}
use Rattle.jobs.specs.Faults.{fault_number as file_number, fault_layer as file_layer}
use Rattle.judge.specs.declared.fault.Fault.{Fault}
use Rattle.judge.specs.declared.fault.Fault.TheVariants.{File, Step, Unfinished}

-- the fault of a file and that of a step keep their number and their layer
abbrev pub fault_number : Fault → ℕ
fault_number (File f) = file_number f
fault_number (Step f) = number f
fault_number Unfinished = 17

abbrev pub fault_layer : Fault → Layer
fault_layer (File f) = file_layer f
fault_layer (Step f) = layer f
fault_layer Unfinished = LayerOfFile
