-- The number and the layer of each refusal.
use Rattle.std.specs.Prelude.{ℕ}
use Rattle.stores.specs.declared.kept.StoreFault.TheVariants.{Full}
use Rattle.lines.specs.declared.layer.Layer.{Layer}
use Rattle.lines.specs.declared.layer.Layer.TheVariants as part
use Rattle.rules.specs.declared.fault.StepFault.{StepFault}
use Rattle.rules.specs.declared.fault.StepFault.TheVariants.{Range, Moment, Kind, Owing, NoMessage, TooNew, Value, Span, ClosingLine, Store, LogFull, StillOwing}

abbrev pub number : StepFault → ℕ
number Range = 4
number Moment = 7
number Kind = 8
number Owing = 9
number NoMessage = 10
number TooNew = 11
number Value = 12
number Span = 13
number ClosingLine = 14
number (Store Full) = 15
number LogFull = 15
number StillOwing = 16

abbrev pub layer : StepFault → Layer
layer Range = part.Line
layer Moment = part.Step
layer Kind = part.Step
layer Owing = part.Step
layer NoMessage = part.Step
layer TooNew = part.Step
layer Value = part.Step
layer Span = part.Step
layer ClosingLine = part.Step
layer (Store f) = part.Store
layer LogFull = part.Store
layer StillOwing = part.Step
