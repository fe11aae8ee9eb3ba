-- A test that is passed where there is no reason to refuse.
use Rattle.std.specs.Prelude.{Some, None, Ok, Err, Option, Result}
use Rattle.rules.specs.declared.fault.StepFault.{StepFault}

abbrev pub allowed : Option StepFault → Result (Unit {0}) StepFault
allowed None = Ok tt
allowed (Some e) = Err e
