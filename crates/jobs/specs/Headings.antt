-- What the reader of the head answers.
use Rattle.std.specs.Prelude.{Ok, Err, Result}
use Rattle.bounded.specs.Fixed.{elements}
use Rattle.jobs.specs.declared.fault.FileFault.{FileFault}
use Rattle.jobs.specs.declared.fault.Refusal.{Refusal}
use Rattle.jobs.specs.declared.head.Head.{Head}
use Rattle.jobs.specs.Jobs.{job_of}
use Rattle.jobs.specs.Heads.{Heading}

abbrev pub heading_of : Result Head (Refusal FileFault) → Result Heading (Refusal FileFault)
heading_of (Ok h) = Ok (record { job = job_of h.job; sections = elements h.sections })
heading_of (Err e) = Err e
