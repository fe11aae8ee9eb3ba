use Rattle.std.proofs.Common.{◌≡◌, ◌+◌, ◌-◌, [], length}
use Rattle.jobs.specs.Heads.{sections_from}
use Rattle.jobs.proofs.read_head.read_sections.Given as goal

abbrev pub invariant-loop-k : goal.invariant-loop-k
invariant-loop-k l = (length l.sections ≡ l.k) × (sections_from (l.count - l.k) (l.k + 2) l.sections l.reader.rest.now ≡ sections_from l.count 2 [] l.initial.reader.rest.now)
