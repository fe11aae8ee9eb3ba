use Rattle.std.proofs.Common.{◌≡◌, ◌≤◌, drop}
use Rattle.jobs.specs.Sections.{first_wrong}
use Rattle.jobs.proofs.read_head.first_wrong_section.Given as goal

abbrev pub invariant-loop-k : goal.invariant-loop-k
invariant-loop-k l = (l.at ≤ l.end) × (first_wrong l.k l.at (drop l.k l.sections) l.end ≡ first_wrong 0 l.start l.sections l.end)
