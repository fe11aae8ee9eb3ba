use Rattle.std.proofs.Common.{◌≡◌, drop}
use Rattle.lines.specs.Spelling.{spelled_fields}
use Rattle.jobs.specs.Texts.{added}
use Rattle.jobs.proofs.text.Text.fields.Given as goal

abbrev pub invariant-loop-number : goal.invariant-loop-number
invariant-loop-number l = added l.self.bytes (spelled_fields (drop l.number-index l.numbers)) ≡ added l.initial.self.bytes (spelled_fields l.numbers)
