use Rattle.std.proofs.Common.{length}
use Rattle.lines.proofs.Numbers.{ReadTo}
use Rattle.lines.proofs.reader.Reader.number.Given as goal

abbrev pub invariant-loop-rest : goal.invariant-loop-rest
invariant-loop-rest l = ReadTo l.most l.self.rest.now l.number l.rest

abbrev pub decreases-loop-rest : goal.decreases-loop-rest
decreases-loop-rest l = length l.rest
