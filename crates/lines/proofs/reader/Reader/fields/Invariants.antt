use Rattle.std.proofs.Common.{◌≡◌, ◌≤◌, length, drop}
use Rattle.std.specs.Bool.{then_some}
use Rattle.lines.specs.Fields.{fields}
use Rattle.lines.proofs.Gathered.{prepend}
use Rattle.lines.proofs.reader.Reader.fields.Given as goal

-- what was read and what is left make what there was to be read
abbrev pub invariant-loop-most : goal.invariant-loop-most
invariant-loop-most l = (length l.numbers ≤ l.most-index) × (prepend (then_some l.within l.numbers) (fields (drop l.most-index l.most-items) l.self.rest.now) ≡ fields l.most-items l.initial.self.rest.now)
