use Rattle.std.proofs.Common.{Some}
use Rattle.lines.specs.Fields.{fields}
use Rattle.lines.proofs.Answered.{read_some}
use Rattle.lines.proofs.Spelled.{fields_range}
use Rattle.lines.proofs.reader.Reader.line.Goals as goal

pub returns-clause-within : goal.returns-clause-within
returns-clause-within c =
    let ms = c.args.limits.now in
    fields_range ms _ c.in-Some-numbers.numbers c.fields.new.self.rest.now (read_some (fields ms _) (Some c.in-Some-numbers.numbers) _ (rw c.in-Some-numbers.is at c.in-Some.ensures))
