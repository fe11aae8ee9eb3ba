use Rattle.std.proofs.Common.{[], rules, tests}
use Rattle.rowstore.proofs.Stored.{is_empty}
use Rattle.rowstore.proofs.index.Index.new.Goals as goal

pub returns : goal.returns
returns c = is_empty c.from_fn.result c.from_fn.ensures.items.long (λ y h. let k = (c.from_fn.ensures.items.at y [] h).2 in search (rules, tests))
