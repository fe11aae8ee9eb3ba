use Rattle.std.proofs.Common.{◌≡◌, length, drop}
use Rattle.rowstore.specs.Tables.{only_earlier}
use Rattle.rowstore.proofs.Stored.{Done}
use Rattle.rowstore.proofs.index.Index.keep.Given as goal

abbrev pub invariant-loop-message : goal.invariant-loop-message
invariant-loop-message l =
    (length l.done ≡ 9) × Done l.n l.done l.self × (only_earlier l.n (drop l.message-index l.dropped) l.self ≡ only_earlier l.n l.dropped l.initial.self)
