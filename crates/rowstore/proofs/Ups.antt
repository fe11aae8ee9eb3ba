-- Entries in order of their ends, entry by entry.
use Rattle.std.proofs.Common.{zero, suc, ◌≤◌, List, [], ◌∷◌, arith}
use Rattle.std.specs.List.{AllByRecursion as All}
use Rattle.std.proofs.ByRecursion.{All-from_get_or, All-get_or}
use Rattle.rowstore.specs.declared.entry.Entry.{Entry}
use Rattle.rowstore.specs.Entries.{InOrder}

-- no entry ends before an earlier one
abbrev pub Up : List Entry → Type 0
Up [] = Unit {0}
Up (e ∷ es) = All (λ a. e.span.to ≤ a.span.to) es × Up es

pub up_from_order : (es : List Entry) → InOrder es → Up es
up_from_order [] o = tt
up_from_order (e ∷ es) o = (
  All-from_get_or (λ (a : Entry). e.span.to ≤ a.span.to) es e (λ j l. o 0 (suc j) e (omega arith) (omega arith)),
  up_from_order es (λ i j d h k. o (suc i) (suc j) d (omega arith) (omega arith)),
)

pub order_from_up : (es : List Entry) → Up es → InOrder es
order_from_up [] u i j d h k = absurd (omega arith)
order_from_up (e ∷ es) u zero zero d h k = omega arith
order_from_up (e ∷ es) u zero (suc j) d h k = All-get_or (λ (a : Entry). e.span.to ≤ a.span.to) es j d (omega arith) u.0
order_from_up (e ∷ es) u (suc i) zero d h k = absurd (omega arith)
order_from_up (e ∷ es) u (suc i) (suc j) d h k = order_from_up es u.1 i j d (omega arith) (omega arith)
