-- Messages in order of arrival, and what can be asked of them.
use Rattle.std.specs.Prelude.{ℕ, max, Bool, true, false, not, ◌&&◌, List, [], ◌∷◌, ◌++◌, length, Ok, Err, Option, Result, if◌then◌else◌, ◌==◌, nat_lt, slice_index_or}
use Rattle.std.specs.List.{list_all, position_from}
use Rattle.lines.specs.declared.span.Span.{Span}
use Rattle.stores.specs.declared.message.Message.{Message}
use Rattle.stores.specs.declared.kept.Kept.{Kept}
use Rattle.stores.specs.declared.kept.StoreFault.{StoreFault}
use Rattle.stores.specs.declared.kept.StoreFault.TheVariants.{Full}
use Rattle.stores.specs.Views.{zero_view}

abbrev pub zero_message : Message
zero_message = record { location = 0; span = record { from = 0; to = 0 }; value = 0; view = zero_view }

-- the message is at x and ends at t
abbrev pub ends_at : ℕ → ℕ → Message → Bool
ends_at x t m = m.location == x && m.span.to == t

-- the message is at x, and its span overlaps the span s
abbrev pub overlaps : ℕ → Span → Message → Bool
overlaps x s m = m.location == x && (nat_lt s.from m.span.to && nat_lt m.span.from s.to)

-- the arrival number of the first message of x that ends at t, where the list's first has number k
abbrev pub find_from : ℕ → ℕ → ℕ → List Message → Option ℕ
find_from k x t ms = position_from (ends_at x t) k ms

abbrev pub find : ℕ → ℕ → List Message → Option ℕ
find x t ms = find_from 0 x t ms

-- the arrival number of the first message at x that overlaps s, where the list's first has number k
abbrev pub overlap_from : ℕ → ℕ → Span → List Message → Option ℕ
overlap_from k x s ms = position_from (overlaps x s) k ms

-- no message at x overlaps s
abbrev pub is_free : ℕ → Span → List Message → Bool
is_free x s ms = list_all (λ m. not (overlaps x s m)) ms

-- the greatest end at x, else 0
abbrev pub greatest_end : ℕ → List Message → ℕ
greatest_end x [] = 0
greatest_end x (m ∷ ms) = max (if m.location == x then m.span.to else 0) (greatest_end x ms)

-- the k-th message from 0, or the flag that says that there is none
abbrev pub nth : ℕ → List Message → Kept
nth k ms =
    if nat_lt k (length ms) then record { there = true; message = slice_index_or ms k zero_message } else record { there = false; message = zero_message }

-- one message more at the end, if the list has not reached the capacity
abbrev pub added : ℕ → Message → List Message → List Message
added capacity m ms = if nat_lt (length ms) capacity then ms ++ m ∷ [] else ms

abbrev pub add_answer : ℕ → List Message → Result Unit StoreFault
add_answer capacity ms = if nat_lt (length ms) capacity then Ok tt else Err Full
