-- What a store's answers say of the messages that it holds.
use Rattle.std.specs.Prelude.{◌≡◌, ℕ, ◌<◌, ◌≤◌, ◌⊎◌, List, [], ◌∷◌, length, Some, None, Option, slice_index_or}
use Rattle.lines.specs.declared.span.Span.{Span}
use Rattle.stores.specs.declared.message.Message.{Message}
use Rattle.stores.specs.Memory.{zero_message}

-- the message is one of the list
abbrev pub In : Message → List Message → Type 0
In m [] = ⊥
In m (n ∷ ns) = (m ≡ n) ⊎ In m ns

abbrev pub EndsAt : ℕ → ℕ → Message → Type 0
EndsAt x t m = (m.location ≡ x) × (m.span.to ≡ t)

-- two spans (f, t] and (f', t'] at one location overlap if f < t' and f' < t
abbrev pub Overlaps : ℕ → Span → Message → Type 0
Overlaps x s m = (m.location ≡ x) × (s.from < m.span.to) × (m.span.from < s.to)

-- the span s at x overlaps no message
abbrev pub Free : ℕ → Span → List Message → Type 0
Free x s ms = (m : Message) → In m ms → Overlaps x s m → ⊥

-- an answered number is that of a message at x that ends at t, and no earlier one does; none is answered only where no message does
unfoldable pub Finds : ℕ → ℕ → List Message → Option ℕ → Type 0
Finds x t ms None = (m : Message) → In m ms → EndsAt x t m → ⊥
Finds x t ms (Some k) =
    (k < length ms) × In (slice_index_or ms k zero_message) ms × EndsAt x t (slice_index_or ms k zero_message) × ((j : ℕ) → j < k → EndsAt x t (slice_index_or ms j zero_message) → ⊥)

-- e is at least every end at x, and is one of them or 0
unfoldable pub Greatest : ℕ → List Message → ℕ → Type 0
Greatest x ms e =
    ((m : Message) → In m ms → m.location ≡ x → m.span.to ≤ e) × ((e ≡ 0) ⊎ ((m : Message) × In m ms × (m.location ≡ x) × (m.span.to ≡ e)))
