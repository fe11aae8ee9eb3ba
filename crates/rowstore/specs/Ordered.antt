-- The rows of a list of messages.
use Rattle.std.specs.Prelude.{◌≡◌, ℕ, ◌+◌, ◌<◌, List, [], ◌∷◌, if◌then◌else◌, ◌==◌}
use Rattle.stores.specs.declared.message.Message.{Message}
use Rattle.rowstore.specs.declared.entry.Entry.{Entry}
use Rattle.rowstore.specs.declared.index.Index.{Index}
use Rattle.rowstore.specs.Entries.{placed}
use Rattle.rowstore.specs.Tables.{row_of, row_at, entry_of}

-- row y with the messages placed in it in order of arrival, of which the first has number k
abbrev pub ordered_from : ℕ → ℕ → List Message → List Entry → List Entry
ordered_from y k [] es = es
ordered_from y k (m ∷ ms) es =
    ordered_from y (k + 1) ms (if row_of m.location == y then placed (entry_of m k) es else es)

-- row y of the messages
abbrev pub ordered : ℕ → List Message → List Entry
ordered y ms = ordered_from y 0 ms []

-- the index has each row of the messages
abbrev pub Indexed : List Message → Index → Type 0
Indexed ms b = (y : ℕ) → y < 9 → row_at b y ≡ ordered y ms
