-- The nine rows of an index.
use Rattle.std.specs.Prelude.{ℕ, min, List, [], ◌∷◌, replicate, slice_index_or, slice_set}
use Rattle.stores.specs.declared.message.Message.{Message}
use Rattle.rowstore.specs.declared.entry.Entry.{Entry}
use Rattle.rowstore.specs.declared.index.Index.{Index}
use Rattle.rowstore.specs.Entries.{placed, earlier}

-- the row of a location: its own for each of eight, and the ninth for all others
abbrev pub row_of : ℕ → ℕ
row_of x = min x 8

abbrev pub empty : Index
empty = record { table = record { rows = replicate 9 [] } }

abbrev pub row_at : Index → ℕ → List Entry
row_at b y = slice_index_or b.table.rows y []

abbrev pub entry_of : Message → ℕ → Entry
entry_of m k = record { location = m.location; span = m.span; number = k }

-- the message that arrived as number k in the row of its location
abbrev pub with_message : Index → Message → ℕ → Index
with_message b m k =
    record { table = record { rows = slice_set b.table.rows (row_of m.location) (placed (entry_of m k) (row_at b (row_of m.location))) } }

-- row y without the entries whose arrival number is n or more
abbrev pub only_earlier_in : ℕ → ℕ → Index → Index
only_earlier_in y n b =
    record { table = record { rows = slice_set b.table.rows y (earlier n (row_at b y)) } }

-- the same in the row of each of the messages, one after another
abbrev pub only_earlier : ℕ → List Message → Index → Index
only_earlier n [] b = b
only_earlier n (m ∷ ms) b = only_earlier n ms (only_earlier_in (row_of m.location) n b)
