-- What a run has to be for its report to be short.
use Rattle.std.specs.Prelude.{ℕ, ◌<◌, slice_index_or}
use Rattle.stores.specs.Memory.{zero_message}
use Rattle.rules.specs.Models.{Run}

-- locations and printing threads have one digit
pub record Printable (r : Run) : Type 0 where
  pub places : (k : ℕ) → (slice_index_or r.memory k zero_message).location < 8
  pub printers : (k : ℕ) → (slice_index_or r.log k (0, 0)).0 < 4
