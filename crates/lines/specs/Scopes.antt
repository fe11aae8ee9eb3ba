-- 1 to 4 threads, and 1 to 8 locations.
use Rattle.std.specs.Prelude.{ℕ, Bool, ◌&&◌, nat_le}

abbrev pub in_scope : ℕ → ℕ → Bool
in_scope n l = (nat_le 1 n && nat_le n 4) && (nat_le 1 l && nat_le l 8)
