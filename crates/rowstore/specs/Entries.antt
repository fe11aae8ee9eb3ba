-- What can be asked of the entries of a row.
use Rattle.std.specs.Prelude.{ℕ, ◌≤◌, max, Bool, not, ◌&&◌, List, [], ◌∷◌, length, Some, None, filter, Option, if◌then◌else◌, ◌==◌, nat_le, nat_lt}
use Rattle.std.specs.List.{list_all, prefix_len}
use Rattle.std.specs.List.Sorted.{IsNonDecreasingBy}
use Rattle.lines.specs.declared.span.Span.{Span}
use Rattle.rowstore.specs.declared.entry.Entry.{Entry}

-- no entry ends before an earlier one
abbrev pub InOrder : List Entry → Type 0
InOrder es = IsNonDecreasingBy (λ (e : Entry). e.span.to) es

pub record WellFormed (es : List Entry) : Type 0 where
  pub fits : length es ≤ 64
  pub order : InOrder es

-- how many at the front end before the limit
abbrev pub before : ℕ → List Entry → ℕ
before limit es = prefix_len (λ e. nat_lt e.span.to limit) es

-- one entry more, after those that end no later
abbrev pub placed : Entry → List Entry → List Entry
placed e [] = e ∷ []
placed e (a ∷ es) = if nat_le a.span.to e.span.to then a ∷ placed e es else e ∷ a ∷ es

-- the arrival number of the first entry of x that ends at t
abbrev pub number_at : ℕ → ℕ → List Entry → Option ℕ
number_at x t [] = None
number_at x t (e ∷ es) = if e.location == x && e.span.to == t then Some e.number else number_at x t es

-- no entry of x overlaps s
abbrev pub clear : ℕ → Span → List Entry → Bool
clear x s es =
    list_all (λ e. not (e.location == x && (nat_lt s.from e.span.to && nat_lt e.span.from s.to))) es

-- the greatest end of an entry of x, else 0
abbrev pub last_end : ℕ → List Entry → ℕ
last_end x [] = 0
last_end x (e ∷ es) = max (if e.location == x then e.span.to else 0) (last_end x es)

-- those whose arrival number is below n
abbrev pub earlier : ℕ → List Entry → List Entry
earlier n es = filter (λ e. nat_lt e.number n) es
