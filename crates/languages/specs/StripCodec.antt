-- Strip lines are such a family.
use Rattle.std.specs.Prelude.{◌≡◌, ℕ, ◌≤◌, List, Some, slice_index, refl}
use Rattle.std.proofs.Common.{arith}
use Rattle.languages.specs.declared.read_strips.StripKind.{StripKind}
use Rattle.languages.specs.declared.read_strips.StripKind.TheVariants as kind
use Rattle.languages.specs.declared.strips.StripLine.{StripLine}
use Rattle.languages.specs.declared.strips.StripLine.TheVariants as line
use Rattle.lines.specs.Families.{lookup}
use Rattle.lines.specs.Spelling.{InRange}
use Rattle.lines.specs.Codecs.{Codec, Writable, gets_all, whole_codec}
use Rattle.lines.proofs.Spelled.{range_at}
use Rattle.languages.specs.StripLines.{strip_letters, strip_letter, strip_limits, strip_make, strip_kind, strip_numbers, strip_lines, StripFits}
use Rattle.languages.specs.ModeNumbers.{same_read_mode, same_write_mode, same_fence_kind, read_back, write_back, fence_back}

module _ (l : ℕ) (small : l ≤ 8) where
  strip_writable : (k : StripKind) → Writable (strip_limits l k)
  strip_writable kind.Read = (omega arith, (omega arith, (omega arith, tt)))
  strip_writable kind.Store = (omega arith, (omega arith, (omega arith, tt)))
  strip_writable kind.FetchAdd = (omega arith, (omega arith, (omega arith, (omega arith, tt))))
  strip_writable kind.Fence = (omega arith, tt)
  strip_writable kind.Print = (omega arith, tt)

  strip_found : (k : StripKind) → lookup strip_letters (strip_letter k) ≡ Some k
  strip_found kind.Read = refl
  strip_found kind.Store = refl
  strip_found kind.FetchAdd = refl
  strip_found kind.Fence = refl
  strip_found kind.Print = refl

  strip_written : (a : StripLine) → strip_make (strip_kind a) (strip_numbers a) ≡ a
  strip_written (line.Read x v o) = rw (same_read_mode o)
  strip_written (line.Store x v o) = rw (same_write_mode o)
  strip_written (line.FetchAdd x v o p) = rw (same_read_mode o, same_write_mode p)
  strip_written (line.Fence o) = rw (same_fence_kind o)
  strip_written (line.Print v) = refl

  strip_made_kind : (k : StripKind) (vs : List ℕ) → strip_kind (strip_make k vs) ≡ k
  strip_made_kind kind.Read vs = refl
  strip_made_kind kind.Store vs = refl
  strip_made_kind kind.FetchAdd vs = refl
  strip_made_kind kind.Fence vs = refl
  strip_made_kind kind.Print vs = refl

  strip_made_numbers : (k : StripKind) (vs : List ℕ) → InRange (strip_limits l k) vs → strip_numbers (strip_make k vs) ≡ vs
  strip_made_numbers kind.Read vs h = rw (read_back (slice_index vs 2) (range_at (strip_limits l kind.Read) vs h 2 (omega arith))) (gets_all (strip_limits l kind.Read) vs h)
  strip_made_numbers kind.Store vs h = rw (write_back (slice_index vs 2) (range_at (strip_limits l kind.Store) vs h 2 (omega arith))) (gets_all (strip_limits l kind.Store) vs h)
  strip_made_numbers kind.FetchAdd vs h = rw (read_back (slice_index vs 2) (range_at (strip_limits l kind.FetchAdd) vs h 2 (omega arith)), write_back (slice_index vs 3) (range_at (strip_limits l kind.FetchAdd) vs h 3 (omega arith))) (gets_all (strip_limits l kind.FetchAdd) vs h)
  strip_made_numbers kind.Fence vs h = rw (fence_back (slice_index vs 0) (range_at (strip_limits l kind.Fence) vs h 0 (omega arith))) (gets_all (strip_limits l kind.Fence) vs h)
  strip_made_numbers kind.Print vs h = gets_all (strip_limits l kind.Print) vs h

  pub strip_codec : Codec (strip_lines l) (StripFits l)
  strip_codec =
      whole_codec strip_letters (strip_limits l) strip_make strip_letter strip_kind strip_numbers strip_writable strip_found (refl, (refl, (refl, (refl, (refl, tt))))) strip_written strip_made_kind strip_made_numbers
