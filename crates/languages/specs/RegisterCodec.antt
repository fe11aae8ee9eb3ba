-- Register lines are such a family.
use Rattle.std.specs.Prelude.{◌≡◌, ℕ, ◌≤◌, List, Some, slice_index, refl}
use Rattle.std.proofs.Common.{arith}
use Rattle.languages.specs.declared.read_registers.RegisterKind.{RegisterKind}
use Rattle.languages.specs.declared.read_registers.RegisterKind.TheVariants as kind
use Rattle.languages.specs.declared.registers.RegisterLine.{RegisterLine}
use Rattle.languages.specs.declared.registers.RegisterLine.TheVariants as line
use Rattle.lines.specs.Families.{lookup}
use Rattle.lines.specs.Spelling.{InRange}
use Rattle.lines.specs.Codecs.{Codec, Writable, gets_all, whole_codec}
use Rattle.lines.proofs.Spelled.{range_at}
use Rattle.languages.specs.RegisterLines.{register_letters, register_letter, register_limits, register_make, register_kind, register_numbers, register_lines, RegisterFits}
use Rattle.languages.specs.ModeNumbers.{same_read_mode, same_write_mode, same_fence_kind, read_back, write_back, fence_back}

module _ (l : ℕ) (small : l ≤ 8) where
  register_writable : (k : RegisterKind) → Writable (register_limits l k)
  register_writable kind.Constant = (omega arith, (omega arith, tt))
  register_writable kind.Add = (omega arith, (omega arith, (omega arith, tt)))
  register_writable kind.Equal = (omega arith, (omega arith, (omega arith, tt)))
  register_writable kind.Branch = (omega arith, (omega arith, tt))
  register_writable kind.Load = (omega arith, (omega arith, (omega arith, tt)))
  register_writable kind.Store = (omega arith, (omega arith, (omega arith, tt)))
  register_writable kind.FetchAdd = (omega arith, (omega arith, (omega arith, (omega arith, (omega arith, tt)))))
  register_writable kind.CompareExchange = (omega arith, (omega arith, (omega arith, (omega arith, (omega arith, (omega arith, tt))))))
  register_writable kind.Fence = (omega arith, tt)
  register_writable kind.Print = (omega arith, tt)

  register_found : (k : RegisterKind) → lookup register_letters (register_letter k) ≡ Some k
  register_found kind.Constant = refl
  register_found kind.Add = refl
  register_found kind.Equal = refl
  register_found kind.Branch = refl
  register_found kind.Load = refl
  register_found kind.Store = refl
  register_found kind.FetchAdd = refl
  register_found kind.CompareExchange = refl
  register_found kind.Fence = refl
  register_found kind.Print = refl

  register_written : (a : RegisterLine) → register_make (register_kind a) (register_numbers a) ≡ a
  register_written (line.Constant r v) = refl
  register_written (line.Add r s u) = refl
  register_written (line.Equal r s u) = refl
  register_written (line.Branch r k) = refl
  register_written (line.Load r x o) = rw (same_read_mode o)
  register_written (line.Store x r o) = rw (same_write_mode o)
  register_written (line.FetchAdd r x s o p) = rw (same_read_mode o, same_write_mode p)
  register_written (line.CompareExchange r x s u o p) = rw (same_read_mode o, same_write_mode p)
  register_written (line.Fence o) = rw (same_fence_kind o)
  register_written (line.Print r) = refl

  register_made_kind : (k : RegisterKind) (vs : List ℕ) → register_kind (register_make k vs) ≡ k
  register_made_kind kind.Constant vs = refl
  register_made_kind kind.Add vs = refl
  register_made_kind kind.Equal vs = refl
  register_made_kind kind.Branch vs = refl
  register_made_kind kind.Load vs = refl
  register_made_kind kind.Store vs = refl
  register_made_kind kind.FetchAdd vs = refl
  register_made_kind kind.CompareExchange vs = refl
  register_made_kind kind.Fence vs = refl
  register_made_kind kind.Print vs = refl

  register_made_numbers : (k : RegisterKind) (vs : List ℕ) → InRange (register_limits l k) vs → register_numbers (register_make k vs) ≡ vs
  register_made_numbers kind.Constant vs h = gets_all (register_limits l kind.Constant) vs h
  register_made_numbers kind.Add vs h = gets_all (register_limits l kind.Add) vs h
  register_made_numbers kind.Equal vs h = gets_all (register_limits l kind.Equal) vs h
  register_made_numbers kind.Branch vs h = gets_all (register_limits l kind.Branch) vs h
  register_made_numbers kind.Load vs h = rw (read_back (slice_index vs 2) (range_at (register_limits l kind.Load) vs h 2 (omega arith))) (gets_all (register_limits l kind.Load) vs h)
  register_made_numbers kind.Store vs h = rw (write_back (slice_index vs 2) (range_at (register_limits l kind.Store) vs h 2 (omega arith))) (gets_all (register_limits l kind.Store) vs h)
  register_made_numbers kind.FetchAdd vs h = rw (read_back (slice_index vs 3) (range_at (register_limits l kind.FetchAdd) vs h 3 (omega arith)), write_back (slice_index vs 4) (range_at (register_limits l kind.FetchAdd) vs h 4 (omega arith))) (gets_all (register_limits l kind.FetchAdd) vs h)
  register_made_numbers kind.CompareExchange vs h = rw (read_back (slice_index vs 4) (range_at (register_limits l kind.CompareExchange) vs h 4 (omega arith)), write_back (slice_index vs 5) (range_at (register_limits l kind.CompareExchange) vs h 5 (omega arith))) (gets_all (register_limits l kind.CompareExchange) vs h)
  register_made_numbers kind.Fence vs h = rw (fence_back (slice_index vs 0) (range_at (register_limits l kind.Fence) vs h 0 (omega arith))) (gets_all (register_limits l kind.Fence) vs h)
  register_made_numbers kind.Print vs h = gets_all (register_limits l kind.Print) vs h

  pub register_codec : Codec (register_lines l) (RegisterFits l)
  register_codec =
      whole_codec register_letters (register_limits l) register_make register_letter register_kind register_numbers register_writable register_found (refl, (refl, (refl, (refl, (refl, (refl, (refl, (refl, (refl, (refl, tt)))))))))) register_written register_made_kind register_made_numbers
