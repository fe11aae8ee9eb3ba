-- The lines of a register program, of l locations.
use Rattle.std.specs.Prelude.{ℕ, ◌-◌, List, [], ◌∷◌, Some, slice_index}
use Rattle.languages.specs.declared.read_registers.RegisterKind.{RegisterKind}
use Rattle.languages.specs.declared.read_registers.RegisterKind.TheVariants as kind
use Rattle.languages.specs.declared.registers.RegisterLine.{RegisterLine}
use Rattle.languages.specs.declared.registers.RegisterLine.TheVariants as line
use Rattle.lines.specs.Families.{Family}
use Rattle.lines.specs.Spelling.{InRange}
use Rattle.languages.specs.Modes.{read_mode, read_number, write_mode, write_number, fence_kind, fence_number}

-- C A Q B L S U K F P
abbrev pub register_letters : List (ℕ × RegisterKind)
register_letters = (67, kind.Constant) ∷ (65, kind.Add) ∷ (81, kind.Equal) ∷ (66, kind.Branch) ∷ (76, kind.Load) ∷ (83, kind.Store) ∷ (85, kind.FetchAdd) ∷ (75, kind.CompareExchange) ∷ (70, kind.Fence) ∷ (80, kind.Print) ∷ []

abbrev pub register_letter : RegisterKind → ℕ
register_letter kind.Constant = 67
register_letter kind.Add = 65
register_letter kind.Equal = 81
register_letter kind.Branch = 66
register_letter kind.Load = 76
register_letter kind.Store = 83
register_letter kind.FetchAdd = 85
register_letter kind.CompareExchange = 75
register_letter kind.Fence = 70
register_letter kind.Print = 80

abbrev pub register_limits : ℕ → RegisterKind → List ℕ
register_limits l kind.Constant = 7 ∷ 65535 ∷ []
register_limits l kind.Add = 7 ∷ 7 ∷ 7 ∷ []
register_limits l kind.Equal = 7 ∷ 7 ∷ 7 ∷ []
register_limits l kind.Branch = 7 ∷ 64 ∷ []
register_limits l kind.Load = 7 ∷ (l - 1) ∷ 1 ∷ []
register_limits l kind.Store = (l - 1) ∷ 7 ∷ 1 ∷ []
register_limits l kind.FetchAdd = 7 ∷ (l - 1) ∷ 7 ∷ 1 ∷ 1 ∷ []
register_limits l kind.CompareExchange = 7 ∷ (l - 1) ∷ 7 ∷ 7 ∷ 1 ∷ 1 ∷ []
register_limits l kind.Fence = 3 ∷ []
register_limits l kind.Print = 7 ∷ []

abbrev pub register_make : RegisterKind → List ℕ → RegisterLine
register_make kind.Constant vs = line.Constant (slice_index vs 0) (slice_index vs 1)
register_make kind.Add vs = line.Add (slice_index vs 0) (slice_index vs 1) (slice_index vs 2)
register_make kind.Equal vs = line.Equal (slice_index vs 0) (slice_index vs 1) (slice_index vs 2)
register_make kind.Branch vs = line.Branch (slice_index vs 0) (slice_index vs 1)
register_make kind.Load vs = line.Load (slice_index vs 0) (slice_index vs 1) (read_mode (slice_index vs 2))
register_make kind.Store vs = line.Store (slice_index vs 0) (slice_index vs 1) (write_mode (slice_index vs 2))
register_make kind.FetchAdd vs = line.FetchAdd (slice_index vs 0) (slice_index vs 1) (slice_index vs 2) (read_mode (slice_index vs 3)) (write_mode (slice_index vs 4))
register_make kind.CompareExchange vs = line.CompareExchange (slice_index vs 0) (slice_index vs 1) (slice_index vs 2) (slice_index vs 3) (read_mode (slice_index vs 4)) (write_mode (slice_index vs 5))
register_make kind.Fence vs = line.Fence (fence_kind (slice_index vs 0))
register_make kind.Print vs = line.Print (slice_index vs 0)

abbrev pub register_kind : RegisterLine → RegisterKind
register_kind (line.Constant r v) = kind.Constant
register_kind (line.Add r s u) = kind.Add
register_kind (line.Equal r s u) = kind.Equal
register_kind (line.Branch r k) = kind.Branch
register_kind (line.Load r x o) = kind.Load
register_kind (line.Store x r o) = kind.Store
register_kind (line.FetchAdd r x s o p) = kind.FetchAdd
register_kind (line.CompareExchange r x s u o p) = kind.CompareExchange
register_kind (line.Fence o) = kind.Fence
register_kind (line.Print r) = kind.Print

abbrev pub register_numbers : RegisterLine → List ℕ
register_numbers (line.Constant r v) = r ∷ v ∷ []
register_numbers (line.Add r s u) = r ∷ s ∷ u ∷ []
register_numbers (line.Equal r s u) = r ∷ s ∷ u ∷ []
register_numbers (line.Branch r k) = r ∷ k ∷ []
register_numbers (line.Load r x o) = r ∷ x ∷ read_number o ∷ []
register_numbers (line.Store x r o) = x ∷ r ∷ write_number o ∷ []
register_numbers (line.FetchAdd r x s o p) = r ∷ x ∷ s ∷ read_number o ∷ write_number p ∷ []
register_numbers (line.CompareExchange r x s u o p) = r ∷ x ∷ s ∷ u ∷ read_number o ∷ write_number p ∷ []
register_numbers (line.Fence o) = fence_number o ∷ []
register_numbers (line.Print r) = r ∷ []

abbrev pub register_lines : ℕ → Family RegisterKind RegisterLine
register_lines l =
    record {
      letters = register_letters;
      limits = register_limits l;
      make = λ k vs. Some (register_make k vs);
      letter_of = register_letter;
      kind_of = register_kind;
      numbers = register_numbers;
    }

-- each number of the line is in range
abbrev pub RegisterFits : ℕ → RegisterLine → Type 0
RegisterFits l a = InRange (register_limits l (register_kind a)) (register_numbers a)

-- the line for the places past a program's last
abbrev pub register_filling : RegisterLine
register_filling = line.Print 0
