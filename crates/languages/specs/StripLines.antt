-- The lines of a strip program, of l locations.
use Rattle.std.specs.Prelude.{ℕ, ◌-◌, List, [], ◌∷◌, Some, slice_index}
use Rattle.languages.specs.declared.read_strips.StripKind.{StripKind}
use Rattle.languages.specs.declared.read_strips.StripKind.TheVariants as kind
use Rattle.languages.specs.declared.strips.StripLine.{StripLine}
use Rattle.languages.specs.declared.strips.StripLine.TheVariants as line
use Rattle.lines.specs.Families.{Family}
use Rattle.lines.specs.Spelling.{InRange}
use Rattle.languages.specs.Modes.{read_mode, read_number, write_mode, write_number, fence_kind, fence_number}

-- R S U F P
abbrev pub strip_letters : List (ℕ × StripKind)
strip_letters = (82, kind.Read) ∷ (83, kind.Store) ∷ (85, kind.FetchAdd) ∷ (70, kind.Fence) ∷ (80, kind.Print) ∷ []

abbrev pub strip_letter : StripKind → ℕ
strip_letter kind.Read = 82
strip_letter kind.Store = 83
strip_letter kind.FetchAdd = 85
strip_letter kind.Fence = 70
strip_letter kind.Print = 80

abbrev pub strip_limits : ℕ → StripKind → List ℕ
strip_limits l kind.Read = (l - 1) ∷ 65535 ∷ 1 ∷ []
strip_limits l kind.Store = (l - 1) ∷ 65535 ∷ 1 ∷ []
strip_limits l kind.FetchAdd = (l - 1) ∷ 65535 ∷ 1 ∷ 1 ∷ []
strip_limits l kind.Fence = 3 ∷ []
strip_limits l kind.Print = 65535 ∷ []

abbrev pub strip_make : StripKind → List ℕ → StripLine
strip_make kind.Read vs = line.Read (slice_index vs 0) (slice_index vs 1) (read_mode (slice_index vs 2))
strip_make kind.Store vs = line.Store (slice_index vs 0) (slice_index vs 1) (write_mode (slice_index vs 2))
strip_make kind.FetchAdd vs = line.FetchAdd (slice_index vs 0) (slice_index vs 1) (read_mode (slice_index vs 2)) (write_mode (slice_index vs 3))
strip_make kind.Fence vs = line.Fence (fence_kind (slice_index vs 0))
strip_make kind.Print vs = line.Print (slice_index vs 0)

abbrev pub strip_kind : StripLine → StripKind
strip_kind (line.Read x v o) = kind.Read
strip_kind (line.Store x v o) = kind.Store
strip_kind (line.FetchAdd x v o p) = kind.FetchAdd
strip_kind (line.Fence o) = kind.Fence
strip_kind (line.Print v) = kind.Print

abbrev pub strip_numbers : StripLine → List ℕ
strip_numbers (line.Read x v o) = x ∷ v ∷ read_number o ∷ []
strip_numbers (line.Store x v o) = x ∷ v ∷ write_number o ∷ []
strip_numbers (line.FetchAdd x v o p) = x ∷ v ∷ read_number o ∷ write_number p ∷ []
strip_numbers (line.Fence o) = fence_number o ∷ []
strip_numbers (line.Print v) = v ∷ []

abbrev pub strip_lines : ℕ → Family StripKind StripLine
strip_lines l =
    record {
      letters = strip_letters;
      limits = strip_limits l;
      make = λ k vs. Some (strip_make k vs);
      letter_of = strip_letter;
      kind_of = strip_kind;
      numbers = strip_numbers;
    }

-- each number of the line is in range
abbrev pub StripFits : ℕ → StripLine → Type 0
StripFits l a = InRange (strip_limits l (strip_kind a)) (strip_numbers a)

-- the line for the places past a program's last
abbrev pub strip_filling : StripLine
strip_filling = line.Print 0
