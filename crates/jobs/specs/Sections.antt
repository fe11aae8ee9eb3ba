-- D o k: the offset and the length of a section, and how the sections lie.
use Rattle.std.specs.Prelude.{◌≡◌, ℕ, ◌+◌, ◌≤◌, Bool, true, false, if◌then◌else◌, ◌&&◌, List, [], ◌∷◌, Some, None, Option, ◌==◌, nat_le, slice_index}
use Rattle.lines.specs.Families.{Family}
use Rattle.jobs.specs.declared.section.Section.{Section}

abbrev pub section_lines : Family (Unit {0}) Section
section_lines =
    record {
      letters = (68, tt) ∷ [];
      limits = λ _. 65535 ∷ 65535 ∷ [];
      make = λ _ vs. Some (record { offset = slice_index vs 0; length = slice_index vs 1 });
      letter_of = λ _. 68;
      kind_of = λ _. tt;
      numbers = λ s. s.offset ∷ s.length ∷ [];
    }

abbrev pub SectionFits : Section → Type 0
SectionFits s = (s.offset ≤ 65535) × (s.length ≤ 65535)

-- the sections lie one after another, from `start` to `end`
abbrev pub Tiles : ℕ → List Section → ℕ → Type 0
Tiles start [] end = start ≡ end
Tiles start (s ∷ ss) end = (s.offset ≡ start) × Tiles (start + s.length) ss end

-- the section begins at `start`, and does not pass `end`; the last one ends there
abbrev pub lies : ℕ → Section → Bool → ℕ → Bool
lies start s last end = s.offset == start && (if last then start + s.length == end else nat_le (start + s.length) end)

abbrev pub none_left : List Section → Bool
none_left [] = true
none_left (s ∷ ss) = false

-- the number of the first section that does not, where the list's first has number k
abbrev pub first_wrong : ℕ → ℕ → List Section → ℕ → Option ℕ
first_wrong k start [] end = None
first_wrong k start (s ∷ ss) end = if lies start s (none_left ss) end then first_wrong (k + 1) (start + s.length) ss end else Some k
