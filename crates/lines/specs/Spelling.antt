-- How a line is written.
use Rattle.std.specs.Prelude.{ℕ, ◌≤◌, List, [], ◌∷◌, ◌++◌, decimal}

-- each field is one space and its number; a line feed ends the line
abbrev pub spelled_fields : List ℕ → List ℕ
spelled_fields [] = 10 ∷ []
spelled_fields (v ∷ vs) = 32 ∷ (decimal v ++ spelled_fields vs)

abbrev pub spelled : ℕ → List ℕ → List ℕ
spelled c vs = c ∷ spelled_fields vs

-- as many numbers as limits, each at most its own
abbrev pub InRange : List ℕ → List ℕ → Type 0
InRange [] [] = Unit {0}
InRange [] (v ∷ vs) = ⊥
InRange (m ∷ ms) [] = ⊥
InRange (m ∷ ms) (v ∷ vs) = (v ≤ m) × InRange ms vs
