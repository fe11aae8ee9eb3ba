-- What is wrong with the line in front of bytes, in words of how lines are written.
use Rattle.std.specs.Prelude.{◌≡◌, ℕ, ◌≤◌, List, [], ◌∷◌, ◌++◌, length, Err, Result, ◌≢◌}
use Rattle.std.specs.List.{AllByRecursion}
use Rattle.lines.specs.declared.reader.LineFault.{LineFault}
use Rattle.lines.specs.declared.reader.LineFault.TheVariants.{Form, Range}
use Rattle.lines.specs.Families.{Family, spells}

abbrev pub IsDigit : ℕ → Type 0
IsDigit b = (48 ≤ b) × (b ≤ 57)

-- a number of any length in decimal: one digit, or several, of which the first is not 0
pub data IsNumeral : List ℕ → Type 0 where
  one_digit : (d : ℕ) → IsDigit d → IsNumeral (d ∷ [])
  several : (d : ℕ) (ds : List ℕ) → IsDigit d → d ≢ 48 → AllByRecursion IsDigit ds → IsNumeral (d ∷ ds)

-- fields as they stand in a file: each is one space and a numeral; a line feed ends the line
abbrev pub fields_text : List (List ℕ) → List ℕ
fields_text [] = 10 ∷ []
fields_text (numeral ∷ more) = 32 ∷ (numeral ++ fields_text more)

module _ {K A : Type 0} (F : Family K A) where
  -- a line of the family's form stands in front: the letter of a kind, and a numeral for each field,
  -- of any size
  pub record HasForm (bs : List ℕ) : Type 0 where
    pub kind : K
    pub numerals : List (List ℕ)
    pub rest : List ℕ
    pub numeral : AllByRecursion IsNumeral numerals
    pub many : length numerals ≡ length (F.limits kind)
    pub text : bs ≡ F.letter_of kind ∷ (fields_text numerals ++ rest)

  -- the spelling of a line in range stands in front
  abbrev pub HasLine : (A → Type 0) → List ℕ → Type 0
  HasLine Fits bs = (a : A) × (rest : List ℕ) × Fits a × (bs ≡ spells F a ++ rest)

  -- no line can be read: none of the form stands in front, or one of the form that is no line in range
  pub data NoLine (Fits : A → Type 0) (bs : List ℕ) : LineFault → Type 0 where
    formless : (HasForm bs → ⊥) → NoLine Fits bs Form
    out_of_range : HasForm bs → (HasLine Fits bs → ⊥) → NoLine Fits bs Range

  -- a line is refused exactly for what is wrong with it
  abbrev pub RefusesLine : (A → Type 0) → List ℕ → Result A LineFault → Type 0
  RefusesLine Fits bs r = (f : LineFault) → (r ≡ Err f → NoLine Fits bs f) × (NoLine Fits bs f → r ≡ Err f)
