-- A family of lines: a letter chooses a kind, a kind its fields, and the numbers make the line.
use Rattle.std.specs.Prelude.{◌≡◌, ℕ, if◌then◌else◌, List, [], ◌∷◌, ◌++◌, Some, None, Ok, Err, Option, Result, ◌==◌}
use Rattle.lines.specs.declared.reader.LineFault.{LineFault}
use Rattle.lines.specs.declared.reader.LineFault.TheVariants.{Form, Range}
use Rattle.lines.specs.Fields.{and_then, letter, line}
use Rattle.lines.specs.Spelling.{spelled}

pub record Family (K A : Type 0) : Type 0 where
  -- the letter of each kind
  pub letters : List (ℕ × K)
  -- the largest number of each field
  pub limits : K → List ℕ
  -- the line that the numbers make, none where one is out of range
  pub make : K → List ℕ → Option A
  -- how a line is written: the letter of its kind, and its numbers
  pub letter_of : K → ℕ
  pub kind_of : A → K
  pub numbers : A → List ℕ

abbrev pub lookup : {K : Type 0} → List (ℕ × K) → ℕ → Option K
lookup [] c = None
lookup (t ∷ ts) c = if c == t.0 then Some t.1 else lookup ts c

abbrev pub in_range : {A : Type 0} → Option A → List ℕ → Result (A × List ℕ) LineFault
in_range None rest = Err Range
in_range (Some a) rest = Ok (a, rest)

module _ {K A : Type 0} (F : Family K A) where
  abbrev pub made : K → Result (List ℕ × List ℕ) LineFault → Result (A × List ℕ) LineFault
  made k (Err f) = Err f
  made k (Ok p) = in_range (F.make k p.0) p.1

  abbrev pub by_kind : List ℕ → Option K → Result (A × List ℕ) LineFault
  by_kind bs None = Err Form
  by_kind bs (Some k) = made k (line (F.limits k) bs)

  -- the line in front, and what follows it
  abbrev pub reads : List ℕ → Result (A × List ℕ) LineFault
  reads bs = by_kind bs (and_then (letter bs) (lookup F.letters))

  abbrev pub spells : A → List ℕ
  spells a = spelled (F.letter_of (F.kind_of a)) (F.numbers a)

  -- the spellings of lines, one after another
  abbrev pub all_spelled : List A → List ℕ
  all_spelled [] = []
  all_spelled (a ∷ rest) = spells a ++ all_spelled rest

  -- What is read is just the spelling of the line that is answered, which is one that fits,
  -- and each line that fits is read from its spelling.
  abbrev pub OneSpelling : (A → Type 0) → List ℕ → Result A LineFault → List ℕ → Type 0
  OneSpelling Fits before r after =
      ((a : A) → r ≡ Ok a → (before ≡ spells a ++ after) × Fits a) × ((a : A) (rest : List ℕ) → Fits a → before ≡ spells a ++ rest → (r ≡ Ok a) × (after ≡ rest))

-- what clauses see of an answer
abbrev pub seen : {A B : Type 0} → (A → B) → Result A LineFault → Result B LineFault
seen see (Ok a) = Ok (see a)
seen see (Err f) = Err f
