-- A line is one capital letter, then its fields, then a line feed.
-- A field is one space and a decimal number without leading zeros.
use Rattle.std.specs.Prelude.{ℕ, ◌+◌, ◌-◌, ◌*◌, ◌≤◌, Bool, if◌then◌else◌, not, ◌&&◌, ◌||◌, List, [], ◌∷◌, length, drop, Some, None, Ok, Err, Option, Result, ◌==◌, nat_le, nat_lt, slice_index}
use Rattle.lines.specs.declared.reader.LineFault.{LineFault}
use Rattle.lines.specs.declared.reader.LineFault.TheVariants.{Form, Range}

abbrev pub digit : ℕ → Bool
digit b = nat_le 48 b && nat_le b 57

-- the digits in front
abbrev pub digits : List ℕ → List ℕ
digits [] = []
digits (b ∷ bs) = if digit b then b ∷ digits bs else []

-- the number that digits write after v
abbrev pub value_after : ℕ → List ℕ → ℕ
value_after v [] = v
value_after v (d ∷ ds) = value_after (10 * v + (d - 48)) ds

-- at least one digit, and no leading zero
abbrev pub plain_by : ℕ → ℕ → Bool
plain_by count first = count == 1 || (nat_lt 1 count && not (first == 48))

abbrev pub plain : List ℕ → Bool
plain ds = plain_by (length ds) (slice_index ds 0)

-- a number up to the largest, or none
abbrev pub up_to : ℕ → ℕ → Option ℕ
up_to most v = if nat_le v most then Some v else None

-- a number, none where it is above the largest, and what follows it
abbrev pub number : ℕ → List ℕ → Option (Option ℕ × List ℕ)
number most bs = if plain (digits bs) then Some (up_to most (value_after 0 (digits bs)), drop (length (digits bs)) bs) else None

-- what follows the byte c
abbrev pub past : ℕ → List ℕ → Option (List ℕ)
past c [] = None
past c (b ∷ bs) = if b == c then Some bs else None

abbrev pub and_then : {A B : Type 0} → Option A → (A → Option B) → Option B
and_then None k = None
and_then (Some a) k = k a

abbrev pub field : ℕ → List ℕ → Option (Option ℕ × List ℕ)
field most bs = and_then (past 32 bs) (number most)

-- one more number in front, where all are in range
abbrev pub with_first : Option ℕ → Option (List ℕ) → Option (List ℕ)
with_first None vs = None
with_first (Some v) None = None
with_first (Some v) (Some vs) = Some (v ∷ vs)

-- a field for each of the largest numbers: the numbers, none where one is out of range, and what follows
abbrev pub fields : List ℕ → List ℕ → Option (Option (List ℕ) × List ℕ)
fields [] bs = Some (Some [], bs)
fields (m ∷ ms) bs = and_then (field m bs) (λ f. and_then (fields ms f.1) (λ g. Some (with_first f.0 g.0, g.1)))

-- form is judged over the whole line before range is
abbrev pub judged : Option (Option (List ℕ) × List ℕ) → Result (List ℕ × List ℕ) LineFault
judged None = Err Form
judged (Some (None, bs)) = Err Range
judged (Some (Some vs, bs)) = Ok (vs, bs)

-- the numbers of a line with such fields, whatever its letter, and what follows the line
abbrev pub line : List ℕ → List ℕ → Result (List ℕ × List ℕ) LineFault
line ms [] = Err Form
line ms (c ∷ bs) = judged (and_then (fields ms bs) (λ g. and_then (past 10 g.1) (λ rest. Some (g.0, rest))))

-- the letter of the line that comes next
abbrev pub letter : List ℕ → Option ℕ
letter [] = None
letter (c ∷ bs) = Some c

-- each number is at most its limit: those from place k on
abbrev pub Within : ℕ → List ℕ → List ℕ → Type 0
Within k [] vs = Unit {0}
Within k (m ∷ ms) vs = (slice_index vs k ≤ m) × Within (k + 1) ms vs
