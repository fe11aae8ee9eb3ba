-- The text of a report, and what a call does with it.
use Rattle.std.specs.Prelude.{ℕ, ◌+◌, ◌-◌, if◌then◌else◌, List, [], ◌∷◌, ◌++◌, length, take, replicate}
use Rattle.std.specs.Prelude.{nat_lt}

-- the most bytes that a text keeps
abbrev pub most_text : ℕ
most_text = 2400

-- the least length of a report's buffer
abbrev pub least_report : ℕ
least_report = 2400

-- a text with another one after it, of which so many bytes are kept
abbrev pub added : List ℕ → List ℕ → List ℕ
added text more = take most_text (text ++ more)

-- the texts of the elements of a list, one after another; each has its number, the first one k
abbrev pub texts : {A : Type 0} → (ℕ → A → List ℕ) → ℕ → List A → List ℕ
texts text k [] = []
texts text k (a ∷ rest) = text k a ++ texts text (k + 1) rest

-- what a call answers, by the length of its buffer: nothing where that is under the least
abbrev pub answer : List ℕ → ℕ → ℕ
answer text n = if nat_lt n least_report then 0 else length text

-- and what it leaves there: the text, then zeros to the last byte
abbrev pub left : List ℕ → List ℕ → List ℕ
left text buffer =
    if nat_lt (length buffer) least_report then buffer else text ++ replicate (length buffer - length text) 0
