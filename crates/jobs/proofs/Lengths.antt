-- How long the lines of a report can be.
use Rattle.std.proofs.Common.{ℕ, ◌+◌, ◌^◌, ◌<◌, ◌≤◌, List, [], ◌∷◌, length, decimal, arith, length-append}
use Rattle.std.proofs.lemmas.Fmt.{length-decimal-le}
use Rattle.lines.specs.Spelling.{spelled_fields}

-- each number has at most so many digits
abbrev pub Digits : List ℕ → List ℕ → Type 0
Digits [] [] = Unit {0}
Digits [] (v ∷ vs) = ⊥
Digits (w ∷ ws) [] = ⊥
Digits (w ∷ ws) (v ∷ vs) = (0 < w) × (v < 10 ^ w) × (v < 2 ^ 64) × Digits ws vs

-- the room that fields of so many digits take, with the line feed
abbrev pub room : List ℕ → ℕ
room [] = 1
room (w ∷ ws) = 1 + w + room ws

pub fields_within : (ws vs : List ℕ) → Digits ws vs → length (spelled_fields vs) ≤ room ws
fields_within [] [] h = omega arith
fields_within [] (v ∷ vs) h = absurd h
fields_within (w ∷ ws) [] h = absurd h
fields_within (w ∷ ws) (v ∷ vs) h =
    let a = length-append (decimal v) (spelled_fields vs) in
    let b = length-decimal-le w v h.0 h.1 h.2 in
    let c = fields_within ws vs h.3 in
    omega arith
