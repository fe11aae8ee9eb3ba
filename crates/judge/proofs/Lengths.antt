-- How long the lines of a report can be.
use Rattle.std.proofs.Common.{ℕ, zero, suc, ◌+◌, ◌*◌, ◌<◌, ◌≤◌, List, [], ◌∷◌, ◌++◌, length, get_or, decimal, arith, length-append}
use Rattle.std.proofs.lemmas.Fmt.{length-decimal-le}
use Rattle.lines.specs.Spelling.{spelled_fields}

-- numbers below 65,536
abbrev pub Narrow : List ℕ → Type 0
Narrow vs = (k : ℕ) → get_or vs k 0 < 65536

pub narrow_push : (vs : List ℕ) (v : ℕ) → v < 65536 → Narrow vs → Narrow (vs ++ v ∷ [])
narrow_push [] v h n zero = h
narrow_push [] v h n (suc k) = omega arith
narrow_push (a ∷ vs) v h n zero = n zero
narrow_push (a ∷ vs) v h n (suc k) = narrow_push vs v h (λ j. n (suc j)) k

fives : (vs : List ℕ) → Narrow vs → length (spelled_fields vs) ≤ 6 * length vs + 1
fives [] h = omega arith
fives (v ∷ vs) h =
    let a = length-append (decimal v) (spelled_fields vs) in
    let small : v < 65536 = h 0 in
    let b = length-decimal-le 5 v (omega arith) (omega arith) (omega arith) in
    let c = fives vs (λ k. h (suc k)) in
    omega arith

-- a number of one digit, and then numbers below 65,536
pub digit_and_fives : (i : ℕ) (vs : List ℕ) → i < 10 → Narrow (i ∷ vs) → length (spelled_fields (i ∷ vs)) ≤ 6 * length vs + 3
digit_and_fives i vs small h =
    let a = length-append (decimal i) (spelled_fields vs) in
    let b = length-decimal-le 1 i (omega arith) (omega arith) (omega arith) in
    let c = fives vs (λ k. h (suc k)) in
    omega arith
