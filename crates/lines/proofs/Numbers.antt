-- What one turn of the number reader keeps.
use Rattle.std.proofs.Common.{◌≡◌, ℕ, ◌+◌, ◌-◌, ◌*◌, ◌<◌, ◌≤◌, true, false, cond, List, [], ◌∷◌, length, get_or, take, drop, Some, None, sym, refl, ap, ◌∙◌, inl, inr, le-leb, arith}
use borrow.Author.Tests.{lt-leb}
use Rattle.std.proofs.lemmas.List.{drop-drop}
use Rattle.std.proofs.lemmas.Bool.{cases_lt}
use Rattle.std.specs.Prelude.{if◌then◌else◌, nat_le}
use Rattle.lines.specs.Fields.{digit, digits, value_after, up_to, plain, number}

value_grows : (v : ℕ) (ds : List ℕ) → v ≤ value_after v ds
value_grows v [] = omega arith
value_grows v (d ∷ ds) = let h = value_grows (10 * v + (d - 48)) ds in omega arith

-- a number above the largest stays above it
more_above : (most v d : ℕ) (ds : List ℕ) → up_to most (value_after (if nat_le v most then 10 * v + (d - 48) else v) ds) ≡ up_to most (value_after (10 * v + (d - 48)) ds)
more_above most v d ds = elim (cases_lt most v) [
  | inl above ↦ let a = value_grows v ds in let b = value_grows (10 * v + (d - 48)) ds in rw (lt-leb v most above, lt-leb (value_after v ds) most (omega arith), lt-leb (value_after (10 * v + (d - 48)) ds) most (omega arith))
  | inr under ↦ rw (le-leb v most under)
]

-- the number v was read of the bytes up to the rest
pub record ReadTo (most : ℕ) (bs : List ℕ) (v : ℕ) (rest : List ℕ) : Type 0 where
  pub fewer : length rest ≤ length bs
  pub left : drop (length bs - length rest) bs ≡ rest
  pub value : up_to most (value_after v (digits rest)) ≡ up_to most (value_after 0 (digits bs))
  pub count : length (digits rest) + length bs ≡ length (digits bs) + length rest

drop_1 : (i n : ℕ) (bs : List ℕ) → i + 1 ≡ n → drop n bs ≡ drop 1 (drop i bs)
drop_1 i n bs e = sym (ap (λ j. drop j bs) e) ∙ sym (drop-drop 1 i bs)

pub read_one_more : (most : ℕ) (bs : List ℕ) (v : ℕ) (rest : List ℕ) → 0 < length rest → digit (get_or rest 0 0) ≡ true → ReadTo most bs v rest → ReadTo most bs (if nat_le v most then 10 * v + (get_or rest 0 0 - 48) else v) (drop 1 rest)
read_one_more most bs v [] some d r = absurd (omega arith)
read_one_more most bs v (b ∷ rest) some d r =
    let n = length bs - length rest in
    let next : length bs - length (b ∷ rest) + 1 ≡ n = omega (arith, r.fewer) in
    record {
      fewer = omega (arith, r.fewer);
      left = rw (drop_1 (length bs - length (b ∷ rest)) n bs next) (ap (drop 1) r.left);
      value = more_above most v b (digits rest) ∙ rw d at r.value;
      count = omega (arith, rw d at r.count);
    }

-- what begins with no digit
abbrev pub Past : List ℕ → Type 0
Past [] = Unit {0}
Past (b ∷ bs) = digit b ≡ false

pub past_if : (bs : List ℕ) → (0 < length bs → digit (get_or bs 0 0) ≡ false) → Past bs
past_if [] h = tt
past_if (b ∷ bs) h = h (omega arith)

read_past : (bs : List ℕ) → Past bs → digits bs ≡ []
read_past [] h = refl
read_past (b ∷ bs) h = rw h

pub digits_in_front : (bs : List ℕ) → take (length (digits bs)) bs ≡ digits bs
digits_in_front [] = refl
digits_in_front (b ∷ bs) = elim (digit b) as (λ t. take (length (cond t (b ∷ digits bs) [])) (b ∷ bs) ≡ cond t (b ∷ digits bs) []) [ true ↦ ap (λ xs. b ∷ xs) (digits_in_front bs) | false ↦ refl ]

-- where no digit is left, the number is what was read
pub number_is : (most : ℕ) (bs : List ℕ) (v : ℕ) (rest : List ℕ) → Past rest → ReadTo most bs v rest → number most bs ≡ cond (plain (take (length bs - length rest) bs)) (Some (up_to most v, rest)) None
number_is most bs v rest past r =
    let none = read_past rest past in
    let many : length bs - length rest ≡ length (digits bs) = omega (arith, r.fewer, r.count, ap length none) in
    let front : take (length bs - length rest) bs ≡ digits bs = ap (λ n. take n bs) many ∙ digits_in_front bs in
    let back : drop (length (digits bs)) bs ≡ rest = ap (λ n. drop n bs) (sym many) ∙ r.left in
    let value : up_to most (value_after 0 (digits bs)) ≡ up_to most v = sym (rw none at r.value) in
    rw (front, value, back)
