-- What the lines of a family have to show.
use Rattle.std.specs.Prelude.{◌≡◌, ℕ, zero, suc, ◌+◌, ◌^◌, ◌<◌, List, [], ◌∷◌, length, Some, refl}
use Rattle.std.proofs.Common.{get_or, sym, ap, ◌∙◌, add-one}
use Rattle.lines.specs.Families.{Family, lookup}
use Rattle.lines.specs.Spelling.{InRange}

-- a table of letters that agrees with the letter of each kind
abbrev pub Right : {K : Type 0} → (K → ℕ) → List (ℕ × K) → Type 0
Right letter_of [] = Unit {0}
Right letter_of (t ∷ ts) = (letter_of t.1 ≡ t.0) × Right letter_of ts

-- every limit is a number that can be written
abbrev pub Writable : List ℕ → Type 0
Writable [] = Unit {0}
Writable (m ∷ ms) = (m < 2 ^ 64) × Writable ms

pub record Codec {K A : Type 0} (F : Family K A) (Fits : A → Type 0) : Type 0 where
  pub writable : (k : K) → Writable (F.limits k)
  pub found : (k : K) → lookup F.letters (F.letter_of k) ≡ Some k
  pub right : Right F.letter_of F.letters
  pub writes : (a : A) → Fits a → InRange (F.limits (F.kind_of a)) (F.numbers a) × (F.make (F.kind_of a) (F.numbers a) ≡ Some a)
  pub makes : (k : K) (vs : List ℕ) (a : A) → InRange (F.limits k) vs → F.make k vs ≡ Some a → (F.kind_of a ≡ k) × (F.numbers a ≡ vs) × Fits a

-- n numbers, from place k on
abbrev pub gets : ℕ → ℕ → List ℕ → List ℕ
gets k zero vs = []
gets k (suc n) vs = get_or vs k 0 ∷ gets (k + 1) n vs

gets_later : (k n : ℕ) (v : ℕ) (vs : List ℕ) → gets (k + 1) n (v ∷ vs) ≡ gets k n vs
gets_later k zero v vs = refl
gets_later k (suc n) v vs =
    let here : get_or (v ∷ vs) (k + 1) 0 ≡ get_or vs k 0 = ap (λ i. get_or (v ∷ vs) i 0) (add-one k) in
    ap (λ x. x ∷ gets (k + 1 + 1) n (v ∷ vs)) here ∙ ap (λ xs. get_or vs k 0 ∷ xs) (gets_later (k + 1) n v vs)

-- numbers that fit the limits are as many as these
pub gets_all : (ms vs : List ℕ) → InRange ms vs → gets 0 (length ms) vs ≡ vs
gets_all [] [] h = refl
gets_all [] (v ∷ vs) h = absurd h
gets_all (m ∷ ms) [] h = absurd h
gets_all (m ∷ ms) (v ∷ vs) h = ap (λ xs. v ∷ xs) (gets_later 0 (length ms) v vs ∙ gets_all ms vs h.1)

-- the codec of a family whose numbers always make a line, where the lines that fit are those whose numbers are in range
pub whole_codec : {K A : Type 0} (letters : List (ℕ × K)) (limits : K → List ℕ) (make : K → List ℕ → A) (letter_of : K → ℕ) (kind_of : A → K) (numbers : A → List ℕ) → ((k : K) → Writable (limits k)) → ((k : K) → lookup letters (letter_of k) ≡ Some k) → Right letter_of letters → ((a : A) → make (kind_of a) (numbers a) ≡ a) → ((k : K) (vs : List ℕ) → kind_of (make k vs) ≡ k) → ((k : K) (vs : List ℕ) → InRange (limits k) vs → numbers (make k vs) ≡ vs) → Codec (record { letters = letters; limits = limits; make = λ k vs. Some (make k vs); letter_of = letter_of; kind_of = kind_of; numbers = numbers }) (λ a. InRange (limits (kind_of a)) (numbers a))
whole_codec letters limits make letter_of kind_of numbers writable found right written kinds lists =
    record {
      writable = writable;
      found = found;
      right = right;
      writes = λ a fits. (fits, ap Some (written a));
      makes = λ k vs a h e.
          let made : make k vs ≡ a = cc in
          let same_kind : kind_of a ≡ k = ap kind_of (sym made) ∙ kinds k vs in
          let same_numbers : numbers a ≡ vs = ap numbers (sym made) ∙ lists k vs h in
          (same_kind, same_numbers, rw (same_kind, same_numbers) h);
    }
