-- Each line of a family has one spelling.
use Rattle.std.proofs.Common.{◌≡◌, ℕ, ◌<◌, eqb, List, [], ◌∷◌, ◌++◌, length, Some, None, Ok, Err, Option, Result, sym, refl, ap, ◌∙◌, subst, inl, inr, arith}
use Rattle.std.proofs.lemmas.List.{length-append}
use Rattle.std.proofs.lemmas.Bool.{cases_Bool, eqb-true}
use Rattle.lines.specs.declared.reader.LineFault.{LineFault}
use Rattle.lines.specs.Fields.{and_then, letter, line, Within}
use Rattle.lines.specs.Spelling.{spelled, InRange}
use Rattle.lines.specs.Families.{Family, lookup, in_range, made, by_kind, reads, spells, OneSpelling}
use Rattle.lines.specs.Reading.{read, unread}
use Rattle.lines.specs.Codecs.{Right, Codec}
use Rattle.std.proofs.lemmas.Option.{none-some}
use Rattle.lines.proofs.Options.{some_same, err_ok, ok_same}
use Rattle.lines.proofs.Spelled.{line_written, line_is_written, range_length, range_within}

pub right_lookup : {K : Type 0} (letter_of : K → ℕ) (ts : List (ℕ × K)) (c : ℕ) (k : K) → Right letter_of ts → lookup ts c ≡ Some k → letter_of k ≡ c
right_lookup letter_of [] c k right e = absurd (none-some _ e)
right_lookup letter_of (t ∷ ts) c k right e = elim (cases_Bool (eqb c t.0)) [
  | inl same ↦ ap letter_of (sym (some_same (rw same at e))) ∙ right.0 ∙ sym (eqb-true c t.0 same)
  | inr other ↦ right_lookup letter_of ts c k right.1 (rw other at e)
]

read_ok : {A : Type 0} (o : Result (A × List ℕ) LineFault) (a : A) (bs : List ℕ) → read o ≡ Ok a → o ≡ Ok (a, unread o bs)
read_ok (Ok p) a bs e = ap (λ x. Ok (x, p.1)) (ok_same e)
read_ok (Err f) a bs e = absurd (err_ok e)

in_range_ok : {A : Type 0} (o : Option A) (rest after : List ℕ) (a : A) → in_range o rest ≡ Ok (a, after) → (o ≡ Some a) × (rest ≡ after)
in_range_ok None rest after a e = absurd (err_ok e)
in_range_ok (Some x) rest after a e = let p = ok_same e in (ap (λ y. Some y.0) p, ap (λ y. y.1) p)

-- what a reader answered and left tells what it read
pub was_read : {A : Type 0} (o : Result (A × List ℕ) LineFault) (a : A) (bs rest : List ℕ) → Ok a ≡ read o → rest ≡ unread o bs → o ≡ Ok (a, rest)
was_read (Ok p) a bs rest e l = ap (λ x. Ok (x, p.1)) (sym (ok_same e)) ∙ ap (λ x. Ok (a, x)) (sym l)
was_read (Err f) a bs rest e l = absurd (err_ok (sym e))

pub was_refused : {A : Type 0} (o : Result (A × List ℕ) LineFault) (f : LineFault) → Err f ≡ read o → o ≡ Err f
was_refused (Ok p) f e = absurd (err_ok e)
was_refused (Err g) f e = let same : f ≡ g = cc in ap Err (sym same)

module _ {K A : Type 0} (F : Family K A) {Fits : A → Type 0} (codec : Codec F Fits) where
  -- what was read, where a line was
  record Found (bs : List ℕ) (a : A) (rest : List ℕ) : Type 0 where
    pub kind : K
    pub chosen : and_then (letter bs) (lookup F.letters) ≡ Some kind
    pub values : List ℕ
    pub lined : line (F.limits kind) bs ≡ Ok (values, rest)
    pub is : F.make kind values ≡ Some a

  by_made : (bs : List ℕ) (k : K) (o : Result (List ℕ × List ℕ) LineFault) (a : A) (rest : List ℕ) → line (F.limits k) bs ≡ o → and_then (letter bs) (lookup F.letters) ≡ Some k → made F k o ≡ Ok (a, rest) → Found bs a rest
  by_made bs k (Err f) a rest l e m = absurd (err_ok m)
  by_made bs k (Ok p) a rest l e m =
      let q = in_range_ok (F.make k p.0) p.1 rest a m in
      record { kind = k; chosen = e; values = p.0; lined = l ∙ ap (λ x. Ok (p.0, x)) q.1; is = q.0 }

  found_in : (bs : List ℕ) (o : Option K) (a : A) (rest : List ℕ) → and_then (letter bs) (lookup F.letters) ≡ o → by_kind F bs o ≡ Ok (a, rest) → Found bs a rest
  found_in bs None a rest e m = absurd (err_ok m)
  found_in bs (Some k) a rest e m = by_made bs k (line (F.limits k) bs) a rest refl e m

  pub is_spelled : (bs : List ℕ) (a : A) (rest : List ℕ) → reads F bs ≡ Ok (a, rest) → (bs ≡ spells F a ++ rest) × Fits a
  is_spelled bs a rest e =
      let f = found_in bs (and_then (letter bs) (lookup F.letters)) a rest refl e in
      let w = line_is_written (F.limits f.kind) bs f.values rest (codec.writable f.kind) f.lined in
      let m = codec.makes f.kind f.values a w.2 f.is in
      let at_front : lookup F.letters w.0 ≡ Some f.kind = sym (ap (λ xs. and_then (letter xs) (lookup F.letters)) w.1) ∙ f.chosen in
      let same : w.0 ≡ F.letter_of (F.kind_of a) = sym (right_lookup F.letter_of F.letters w.0 f.kind codec.right at_front) ∙ ap F.letter_of (sym m.0) in
      (w.1 ∙ ap (λ c. spelled c f.values ++ rest) same ∙ ap (λ vs. spelled (F.letter_of (F.kind_of a)) vs ++ rest) (sym m.1), m.2)

  pub is_read : (bs : List ℕ) (a : A) (rest : List ℕ) → Fits a → bs ≡ spells F a ++ rest → reads F bs ≡ Ok (a, rest)
  is_read bs a rest fits e =
      let w = codec.writes a fits in
      let l = line_written (F.limits (F.kind_of a)) (F.numbers a) rest (F.letter_of (F.kind_of a)) (codec.writable (F.kind_of a)) w.0 in
      ap (reads F) e ∙ rw (codec.found (F.kind_of a)) (ap (made F (F.kind_of a)) l ∙ ap (λ o. in_range o rest) w.1)

  one_spelling_at : (bs : List ℕ) → OneSpelling F Fits bs (read (reads F bs)) (unread (reads F bs) bs)
  one_spelling_at bs =
      (λ a e. is_spelled bs a (unread (reads F bs) bs) (read_ok (reads F bs) a bs e), λ a rest fits e. let r = is_read bs a rest fits e in (ap read r, ap (λ o. unread o bs) r))

  -- the same of what a call answers and leaves
  pub one_spelling : (bs : List ℕ) (r : Result A LineFault) (after : List ℕ) → r ≡ read (reads F bs) → after ≡ unread (reads F bs) bs → OneSpelling F Fits bs r after
  one_spelling bs r after e l = subst (λ x. OneSpelling F Fits bs x after) (sym e) (subst (λ x. OneSpelling F Fits bs (read (reads F bs)) x) (sym l) (one_spelling_at bs))

  pub chosen_by : (bs : List ℕ) (c : ℕ) (k : K) → Some c ≡ letter bs → Some k ≡ lookup F.letters c → and_then (letter bs) (lookup F.letters) ≡ Some k
  chosen_by bs c k l e = ap (λ o. and_then o (lookup F.letters)) (sym l) ∙ sym e

  module _ (bs : List ℕ) (k : K) (ms : List ℕ) (chosen : and_then (letter bs) (lookup F.letters) ≡ Some k) (same : ms ≡ F.limits k) where
    -- what the reader of a family answers, by what the reader of its line did
    pub refuses : (f : LineFault) → Err f ≡ read (line ms bs) → reads F bs ≡ Err f
    refuses f e = ap (by_kind F bs) chosen ∙ ap (λ xs. made F k (line xs bs)) (sym same) ∙ ap (made F k) (was_refused (line ms bs) f e)

    -- where they are in range, the line that the numbers make
    pub makes_line : (vs us after : List ℕ) (o : Option A) → Ok vs ≡ read (line ms bs) → after ≡ unread (line ms bs) bs → InRange ms vs → us ≡ vs → (length us ≡ length (F.limits k) → Within 0 (F.limits k) us → o ≡ F.make k us) → reads F bs ≡ in_range o after
    makes_line vs us after o e left h is make =
        let fits : InRange (F.limits k) us = rw (is, ← same) h in
        let lined : line (F.limits k) bs ≡ Ok (us, after) = rw (is, ← same) (was_read (line ms bs) vs bs after e left) in
        ap (by_kind F bs) chosen ∙ ap (made F k) lined ∙ ap (λ x. in_range x after) (sym (make (range_length (F.limits k) us fits) (range_within (F.limits k) us fits)))

  -- a line that is read has a letter at least
  pub reads_shorter : (bs : List ℕ) (a : A) (rest : List ℕ) → reads F bs ≡ Ok (a, rest) → length rest < length bs
  reads_shorter bs a rest e =
      let s = is_spelled bs a rest e in
      let l = ap length s.0 ∙ length-append (spells F a) rest in
      omega (arith, l)
