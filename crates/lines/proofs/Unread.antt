-- A line is refused exactly for what is wrong with it.
use Rattle.std.proofs.Common.{◌≡◌, ℕ, suc, true, leb, List, [], ◌∷◌, ◌++◌, length, drop, Some, None, Ok, Err, Option, Result, sym, refl, ap, ◌∙◌, inl, inr, append_assoc, le-leb, arith}
use Rattle.std.proofs.lemmas.Bool.{cases_Bool, and_parts, leb-true}
use Rattle.std.proofs.lemmas.List.{drop_at}
use Rattle.std.proofs.lemmas.Option.{none-some}
use Rattle.std.specs.List.{AllByRecursion}
use Rattle.lines.specs.declared.reader.LineFault.{LineFault}
use Rattle.lines.specs.declared.reader.LineFault.TheVariants.{Form, Range}
use Rattle.lines.specs.Fields.{digit, digits, value_after, plain, up_to, number, past, field, with_first, fields, judged, line, and_then}
use Rattle.lines.specs.Families.{Family, lookup, in_range, made, by_kind, reads}
use Rattle.lines.specs.LineLaws.{IsDigit, IsNumeral, one_digit, several, fields_text, HasForm, NoLine, formless, out_of_range, RefusesLine}
use Rattle.lines.specs.Reading.{read}
use Rattle.lines.specs.Codecs.{Codec}
use Rattle.lines.proofs.Options.{some_same, err_ok, err_same, and_then_some}
use Rattle.lines.proofs.Spelled.{all_digits, Stops, digits_all, digits_front, digits_append, plain_from, plain_tells, past_some}
use Rattle.lines.proofs.Familiar.{is_spelled, is_read, right_lookup}

-- a numeral is read to its end, and what is read is a numeral

digit_is : (d : ℕ) → IsDigit d → digit d ≡ true
digit_is d h = rw (le-leb 48 d h.0, le-leb d 57 h.1)

is_digit : (d : ℕ) → digit d ≡ true → IsDigit d
is_digit d e = let p = and_parts (leb 48 d) (leb d 57) e in (leb-true 48 d p.0, leb-true d 57 p.1)

digits_are : (ds : List ℕ) → AllByRecursion IsDigit ds → all_digits ds ≡ true
digits_are [] h = refl
digits_are (d ∷ ds) h = rw (digit_is d h.0) (digits_are ds h.1)

are_digits : (ds : List ℕ) → all_digits ds ≡ true → AllByRecursion IsDigit ds
are_digits [] e = tt
are_digits (d ∷ ds) e = let p = and_parts (digit d) (all_digits ds) e in (is_digit d p.0, are_digits ds p.1)

numeral_digits : (ds : List ℕ) → IsNumeral ds → all_digits ds ≡ true
numeral_digits ds (one_digit d h) = rw (digit_is d h)
numeral_digits ds (several d more h n all) = rw (digit_is d h) (digits_are more all)

numeral_plain : (ds : List ℕ) → IsNumeral ds → plain ds ≡ true
numeral_plain ds (one_digit d h) = refl
numeral_plain ds (several d more h n all) = plain_from (d ∷ more) (omega arith) (λ e. absurd (n e))

plain_numeral : (ds : List ℕ) → all_digits ds ≡ true → plain ds ≡ true → IsNumeral ds
plain_numeral [] all p = absurd (omega (arith, (plain_tells [] p).0))
plain_numeral (d ∷ []) all p = one_digit d (is_digit d (and_parts (digit d) true all).0)
plain_numeral (d ∷ e ∷ ds) all p =
    let both = and_parts (digit d) (all_digits (e ∷ ds)) all in
    let lead = (plain_tells (d ∷ e ∷ ds) p).1 in
    several d (e ∷ ds) (is_digit d both.0) (λ z. absurd (omega (arith, lead z))) (are_digits (e ∷ ds) both.1)

numeral_read : (most : ℕ) (ds bs : List ℕ) → IsNumeral ds → Stops bs → number most (ds ++ bs) ≡ Some (up_to most (value_after 0 ds), bs)
numeral_read most ds bs n stops =
    let front : digits (ds ++ bs) ≡ ds = digits_append ds bs (numeral_digits ds n) stops in
    let rest : drop (length ds) (ds ++ bs) ≡ bs = drop_at ds bs _ refl in
    rw (front, numeral_plain ds n, rest)

read_numeral : (most : ℕ) (v : Option ℕ) (bs rest : List ℕ) → number most bs ≡ Some (v, rest) → IsNumeral (digits bs) × (bs ≡ digits bs ++ rest)
read_numeral most v bs rest e = elim (cases_Bool (plain (digits bs))) [
  | inl p ↦ let q = some_same (rw p at e) in (plain_numeral (digits bs) (digits_all bs) p, digits_front bs ∙ ap (λ x. digits bs ++ x.1) q)
  | inr f ↦ absurd (none-some _ (rw f at e))
]

-- fields are read wherever their text stands, and nowhere else

stops_text : (numerals : List (List ℕ)) (rest : List ℕ) → Stops (fields_text numerals ++ rest)
stops_text [] rest = refl
stops_text (n ∷ ns) rest = refl

text_read : (ms : List ℕ) (numerals : List (List ℕ)) (rest : List ℕ) → AllByRecursion IsNumeral numerals → length numerals ≡ length ms → (o : Option (List ℕ)) × (fields ms (fields_text numerals ++ rest) ≡ Some (o, 10 ∷ rest))
text_read [] [] rest all many = (Some [], refl)
text_read [] (n ∷ ns) rest all many = absurd (omega arith)
text_read (m ∷ ms) [] rest all many = absurd (omega arith)
text_read (m ∷ ms) (n ∷ ns) rest all many =
    let one = numeral_read m n (fields_text ns ++ rest) all.0 (stops_text ns rest) in
    let more = text_read ms ns rest all.1 (omega arith) in
    (with_first (up_to m (value_after 0 n)) more.0, rw (append_assoc n (fields_text ns) rest, one, more.1))

-- the text of fields, where they were read
record Text (ms bs after : List ℕ) : Type 0 where
  pub numerals : List (List ℕ)
  pub numeral : AllByRecursion IsNumeral numerals
  pub many : length numerals ≡ length ms
  pub text : bs ≡ fields_text numerals ++ after

read_text : (ms bs : List ℕ) (o : Option (List ℕ)) (rest after : List ℕ) → fields ms bs ≡ Some (o, rest) → rest ≡ 10 ∷ after → Text ms bs after
read_text [] bs o rest after e r = record { numerals = []; numeral = tt; many = refl; text = ap (λ x. x.1) (some_same e) ∙ r }
read_text (m ∷ ms) bs o rest after e r =
    let f = and_then_some (field m bs) _ (o, rest) e in
    let g = and_then_some (fields ms f.0.1) _ (o, rest) f.2 in
    let p = some_same g.2 in
    let n = and_then_some (past 32 bs) (number m) f.0 f.1 in
    let one = read_numeral m f.0.0 n.0 f.0.1 n.2 in
    let more = read_text ms f.0.1 g.0.0 g.0.1 after g.1 (ap (λ x. x.1) p ∙ r) in
    record {
      numerals = digits n.0 ∷ more.numerals;
      numeral = (one.0, more.numeral);
      many = ap suc more.many;
      text = past_some 32 bs n.0 n.1 ∙ ap (λ xs. 32 ∷ xs) (one.1 ∙ ap (λ xs. digits n.0 ++ xs) more.text ∙ sym (append_assoc (digits n.0) (fields_text more.numerals) after));
    }

-- a line of the form is never refused for it, and one that is not refused for its form has it

judged_range : (o : Option (List ℕ)) (rest : List ℕ) → judged (Some (o, rest)) ≡ Err Form → ⊥
judged_range None rest e = absurd (cc)
judged_range (Some vs) rest e = absurd (cc)

line_text : (ms : List ℕ) (c : ℕ) (numerals : List (List ℕ)) (rest : List ℕ) → AllByRecursion IsNumeral numerals → length numerals ≡ length ms → line ms (c ∷ (fields_text numerals ++ rest)) ≡ Err Form → ⊥
line_text ms c numerals rest all many e =
    let t = text_read ms numerals rest all many in
    judged_range t.0 rest (rw t.1 at e)

text_fed : (ms bs : List ℕ) (g : Option (List ℕ) × List ℕ) (o : Option (List ℕ)) → fields ms bs ≡ Some g → (past 10 g.1 ≡ o) → (judged (and_then o (λ rest. Some (g.0, rest))) ≡ Err Form → ⊥) → (after : List ℕ) × Text ms bs after
text_fed ms bs g None e p n = absurd (n refl)
text_fed ms bs g (Some after) e p n = (after, read_text ms bs g.0 g.1 after e (past_some 10 g.1 after p))

text_line : (ms bs : List ℕ) (o : Option (Option (List ℕ) × List ℕ)) → fields ms bs ≡ o → (judged (and_then o (λ g. and_then (past 10 g.1) (λ rest. Some (g.0, rest)))) ≡ Err Form → ⊥) → (after : List ℕ) × Text ms bs after
text_line ms bs None e n = absurd (n refl)
text_line ms bs (Some g) e n = text_fed ms bs g (past 10 g.1) e refl n

module _ {K A : Type 0} (F : Family K A) {Fits : A → Type 0} (codec : Codec F Fits) where
  in_range_form : (o : Option A) (rest : List ℕ) → in_range o rest ≡ Err Form → ⊥
  in_range_form None rest e = absurd (cc)
  in_range_form (Some a) rest e = absurd (cc)

  made_form : (k : K) (r : Result (List ℕ × List ℕ) LineFault) → made F k r ≡ Err Form → r ≡ Err Form
  made_form k (Err f) e = ap Err (err_same e)
  made_form k (Ok p) e = absurd (in_range_form (F.make k p.0) p.1 e)

  has_form : (bs : List ℕ) → HasForm F bs → reads F bs ≡ Err Form → ⊥
  has_form bs h e =
      let c = F.letter_of h.kind in
      let text = c ∷ (fields_text h.numerals ++ h.rest) in
      let here : by_kind F text (lookup F.letters c) ≡ Err Form = rw h.text at e in
      let chosen : made F h.kind (line (F.limits h.kind) text) ≡ Err Form = rw (codec.found h.kind) at here in
      line_text (F.limits h.kind) c h.numerals h.rest h.numeral h.many (made_form h.kind (line (F.limits h.kind) text) chosen)

  form_of : (c : ℕ) (bs : List ℕ) (o : Option K) → lookup F.letters c ≡ o → (by_kind F (c ∷ bs) o ≡ Err Form → ⊥) → HasForm F (c ∷ bs)
  form_of c bs None e n = absurd (n refl)
  form_of c bs (Some k) e n =
      let t = text_line (F.limits k) bs (fields (F.limits k) bs) refl (λ f. n (ap (made F k) f)) in
      record {
        kind = k;
        numerals = t.1.numerals;
        rest = t.0;
        numeral = t.1.numeral;
        many = t.1.many;
        text = ap (λ x. x ∷ bs) (sym (right_lookup F.letter_of F.letters c k codec.right e)) ∙ ap (λ xs. F.letter_of k ∷ xs) t.1.text;
      }

  formed : (bs : List ℕ) → (reads F bs ≡ Err Form → ⊥) → HasForm F bs
  formed [] n = absurd (n refl)
  formed (c ∷ bs) n = form_of c bs (lookup F.letters c) refl n

  pub no_line : (bs : List ℕ) (f : LineFault) → reads F bs ≡ Err f → NoLine F Fits bs f
  no_line bs Form e = formless (λ h. has_form bs h e)
  no_line bs Range e =
      out_of_range (formed bs (λ f. absurd (cc))) (λ h. absurd (err_ok (sym e ∙ is_read F codec bs h.0 h.1 h.2 h.3)))

  refused : (bs : List ℕ) (f : LineFault) (r : Result (A × List ℕ) LineFault) → reads F bs ≡ r → NoLine F Fits bs f → r ≡ Err f
  refused bs Form (Err Form) e (formless n) = refl
  refused bs Form (Err Range) e (formless n) = absurd (n (formed bs (λ f. absurd (cc))))
  refused bs Form (Ok p) e (formless n) = absurd (n (formed bs (λ f. absurd (cc))))
  refused bs Range (Err Form) e (out_of_range h n) = absurd (has_form bs h e)
  refused bs Range (Err Range) e (out_of_range h n) = refl
  refused bs Range (Ok p) e (out_of_range h n) =
      let s = is_spelled F codec bs p.0 p.1 e in
      absurd (n (p.0, p.1, s.1, s.0))

  pub line_refused : (bs : List ℕ) (f : LineFault) → NoLine F Fits bs f → reads F bs ≡ Err f
  line_refused bs f h = refused bs f (reads F bs) refl h

  read_refused : (o : Result (A × List ℕ) LineFault) (f : LineFault) → read o ≡ Err f → o ≡ Err f
  read_refused (Ok p) f e = absurd (cc)
  read_refused (Err g) f e = ap Err (err_same e)

  -- the same of what a call answers
  pub refuses_line : (bs : List ℕ) (r : Result A LineFault) → r ≡ read (reads F bs) → RefusesLine F Fits bs r
  refuses_line bs r e f = (λ h. no_line bs f (read_refused (reads F bs) f (sym e ∙ h)), λ n. e ∙ ap read (line_refused bs f n))
