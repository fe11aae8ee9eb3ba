-- A line has one spelling: what is read is what was written, and what was written is read.
use Rattle.std.proofs.Common.{◌≡◌, ℕ, zero, suc, ◌+◌, ◌^◌, ◌<◌, ◌≤◌, Bool, true, ◌&&◌, eqb, leb, ltb, not, List, [], ◌∷◌, ◌++◌, length, get_or, drop, Some, None, Ok, decimal, Option, sym, refl, ap, ◌∙◌, subst, inl, inr, append_assoc, arith, rules}
use Rattle.std.proofs.lemmas.List.{nil_from_length, drop_at, take-append-drop}
use Rattle.std.proofs.lemmas.Bool.{cases_Bool, cases_eq, and_parts, leb-true, eqb-true, eqb-false, ltb-true, lt-ltb, le-leb, eq-eqb, ne_eqb, not-true}
use Rattle.std.proofs.lemmas.Str.Parse.{IsNumeralModel, numerals_by_fold}
use Rattle.std.proofs.lemmas.Fmt.{digits_decimal, digits_value-decimal, decimal-digits_value, decimal_nonempty, first_decimal, decimal_digit}
use Rattle.std.proofs.lemmas.Option.{none-some}
use Rattle.lines.proofs.Options.{some_same, err_ok, ok_same, and_then_some}
use Rattle.lines.proofs.Numbers.{digits_in_front}
use Rattle.lines.specs.Fields.{digit, digits, value_after, plain, up_to, number, past, field, with_first, fields, judged, line, Within}
use Rattle.lines.specs.Codecs.{Writable}
use Rattle.lines.specs.Spelling.{spelled_fields, spelled, InRange}

abbrev pub all_digits : List ℕ → Bool
all_digits [] = true
all_digits (d ∷ ds) = digit d && all_digits ds

own : IsNumeralModel (λ ds. all_digits ds ≡ true) (value_after 0)
own = numerals_by_fold _ (search rules) value_after (search rules)

-- what follows a number begins with no digit
abbrev pub Stops : List ℕ → Type 0
Stops bs = length (digits bs) ≡ 0

pub digits_all : (bs : List ℕ) → all_digits (digits bs) ≡ true
digits_all [] = refl
digits_all (b ∷ bs) = elim (cases_Bool (digit b)) [ inl e ↦ rw (e, e) (digits_all bs) | inr e ↦ rw e ]

pub digits_front : (bs : List ℕ) → bs ≡ digits bs ++ drop (length (digits bs)) bs
digits_front bs = sym (take-append-drop (length (digits bs)) bs) ∙ ap (λ xs. xs ++ drop (length (digits bs)) bs) (digits_in_front bs)

pub digits_append : (ds bs : List ℕ) → all_digits ds ≡ true → Stops bs → digits (ds ++ bs) ≡ ds
digits_append [] bs all stops = nil_from_length (digits bs) stops
digits_append (d ∷ ds) bs all stops = let p = and_parts (digit d) (all_digits ds) all in rw p.0 (ap (λ xs. d ∷ xs) (digits_append ds bs p.1 stops))

pub plain_from : (ds : List ℕ) → 0 < length ds → (get_or ds 0 0 ≡ 48 → length ds ≡ 1) → plain ds ≡ true
plain_from ds some lead = elim (cases_eq (length ds) 1) [
  | inl one ↦ rw (eq-eqb (length ds) 1 one)
  | inr more ↦ rw (ne_eqb (length ds) 1 more, lt-ltb 1 (length ds) (omega arith), ne_eqb (get_or ds 0 0) 48 (λ e. more (lead e)))
]

pub plain_tells : (ds : List ℕ) → plain ds ≡ true → (0 < length ds) × (get_or ds 0 0 ≡ 48 → length ds ≡ 1)
plain_tells ds p = elim (cases_eq (length ds) 1) [
  | inl one ↦ (omega arith, λ _. one)
  | inr more ↦ let q : (ltb 1 (length ds) ≡ true) × (not (eqb (get_or ds 0 0) 48) ≡ true) = and_parts _ _ (rw (ne_eqb (length ds) 1 more) at p) in (omega (arith, ltb-true 1 (length ds) q.0), λ e. absurd (eqb-false (get_or ds 0 0) 48 (not-true _ q.1) e))
]

plain_decimal : (v : ℕ) → v < 2 ^ 64 → plain (decimal v) ≡ true
plain_decimal v small = plain_from (decimal v) (decimal_nonempty v small) (λ e. elim (cases_eq v 0) [
  | inl z ↦ ap length (decimal_digit v (omega arith))
  | inr n ↦ absurd (omega (arith, first_decimal v (omega arith) small))
])

-- a number has one spelling

number_written : (most v : ℕ) (bs : List ℕ) → v ≤ most → v < 2 ^ 64 → Stops bs → number most (decimal v ++ bs) ≡ Some (Some v, bs)
number_written most v bs h small stops =
    let ds : digits (decimal v ++ bs) ≡ decimal v = digits_append (decimal v) bs (digits_decimal own v small) stops in
    let is_plain : plain (decimal v) ≡ true = plain_decimal v small in
    let is-value : value_after 0 (decimal v) ≡ v = digits_value-decimal own v small in
    let rest : drop (length (decimal v)) (decimal v ++ bs) ≡ bs = drop_at (decimal v) bs _ refl in
    rw (ds, is_plain, is-value, le-leb v most h, rest)

up_to_some : (most v w : ℕ) → up_to most v ≡ Some w → (v ≡ w) × (v ≤ most)
up_to_some most v w e = elim (cases_Bool (leb v most)) [
  | inl t ↦ (some_same (rw t at e), leb-true v most t)
  | inr f ↦ absurd (none-some _ (rw f at e))
]

number_parts : (most v : ℕ) (bs rest : List ℕ) → most < 2 ^ 64 → plain (digits bs) ≡ true → ◌≡◌ {A = Option ℕ × List ℕ} (up_to most (value_after 0 (digits bs)), drop (length (digits bs)) bs) (Some v, rest) → (bs ≡ decimal v ++ rest) × (v ≤ most)
number_parts most v bs rest small p e =
    let t = plain_tells (digits bs) p in
    let u = up_to_some most (value_after 0 (digits bs)) v (ap (λ x. x.0) e) in
    let ds : decimal (value_after 0 (digits bs)) ≡ digits bs = decimal-digits_value own (digits bs) (digits_all bs) t.0 t.1 (omega (arith, u.1)) in
    (digits_front bs ∙ ap (λ xs. xs ++ drop (length (digits bs)) bs) (sym ds ∙ ap decimal u.0) ∙ ap (λ xs. decimal v ++ xs) (ap (λ x. x.1) e), omega (arith, u.0, u.1))

number_is_written : (most v : ℕ) (bs rest : List ℕ) → most < 2 ^ 64 → number most bs ≡ Some (Some v, rest) → (bs ≡ decimal v ++ rest) × (v ≤ most)
number_is_written most v bs rest small e = elim (cases_Bool (plain (digits bs))) [
  | inl p ↦ number_parts most v bs rest small p (some_same (rw p at e))
  | inr f ↦ absurd (none-some _ (rw f at e))
]

pub past_some : (c : ℕ) (bs rest : List ℕ) → past c bs ≡ Some rest → bs ≡ c ∷ rest
past_some c [] rest e = absurd (cc)
past_some c (b ∷ bs) rest e = elim (cases_Bool (eqb b c)) [
  | inl t ↦ let same : bs ≡ rest = some_same (rw t at e) in ap (λ x. x ∷ bs) (eqb-true b c t) ∙ ap (λ xs. c ∷ xs) same
  | inr f ↦ absurd (none-some _ (rw f at e))
]

-- fields have one spelling

with_first_some : (v : Option ℕ) (vs : Option (List ℕ)) (us : List ℕ) → with_first v vs ≡ Some us → (w : ℕ) × (ws : List ℕ) × (v ≡ Some w) × (vs ≡ Some ws) × (us ≡ w ∷ ws)
with_first_some None vs us e = absurd (none-some _ e)
with_first_some (Some w) None us e = absurd (none-some _ e)
with_first_some (Some w) (Some ws) us e = (w, ws, refl, refl, sym (some_same e))

stops_fields : (vs rest : List ℕ) → Stops (spelled_fields vs ++ rest)
stops_fields [] rest = refl
stops_fields (v ∷ vs) rest = refl

pub fields_written : (ms vs rest : List ℕ) → Writable ms → InRange ms vs → fields ms (spelled_fields vs ++ rest) ≡ Some (Some vs, 10 ∷ rest)
fields_written [] [] rest small h = refl
fields_written [] (v ∷ vs) rest small h = absurd h
fields_written (m ∷ ms) [] rest small h = absurd h
fields_written (m ∷ ms) (v ∷ vs) rest small h =
    let one : number m (decimal v ++ (spelled_fields vs ++ rest)) ≡ Some (Some v, spelled_fields vs ++ rest) = number_written m v (spelled_fields vs ++ rest) h.0 (omega (arith, h.0, small.0)) (stops_fields vs rest) in
    let more = fields_written ms vs rest small.1 h.1 in
    rw (append_assoc (decimal v) (spelled_fields vs) rest, one, more)

-- the first of several fields, and the others
fields_parts : (m : ℕ) (ms bs us rest : List ℕ) → fields (m ∷ ms) bs ≡ Some (Some us, rest) → (v : ℕ) × (ws : List ℕ) × (mid : List ℕ) × (field m bs ≡ Some (Some v, mid)) × (fields ms mid ≡ Some (Some ws, rest)) × (us ≡ v ∷ ws)
fields_parts m ms bs us rest e =
    let f = and_then_some (field m bs) _ (Some us, rest) e in
    let g = and_then_some (fields ms f.0.1) _ (Some us, rest) f.2 in
    let p = some_same g.2 in
    let w = with_first_some f.0.0 g.0.0 us (ap (λ x. x.0) p) in
    (w.0, w.1, f.0.1, f.1 ∙ ap (λ v. Some (v, f.0.1)) w.2, g.1 ∙ ap (λ v. Some (v, g.0.1)) w.3 ∙ ap (λ r. Some (Some w.1, r)) (ap (λ x. x.1) p), w.4)

number_range : (most v : ℕ) (bs rest : List ℕ) → number most bs ≡ Some (Some v, rest) → v ≤ most
number_range most v bs rest e = elim (cases_Bool (plain (digits bs))) [
  | inl p ↦ let u = up_to_some most (value_after 0 (digits bs)) v (ap (λ x. x.0) (some_same (rw p at e))) in omega (arith, u.0, u.1)
  | inr f ↦ absurd (none-some _ (rw f at e))
]

pub fields_range : (ms bs vs rest : List ℕ) → fields ms bs ≡ Some (Some vs, rest) → InRange ms vs
fields_range [] bs vs rest e =
    let none : [] ≡ vs = some_same (ap (λ x. x.0) (some_same e)) in
    subst (λ us. InRange [] us) none tt
fields_range (m ∷ ms) bs vs rest e =
    let f = fields_parts m ms bs vs rest e in
    let n = and_then_some (past 32 bs) (number m) (Some f.0, f.2) f.3 in
    subst (λ us. InRange (m ∷ ms) us) (sym f.5) (number_range m f.0 n.0 f.2 n.2, fields_range ms f.2 f.1 rest f.4)

pub fields_are_written : (ms bs vs rest after : List ℕ) → Writable ms → fields ms bs ≡ Some (Some vs, rest) → rest ≡ 10 ∷ after → bs ≡ spelled_fields vs ++ after
fields_are_written [] bs vs rest after small e r =
    let p = some_same e in
    let none : [] ≡ vs = some_same (ap (λ x. x.0) p) in
    ap (λ x. x.1) p ∙ r ∙ ap (λ xs. spelled_fields xs ++ after) none
fields_are_written (m ∷ ms) bs vs rest after small e r =
    let f = fields_parts m ms bs vs rest e in
    let n = and_then_some (past 32 bs) (number m) (Some f.0, f.2) f.3 in
    let w = number_is_written m f.0 n.0 f.2 small.0 n.2 in
    let more = fields_are_written ms f.2 f.1 rest after small.1 f.4 r in
    past_some 32 bs n.0 n.1 ∙ ap (λ xs. 32 ∷ xs) (w.0 ∙ ap (λ xs. decimal f.0 ++ xs) more ∙ sym (append_assoc (decimal f.0) (spelled_fields f.1) after)) ∙ ap (λ us. spelled_fields us ++ after) (sym f.5)

-- a line has one spelling

judged_some : (o : Option (Option (List ℕ) × List ℕ)) (vs rest : List ℕ) → judged o ≡ Ok (vs, rest) → o ≡ Some (Some vs, rest)
judged_some None vs rest e = absurd (err_ok e)
judged_some (Some (None, bs)) vs rest e = absurd (err_ok e)
judged_some (Some (Some us, bs)) vs rest e = ap (λ p. Some (Some p.0, p.1)) (ok_same e)

pub line_written : (ms vs rest : List ℕ) (c : ℕ) → Writable ms → InRange ms vs → line ms (spelled c vs ++ rest) ≡ Ok (vs, rest)
line_written ms vs rest c small h = rw (fields_written ms vs rest small h)

-- what was read of a line
pub record Parts (ms bs vs rest : List ℕ) : Type 0 where
  pub letter : ℕ
  pub after : List ℕ
  pub whole : bs ≡ letter ∷ after
  pub feed : List ℕ
  pub gathered : fields ms after ≡ Some (Some vs, feed)
  pub fed : feed ≡ 10 ∷ rest

pub line_parts : (ms bs vs rest : List ℕ) → line ms bs ≡ Ok (vs, rest) → Parts ms bs vs rest
line_parts ms [] vs rest e = absurd (err_ok e)
line_parts ms (c ∷ bs) vs rest e =
    let o = judged_some _ vs rest e in
    let g = and_then_some (fields ms bs) _ (Some vs, rest) o in
    let f = and_then_some (past 10 g.0.1) _ (Some vs, rest) g.2 in
    let p = some_same f.2 in
    record {
      letter = c;
      after = bs;
      whole = refl;
      feed = g.0.1;
      gathered = g.1 ∙ ap (λ v. Some (v, g.0.1)) (ap (λ x. x.0) p);
      fed = past_some 10 g.0.1 f.0 f.1 ∙ ap (λ xs. 10 ∷ xs) (ap (λ x. x.1) p);
    }

pub line_is_written : (ms bs vs rest : List ℕ) → Writable ms → line ms bs ≡ Ok (vs, rest) → (c : ℕ) × (bs ≡ spelled c vs ++ rest) × InRange ms vs
line_is_written ms bs vs rest small e =
    let p = line_parts ms bs vs rest e in
    (p.letter, p.whole ∙ ap (λ xs. p.letter ∷ xs) (fields_are_written ms p.after vs p.feed rest small p.gathered p.fed), fields_range ms p.after vs p.feed p.gathered)

-- limits that are kept, by place
within_from : (k : ℕ) (ms vs : List ℕ) → ((i : ℕ) → i < length ms → get_or vs (k + i) 0 ≤ get_or ms i 0) → Within k ms vs
within_from k [] vs h = tt
within_from k (m ∷ ms) vs h =
    let here : k + 0 ≡ k = omega arith in
    (rw here at (h 0 (omega arith)), within_from (k + 1) ms vs (λ i l. let next : k + suc i ≡ k + 1 + i = omega arith in rw next at (h (suc i) (omega arith))))

pub range_at : (ms us : List ℕ) → InRange ms us → (i : ℕ) → i < length ms → get_or us i 0 ≤ get_or ms i 0
range_at [] us h i l = absurd (omega arith)
range_at (m ∷ ms) [] h i l = absurd h
range_at (m ∷ ms) (u ∷ us) h zero l = h.0
range_at (m ∷ ms) (u ∷ us) h (suc i) l = range_at ms us h.1 i (omega arith)

-- numbers in range are as many as the limits, and each keeps its own
pub range_length : (ms us : List ℕ) → InRange ms us → length us ≡ length ms
range_length [] [] h = refl
range_length [] (u ∷ us) h = absurd h
range_length (m ∷ ms) [] h = absurd h
range_length (m ∷ ms) (u ∷ us) h = ap suc (range_length ms us h.1)

pub range_within : (ms us : List ℕ) → InRange ms us → Within 0 ms us
range_within ms us h =
    within_from 0 ms us (λ i l. let zero-add : 0 + i ≡ i = omega arith in rw zero-add (range_at ms us h i l))
