-- What the reading of the section lines tells, and what the first section out of place does.
use Rattle.std.proofs.Common.{◌≡◌, ℕ, zero, suc, ◌+◌, ◌-◌, ◌<◌, ◌≤◌, Bool, true, false, cond, eqb, List, [], ◌∷◌, ◌++◌, length, Some, None, Ok, Err, Option, Result, sym, refl, ap, ◌∙◌, append_assoc, inl, inr, ◌⊎◌, arith, eq-eqb, ne_eqb, le-leb}
use Rattle.std.proofs.lemmas.List.{append-nil}
use Rattle.std.proofs.lemmas.Option.{none-some}
use Rattle.std.proofs.lemmas.Bool.{and_parts, and_cases, and_left, and_right, eqb-true, eqb-false, leb-false, lt-leb, cases_Bool, cond-false}
use Rattle.std.specs.List.{AllByRecursion}
use Rattle.lines.specs.declared.reader.LineFault.{LineFault}
use Rattle.lines.specs.declared.refusal.LineRefusal.{LineRefusal}
use Rattle.lines.specs.Families.{reads, spells, all_spelled}
use Rattle.lines.proofs.Options.{some_same, err_ok, ok_same, err_same}
use Rattle.lines.proofs.Familiar.{is_spelled, is_read}
use Rattle.jobs.specs.declared.section.Section.{Section}
use Rattle.jobs.specs.Sections.{section_lines, SectionFits, Tiles, lies, none_left, first_wrong}
use Rattle.jobs.specs.Heads.{and_section, sections_from}
use Rattle.jobs.specs.HeadLaws.{LiesWrong, elsewhere, past_the_end, too_short}
use Rattle.jobs.specs.SectionCodec.{section_codec}
use Rattle.jobs.proofs.HeadSteps.{sections_stop, lies_within}

-- the section lines

pub record Read (c : ℕ) (ss : List Section) (bs : List ℕ) (out : List Section) (rest : List ℕ) : Type 0 where
  pub new : List Section
  pub whole : out ≡ ss ++ new
  pub many : length new ≡ c
  pub fit : AllByRecursion SectionFits new
  pub spelled : bs ≡ all_spelled section_lines new ++ rest

-- fewer than c were read, and the next is refused
pub record Refused (c n : ℕ) (bs : List ℕ) (e : LineRefusal LineFault) : Type 0 where
  pub new : List Section
  pub rest : List ℕ
  pub few : length new < c
  pub fit : AllByRecursion SectionFits new
  pub spelled : bs ≡ all_spelled section_lines new ++ rest
  pub refused : reads section_lines rest ≡ Err e.fault
  pub numbered : e.line ≡ length new + n

section_then : (o : Result (Section × List ℕ) LineFault) (n : ℕ) (on : Section → List ℕ → Result (List Section × List ℕ) (LineRefusal LineFault)) (p : List Section × List ℕ) → and_section o n on ≡ Ok p → (s : Section) × (rest : List ℕ) × (o ≡ Ok (s, rest)) × (on s rest ≡ Ok p)
section_then (Err f) n on p e = absurd (err_ok e)
section_then (Ok q) n on p e = (q.0, q.1, refl, e)

section_or : (o : Result (Section × List ℕ) LineFault) (n : ℕ) (on : Section → List ℕ → Result (List Section × List ℕ) (LineRefusal LineFault)) (r : LineRefusal LineFault) → and_section o n on ≡ Err r → ((o ≡ Err r.fault) × (r.line ≡ n)) ⊎ ((s : Section) × (rest : List ℕ) × (o ≡ Ok (s, rest)) × (on s rest ≡ Err r))
section_or (Err f) n on r e = let same = err_same e in inl (ap (λ x. Err x.fault) same, ap (λ x. x.line) (sym same))
section_or (Ok q) n on r e = inr (q.0, q.1, refl, e)

pub sections_were : (c n : ℕ) (ss : List Section) (bs : List ℕ) (out : List Section) (rest : List ℕ) → sections_from c n ss bs ≡ Ok (out, rest) → Read c ss bs out rest
sections_were zero n ss bs out rest e =
    let p = ok_same e in
    record { new = []; whole = sym (ap (λ x. x.0) p) ∙ sym (append-nil ss); many = refl; fit = tt; spelled = ap (λ x. x.1) p }
sections_were (suc c) n ss bs out rest e =
    let t = section_then (reads section_lines bs) n _ (out, rest) e in
    let r = sections_were c (n + 1) (ss ++ (t.0 ∷ [])) t.1 out rest t.3 in
    let s = is_spelled section_lines section_codec bs t.0 t.1 t.2 in
    record {
      new = t.0 ∷ r.new;
      whole = r.whole ∙ append_assoc ss (t.0 ∷ []) r.new;
      many = ap suc r.many;
      fit = (s.1, r.fit);
      spelled = s.0 ∙ ap (λ xs. spells section_lines t.0 ++ xs) r.spelled ∙ sym (append_assoc (spells section_lines t.0) (all_spelled section_lines r.new) rest);
    }

pub sections_refused : (c n : ℕ) (ss : List Section) (bs : List ℕ) (e : LineRefusal LineFault) → sections_from c n ss bs ≡ Err e → Refused c n bs e
sections_refused zero n ss bs e h = absurd (err_ok (sym h))
sections_refused (suc c) n ss bs e h = elim (section_or (reads section_lines bs) n _ e h) [
  | inl w ↦ record { new = []; rest = bs; few = omega arith; fit = tt; spelled = refl; refused = w.0; numbered = w.1 ∙ (omega arith) }
  | inr t ↦
      let r = sections_refused c (n + 1) (ss ++ (t.0 ∷ [])) t.1 e t.3 in
      let s = is_spelled section_lines section_codec bs t.0 t.1 t.2 in
      record {
        new = t.0 ∷ r.new;
        rest = r.rest;
        few = omega (arith, r.few);
        fit = (s.1, r.fit);
        spelled = s.0 ∙ ap (λ xs. spells section_lines t.0 ++ xs) r.spelled ∙ sym (append_assoc (spells section_lines t.0) (all_spelled section_lines r.new) r.rest);
        refused = r.refused;
        numbered = r.numbered ∙ (omega arith);
      }
]

-- past the lines that stand in front
sections_past : (new : List Section) (c k n : ℕ) (ss : List Section) (bs rest : List ℕ) → c ≡ length new + k → AllByRecursion SectionFits new → bs ≡ all_spelled section_lines new ++ rest → sections_from c n ss bs ≡ sections_from k (length new + n) (ss ++ new) rest
sections_past [] c k n ss bs rest l fit e =
    let m : c ≡ k = omega arith in
    let here : n ≡ 0 + n = omega arith in
    ap (λ x. sections_from x n ss bs) m ∙ ap (λ x. sections_from k x ss bs) here ∙ ap (λ x. sections_from k (0 + n) ss x) e ∙ ap (λ x. sections_from k (0 + n) x rest) (sym (append-nil ss))
sections_past (s ∷ new) zero k n ss bs rest l fit e = absurd (omega arith)
sections_past (s ∷ new) (suc c) k n ss bs rest l fit e =
    let r : reads section_lines bs ≡ Ok (s, all_spelled section_lines new ++ rest) = is_read section_lines section_codec bs s (all_spelled section_lines new ++ rest) fit.0 (e ∙ append_assoc (spells section_lines s) (all_spelled section_lines new) rest) in
    let up : length new + (n + 1) ≡ length (s ∷ new) + n = omega arith in
    ap (λ o. and_section o n (λ t xs. sections_from c (n + 1) (ss ++ (t ∷ [])) xs)) r
    ∙ sections_past new c k (n + 1) (ss ++ (s ∷ [])) (all_spelled section_lines new ++ rest) rest (omega arith) fit.1 refl
    ∙ ap (λ x. sections_from k x ((ss ++ (s ∷ [])) ++ new) rest) up
    ∙ ap (λ x. sections_from k (length (s ∷ new) + n) x rest) (append_assoc ss (s ∷ []) new)

pub sections_are : (new : List Section) (n : ℕ) (ss : List Section) (bs rest : List ℕ) → AllByRecursion SectionFits new → bs ≡ all_spelled section_lines new ++ rest → sections_from (length new) n ss bs ≡ Ok (ss ++ new, rest)
sections_are new n ss bs rest fit e = sections_past new (length new) 0 n ss bs rest (omega arith) fit e

pub sections_refuse : (new : List Section) (c n : ℕ) (ss : List Section) (bs rest : List ℕ) (f : LineFault) → length new < c → AllByRecursion SectionFits new → bs ≡ all_spelled section_lines new ++ rest → reads section_lines rest ≡ Err f → sections_from c n ss bs ≡ Err (record { fault = f; line = length new + n })
sections_refuse new c n ss bs rest f few fit e r =
    let k = c - length new in
    sections_past new c k n ss bs rest (omega arith) fit e ∙ sections_stop k (length new + n) (ss ++ new) rest f (omega arith) r

-- how they lie

lies_tells : (at : ℕ) (s : Section) (last : Bool) (end : ℕ) → lies at s last end ≡ true → (s.offset ≡ at) × (last ≡ true → at + s.length ≡ end)
lies_tells at s true end e = let p = and_parts _ _ e in (eqb-true s.offset at p.0, λ _. eqb-true (at + s.length) end p.1)
lies_tells at s false end e = let p = and_parts _ _ e in (eqb-true s.offset at p.0, λ f. let z : ◌≡◌ {A = ℕ} 0 1 = cc in absurd (omega arith))

none_wrong : (b : Bool) (k : ℕ) (o : Option ℕ) → cond b o (Some k) ≡ None → (b ≡ true) × (o ≡ None)
none_wrong true k o e = (refl, e)
none_wrong false k o e = absurd (none-some _ (sym e))

pub do_tile : (k at : ℕ) (s : Section) (ss : List Section) (end : ℕ) → first_wrong k at (s ∷ ss) end ≡ None → Tiles at (s ∷ ss) end
do_tile k at s [] end e =
    let w = none_wrong (lies at s true end) k None e in
    let t = lies_tells at s true end w.0 in
    (t.0, t.1 refl)
do_tile k at s (u ∷ ss) end e =
    let w = none_wrong (lies at s false end) k (first_wrong (k + 1) (at + s.length) (u ∷ ss) end) e in
    ((lies_tells at s false end w.0).0, do_tile (k + 1) (at + s.length) u ss end w.1)

tiles_up : (at : ℕ) (ss : List Section) (end : ℕ) → Tiles at ss end → at ≤ end
tiles_up at [] end t = omega arith
tiles_up at (s ∷ ss) end t = let h = tiles_up (at + s.length) ss end t.1 in omega arith

pub none_do_not : (k at : ℕ) (ss : List Section) (end : ℕ) → Tiles at ss end → first_wrong k at ss end ≡ None
none_do_not k at [] end t = refl
none_do_not k at (s ∷ []) end t = rw (eq-eqb s.offset at t.0, eq-eqb (at + s.length) end t.1)
none_do_not k at (s ∷ (u ∷ ss)) end t =
    rw (eq-eqb s.offset at t.0, le-leb (at + s.length) end (tiles_up (at + s.length) (u ∷ ss) end t.1)) (none_do_not (k + 1) (at + s.length) (u ∷ ss) end t.1)

-- the first that is wrong

lies_wrong : (at : ℕ) (d : Section) (later : List Section) (end : ℕ) → lies at d (none_left later) end ≡ false → LiesWrong at d later end
lies_wrong at d [] end e = elim (and_cases _ _ e) [
  | inl f ↦ elsewhere (eqb-false d.offset at f)
  | inr f ↦ too_short refl (eqb-false (at + d.length) end f)
]
lies_wrong at d (u ∷ later) end e = elim (and_cases _ _ e) [
  | inl f ↦ elsewhere (eqb-false d.offset at f)
  | inr f ↦ past_the_end (leb-false (at + d.length) end f)
]

wrong_lies : (at : ℕ) (d : Section) (later : List Section) (end : ℕ) → LiesWrong at d later end → lies at d (none_left later) end ≡ false
wrong_lies at d later end (elsewhere n) = and_left (eqb d.offset at) _ (ne_eqb d.offset at n)
wrong_lies at d [] end (past_the_end l) = and_right (eqb d.offset at) _ (ne_eqb (at + d.length) end (λ e. omega arith))
wrong_lies at d (u ∷ later) end (past_the_end l) = and_right (eqb d.offset at) _ (lt-leb (at + d.length) end l)
wrong_lies at d [] end (too_short e n) = and_right (eqb d.offset at) _ (ne_eqb (at + d.length) end n)
wrong_lies at d (u ∷ later) end (too_short e n) = cc

-- the section of number j, where the first has number k
pub record Misplaced (k start : ℕ) (ss : List Section) (end j : ℕ) : Type 0 where
  pub before : List Section
  pub section : Section
  pub later : List Section
  pub at : ℕ
  pub whole : ss ≡ before ++ (section ∷ later)
  pub tiles : Tiles start before at
  pub inside : at ≤ end
  pub wrong : LiesWrong at section later end
  pub numbered : j ≡ length before + k

pub is_misplaced : (k start : ℕ) (ss : List Section) (end j : ℕ) → start ≤ end → first_wrong k start ss end ≡ Some j → Misplaced k start ss end j
is_misplaced k start [] end j h e = absurd (none-some _ e)
is_misplaced k start (s ∷ ss) end j h e = elim (cases_Bool (lies start s (none_left ss) end)) [
  | inl right ↦
      let m = is_misplaced (k + 1) (start + s.length) ss end j (lies_within start s (none_left ss) end right) (rw right at e) in
      record {
        before = s ∷ m.before;
        section = m.section;
        later = m.later;
        at = m.at;
        whole = ap (λ xs. s ∷ xs) m.whole;
        tiles = ((lies_tells start s (none_left ss) end right).0, m.tiles);
        inside = m.inside;
        wrong = m.wrong;
        numbered = m.numbered ∙ (omega arith);
      }
  | inr wrong ↦
      let same : k ≡ j = some_same (rw wrong at e) in
      record {
        before = [];
        section = s;
        later = ss;
        at = start;
        whole = refl;
        tiles = refl;
        inside = h;
        wrong = lies_wrong start s ss end wrong;
        numbered = omega arith;
      }
]

some_left : (before : List Section) (d : Section) (later : List Section) → none_left (before ++ (d ∷ later)) ≡ false
some_left [] d later = refl
some_left (s ∷ before) d later = refl

pub misplaced_is : (before : List Section) (k start at : ℕ) (d : Section) (later : List Section) (end : ℕ) → Tiles start before at → at ≤ end → LiesWrong at d later end → first_wrong k start (before ++ (d ∷ later)) end ≡ Some (length before + k)
misplaced_is [] k start at d later end t h w =
    let here : k ≡ 0 + k = omega arith in
    ap (λ x. first_wrong k x (d ∷ later) end) t ∙ cond-false (lies at d (none_left later) end) _ (Some k) (wrong_lies at d later end w) ∙ ap Some here
misplaced_is (s ∷ before) k start at d later end t h w =
    let up : length before + (k + 1) ≡ length (s ∷ before) + k = omega arith in
    let within : start + s.length ≤ end = omega (arith, tiles_up (start + s.length) before at t.1) in
    rw (some_left before d later, eq-eqb s.offset start t.0, le-leb (start + s.length) end within) (misplaced_is before (k + 1) (start + s.length) at d later end t.1 h w ∙ ap Some up)
