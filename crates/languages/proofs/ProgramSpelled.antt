-- A program is the lines that its section spells, at most 64, and what is refused is the first line that is none.
use Rattle.std.proofs.Common.{◌≡◌, ℕ, zero, suc, ◌+◌, ◌<◌, ◌≤◌, false, ltb, List, [], ◌∷◌, ◌++◌, length, Ok, Err, Result, sym, refl, ap, ◌∙◌, subst, inl, inr, append_assoc, arith, lt-ltb}
use Rattle.std.proofs.lemmas.List.{append-nil, length_push}
use Rattle.std.proofs.lemmas.Bool.{cases_Bool, ltb-true, ltb-false, le-ltb}
use Rattle.std.specs.List.{AllByRecursion}
use Rattle.lines.specs.declared.reader.LineFault.{LineFault}
use Rattle.lines.specs.Families.{Family, reads, spells, all_spelled}
use Rattle.lines.proofs.Options.{err_ok, err_same, ok_same}
use Rattle.lines.specs.Codecs.{Codec}
use Rattle.lines.proofs.Familiar.{is_spelled, is_read}
use Rattle.lines.proofs.Unread.{no_line, line_refused}
use Rattle.lines.proofs.Sections.{Chain, Takes, walked_lines, lines_walked, walked_stopped, stopped_walked}
use Rattle.languages.specs.declared.read_program.ProgramFault.{ProgramFault}
use Rattle.languages.specs.declared.read_program.ProgramFault.TheVariants.{Line, TooMany}
use Rattle.languages.specs.Programs.{with_line, program}
use Rattle.languages.specs.ProgramLaws.{NoProgram, no_line as first_wrong, too_many}

-- the bytes are the spelling of a program's lines
pub record SpellsProgram {K I : Type 0} (F : Family K I) (Fits : I → Type 0) (bs : List ℕ) (lines : List I) : Type 0 where
  pub spelled : bs ≡ all_spelled F lines
  pub fit : AllByRecursion Fits lines
  pub short : length lines ≤ 64

-- one line more, where there is room for it
abbrev pub OneMore : {I : Type 0} → List I → I → List I → Type 0
OneMore lines line more = (length lines < 64) × (more ≡ lines ++ (line ∷ []))

pub program_takes : {I : Type 0} → Takes {A = I} {S = List I} {F = ProgramFault} with_line OneMore
program_takes {I} =
    record {
      never = λ lines f more rest e. err_ok e;
      only = λ lines line before more rest e. elim (cases_Bool (ltb (length lines) 64)) [
        | inl room ↦ let p = ok_same (rw room at e) in ((ltb-true (length lines) 64 room, sym (ap (λ q. q.0) p)), ap (λ q. q.1) p)
        | inr full ↦ absurd (err_ok (rw full at e))
      ];
      every = λ lines line more rest h. rw (lt-ltb (length lines) 64 h.0) (ap (λ xs. Ok (xs, rest)) (sym h.1));
    }

module _ {I : Type 0} where
  grown : (before lines after : List I) → length before ≤ 64 → Chain OneMore before lines after → (after ≡ before ++ lines) × (length before + length lines ≤ 64)
  grown before [] after h e = (sym e ∙ sym (append-nil before), omega arith)
  grown before (line ∷ lines) after h c =
      let long : length c.0 ≡ length before + 1 = ap length c.1.1 ∙ length_push before line in
      let room = c.1.0 in
      let r = grown c.0 lines after (omega arith) c.2 in
      (r.0 ∙ ap (λ xs. xs ++ lines) c.1.1 ∙ append_assoc before (line ∷ []) lines, omega (arith, r.1))

  grows : (before lines : List I) → length before + length lines ≤ 64 → Chain OneMore before lines (before ++ lines)
  grows before [] h = sym (append-nil before)
  grows before (line ∷ lines) h =
      let long = length_push before line in
      (before ++ (line ∷ []), (omega arith, refl), subst (Chain OneMore (before ++ (line ∷ [])) lines) (append_assoc before (line ∷ []) lines) (grows (before ++ (line ∷ [])) lines (omega arith)))

module _ {K I : Type 0} (F : Family K I) {Fits : I → Type 0} (codec : Codec F Fits) where
  pub program_spelled : (bs : List ℕ) (lines : List I) → program (reads F) bs ≡ Ok lines → SpellsProgram F Fits bs lines
  program_spelled bs lines e =
      let b = walked_lines program_takes F codec [] bs lines e in
      let g = grown [] b.lines lines (omega arith) b.chain in
      subst (SpellsProgram F Fits bs) (sym g.0) (record { spelled = b.spelled; fit = b.fit; short = omega (arith, g.1) })

  pub spelled_program : (bs : List ℕ) (lines : List I) → SpellsProgram F Fits bs lines → program (reads F) bs ≡ Ok lines
  spelled_program bs lines s =
      let few = s.short in
      lines_walked program_takes F codec [] bs lines (record { lines = lines; spelled = s.spelled; fit = s.fit; chain = grows [] lines (omega arith) })

  spelled_more : (lines : List I) (line : I) (rest : List ℕ) → all_spelled F lines ++ (spells F line ++ rest) ≡ all_spelled F (lines ++ (line ∷ [])) ++ rest
  spelled_more [] line rest = ap (λ xs. xs ++ rest) (sym (append-nil (spells F line)))
  spelled_more (first ∷ lines) line rest =
      append_assoc (spells F first) (all_spelled F lines) (spells F line ++ rest) ∙ ap (λ xs. spells F first ++ xs) (spelled_more lines line rest) ∙ sym (append_assoc (spells F first) (all_spelled F (lines ++ (line ∷ []))) rest)

  fit_more : (lines : List I) (line : I) → AllByRecursion Fits lines → Fits line → AllByRecursion Fits (lines ++ (line ∷ []))
  fit_more [] line all fits = (fits, tt)
  fit_more (first ∷ lines) line all fits = (all.0, fit_more lines line all.1 fits)

  -- the last line, and those before it
  record Last (n : ℕ) (lines : List I) : Type 0 where
    pub before : List I
    pub line : I
    pub whole : lines ≡ before ++ (line ∷ [])
    pub many : length before ≡ n
    pub all : AllByRecursion Fits before
    pub fits : Fits line

  last_of : (n : ℕ) (lines : List I) → length lines ≡ n + 1 → AllByRecursion Fits lines → Last n lines
  last_of n [] long all = absurd (omega arith)
  last_of zero (line ∷ []) long all = record { before = []; line = line; whole = refl; many = refl; all = tt; fits = all.0 }
  last_of zero (line ∷ next ∷ lines) long all = absurd (omega arith)
  last_of (suc n) (line ∷ lines) long all =
      let r = last_of n lines (omega arith) all.1 in
      record {
        before = line ∷ r.before;
        line = r.line;
        whole = ap (λ xs. line ∷ xs) r.whole;
        many = ap suc r.many;
        all = (all.0, r.all);
        fits = r.fits;
      }

  -- what the line was refused for
  wrong_at : (lines : List I) (bs rest : List ℕ) (o : Result (I × List ℕ) LineFault) (f : ProgramFault) → reads F rest ≡ o → bs ≡ all_spelled F lines ++ rest → AllByRecursion Fits lines → length lines ≤ 64 → (rest ≡ [] → ⊥) → with_line lines o ≡ Err f → NoProgram F Fits bs f (length lines + 1)
  wrong_at lines bs rest (Err g) f read e fit short left w =
      subst (λ h. NoProgram F Fits bs h (length lines + 1)) (err_same w) (first_wrong lines rest e fit short left (no_line F codec rest g read))
  wrong_at lines bs rest (Ok p) f read e fit short left w = elim (cases_Bool (ltb (length lines) 64)) [
    | inl room ↦ absurd (err_ok (sym (rw room at w)))
    | inr full ↦
        let s = is_spelled F codec rest p.0 p.1 read in
        let above = ltb-false (length lines) 64 full in
        let number : 65 ≡ length lines + 1 = omega (arith, above) in
        let long : length (lines ++ (p.0 ∷ [])) ≡ 65 = length_push lines p.0 ∙ sym number in
        let spelled = e ∙ ap (λ xs. all_spelled F lines ++ xs) s.0 ∙ spelled_more lines p.0 p.1 in
        let fault : TooMany ≡ f = err_same (rw full at w) in
        subst (λ h. NoProgram F Fits bs h (length lines + 1)) fault (subst (λ k. NoProgram F Fits bs TooMany k) number (too_many (lines ++ (p.0 ∷ [])) p.1 spelled (fit_more lines p.0 fit s.1) long))
  ]

  pub program_wrong : (bs : List ℕ) (f : ProgramFault) (k : ℕ) → program (reads F) bs ≡ Err (record { fault = f; line = k }) → NoProgram F Fits bs f k
  program_wrong bs f k e =
      let b = walked_stopped program_takes F codec [] bs (record { fault = f; line = k }) e in
      let g = grown [] b.lines b.t (omega arith) b.chain in
      let fault : with_line b.lines (reads F b.rest) ≡ Err f = ap (λ ls. with_line ls (reads F b.rest)) (sym g.0) ∙ b.fault in
      subst (λ n. NoProgram F Fits bs f n) (sym b.number) (wrong_at b.lines bs b.rest (reads F b.rest) f refl b.spelled b.fit (omega (arith, g.1)) b.left fault)

  pub wrong_program : (bs : List ℕ) (f : ProgramFault) (k : ℕ) → NoProgram F Fits bs f k → program (reads F) bs ≡ Err (record { fault = f; line = k })
  wrong_program bs f k (first_wrong {fault} lines rest e fit short left h) =
      stopped_walked program_takes F codec [] bs (record { fault = Line fault; line = length lines + 1 }) (record {
        lines = lines;
        t = lines;
        rest = rest;
        spelled = e;
        fit = fit;
        chain = grows [] lines (omega arith);
        left = left;
        fault = ap (with_line lines) (line_refused F codec rest fault h);
        number = refl;
      })
  wrong_program bs f k (too_many lines rest e fit long) =
      let l = last_of 64 lines long fit in
      let after = spells F l.line ++ rest in
      let full : ltb (length l.before) 64 ≡ false = le-ltb (length l.before) 64 (omega (arith, l.many)) in
      stopped_walked program_takes F codec [] bs (record { fault = TooMany; line = 65 }) (record {
        lines = l.before;
        t = l.before;
        rest = after;
        spelled = e ∙ ap (λ ls. all_spelled F ls ++ rest) l.whole ∙ sym (spelled_more l.before l.line rest);
        fit = l.all;
        chain = grows [] l.before (omega (arith, l.many));
        left = λ z. absurd (cc);
        fault = ap (with_line l.before) (is_read F codec after l.line rest l.fits refl) ∙ rw full refl;
        number = omega (arith, l.many);
      })
