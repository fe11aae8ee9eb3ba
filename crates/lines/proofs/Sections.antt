-- A section that is walked to its end is the spelling of the lines that were taken, and no other section is.
-- One that is refused is the spelling of the lines before the first that is, and what is left.
use Rattle.std.proofs.Common.{◌≡◌, ℕ, zero, suc, ◌+◌, ◌<◌, ◌≤◌, List, [], ◌∷◌, ◌++◌, length, Ok, Err, Result, sym, refl, ap, ◌∙◌, subst, ◌⊎◌, inl, inr, append_assoc, arith}
use Rattle.std.specs.Prelude.{◌≢◌}
use Rattle.std.proofs.lemmas.List.{length-append}
use Rattle.std.specs.List.{AllByRecursion}
use Rattle.lines.specs.declared.reader.LineFault.{LineFault}
use Rattle.lines.specs.declared.refusal.LineRefusal.{LineRefusal}
use Rattle.lines.specs.Families.{Family, reads, spells, all_spelled}
use Rattle.lines.specs.Walks.{goes_on, walk, walked, reached}
use Rattle.lines.proofs.Options.{err_ok, err_same, ok_same}
use Rattle.lines.specs.Codecs.{Codec}
use Rattle.lines.proofs.Familiar.{is_spelled, is_read, reads_shorter}
use Rattle.lines.proofs.Walked.{walk_end, walk_stop, walk_more, reached_stop, reached_more}

-- each line leads on from where the ones before it led
abbrev pub Chain : {S A : Type 0} → (S → A → S → Type 0) → S → List A → S → Type 0
Chain Act s [] t = s ≡ t
Chain {S} Act s (a ∷ lines) u = (t : S) × Act s a t × Chain Act t lines u

-- the bytes are the spelling of lines that fit and lead from s to t
pub record ByLines {K A S : Type 0} (family : Family K A) (Fits : A → Type 0) (Act : S → A → S → Type 0) (s : S) (bs : List ℕ) (t : S) : Type 0 where
  pub lines : List A
  pub spelled : bs ≡ all_spelled family lines
  pub fit : AllByRecursion Fits lines
  pub chain : Chain Act s lines t

-- what is left after lines that fit and lead from s to t is refused: the line in front of it
pub record StoppedBy {K A S F : Type 0} (family : Family K A) (Fits : A → Type 0) (Act : S → A → S → Type 0) (step : S → List ℕ → Result (S × List ℕ) F) (s : S) (bs : List ℕ) (e : LineRefusal F) : Type 0 where
  pub lines : List A
  pub t : S
  pub rest : List ℕ
  pub spelled : bs ≡ all_spelled family lines ++ rest
  pub fit : AllByRecursion Fits lines
  pub chain : Chain Act s lines t
  pub left : rest ≢ []
  pub fault : step t rest ≡ Err e.fault
  pub number : e.line ≡ length lines + 1

-- a line that was read is taken exactly where Act says so, and one that was not read is never taken
pub record Takes {A S F : Type 0} (acts : S → Result (A × List ℕ) LineFault → Result (S × List ℕ) F) (Act : S → A → S → Type 0) : Type 0 where
  pub never : (s : S) (f : LineFault) (t : S) (rest : List ℕ) → acts s (Err f) ≡ Ok (t, rest) → ⊥
  pub only : (s : S) (a : A) (before : List ℕ) (t : S) (rest : List ℕ) → acts s (Ok (a, before)) ≡ Ok (t, rest) → Act s a t × (before ≡ rest)
  pub every : (s : S) (a : A) (t : S) (rest : List ℕ) → Act s a t → acts s (Ok (a, rest)) ≡ Ok (t, rest)

went_on : {S F : Type 0} (o : Result (S × List ℕ) F) (n : ℕ) (on : S → List ℕ → Result S (LineRefusal F)) (t : S) → goes_on o n on ≡ Ok t → (s : S) × (rest : List ℕ) × (o ≡ Ok (s, rest)) × (on s rest ≡ Ok t)
went_on (Err f) n on t e = absurd (err_ok e)
went_on (Ok p) n on t e = (p.0, p.1, refl, e)

stopped : {S F : Type 0} (o : Result (S × List ℕ) F) (n : ℕ) (on : S → List ℕ → Result S (LineRefusal F)) (e : LineRefusal F) → goes_on o n on ≡ Err e → ((o ≡ Err e.fault) × (e.line ≡ n)) ⊎ ((s : S) × (rest : List ℕ) × (o ≡ Ok (s, rest)) × (on s rest ≡ Err e))
stopped {S} {F} (Err f) n on e h = let same : record { fault = f; line = n } ≡ e = err_same h in inl (ap (λ r. Err r.fault) same, ap (λ r. r.line) (sym same))
stopped (Ok p) n on e h = inr (p.0, p.1, refl, h)

some_left : (bs : List ℕ) → bs ≢ [] → 0 < length bs
some_left [] h = absurd (h refl)
some_left (b ∷ bs) h = omega arith

module _ {A S F : Type 0} {acts : S → Result (A × List ℕ) LineFault → Result (S × List ℕ) F} {Act : S → A → S → Type 0} (takes : Takes acts Act) where
  -- a line that was taken was read
  pub taken : (o : Result (A × List ℕ) LineFault) (s t : S) (rest : List ℕ) → acts s o ≡ Ok (t, rest) → (a : A) × (o ≡ Ok (a, rest)) × Act s a t
  taken (Err f) s t rest e = absurd (takes.never s f t rest e)
  taken (Ok p) s t rest e = let h = takes.only s p.0 p.1 t rest e in (p.0, ap (λ xs. Ok (p.0, xs)) h.1, h.0)

  module _ {K : Type 0} (family : Family K A) {Fits : A → Type 0} (codec : Codec family Fits) where
    abbrev step : S → List ℕ → Result (S × List ℕ) F
    step s bs = acts s (reads family bs)

    pub step_shorter : (s t : S) (bs rest : List ℕ) → step s bs ≡ Ok (t, rest) → length rest < length bs
    step_shorter s t bs rest e = let a = taken (reads family bs) s t rest e in reads_shorter family codec bs a.0 rest a.1

    walk_lines : (most : ℕ) (s : S) (n : ℕ) (bs : List ℕ) (t : S) → length bs ≤ most → walk step most s n bs ≡ Ok t → ByLines family Fits Act s bs t
    walk_lines most s n [] t h e = record { lines = []; spelled = refl; fit = tt; chain = ok_same e }
    walk_lines zero s n (b ∷ bs) t h e = absurd (omega arith)
    walk_lines (suc most) s n (b ∷ bs) t h e =
        let g = went_on (step s (b ∷ bs)) n (λ u rest. walk step most u (n + 1) rest) t e in
        let a = taken (reads family (b ∷ bs)) s g.0 g.1 g.2 in
        let w = is_spelled family codec (b ∷ bs) a.0 g.1 a.1 in
        let less : length g.1 < suc (length bs) = reads_shorter family codec (b ∷ bs) a.0 g.1 a.1 in
        let r = walk_lines most g.0 (n + 1) g.1 t (omega arith) g.3 in
        record {
          lines = a.0 ∷ r.lines;
          spelled = w.0 ∙ ap (λ xs. spells family a.0 ++ xs) r.spelled;
          fit = (w.1, r.fit);
          chain = (g.0, a.2, r.chain);
        }

    lines_walk : (lines : List A) (s : S) (n : ℕ) (bs : List ℕ) (t : S) → bs ≡ all_spelled family lines → AllByRecursion Fits lines → Chain Act s lines t → walk step (length bs) s n bs ≡ Ok t
    lines_walk [] s n bs t e fit c = walk_end step step_shorter s n bs (ap length e) ∙ ap Ok c
    lines_walk (a ∷ lines) s n bs t e fit c =
        let rest = all_spelled family lines in
        let long = ap length e ∙ length-append (spells family a) rest in
        let act = ap (acts s) (is_read family codec bs a rest fit.0 e) ∙ takes.every s a c.0 rest c.1 in
        walk_more step step_shorter s c.0 n bs rest (omega arith) act ∙ lines_walk lines c.0 (n + 1) rest t refl fit.1 c.2

    pub walked_lines : (s : S) (bs : List ℕ) (t : S) → walked step s bs ≡ Ok t → ByLines family Fits Act s bs t
    walked_lines s bs t e = walk_lines (length bs) s 1 bs t (omega arith) e

    pub lines_walked : (s : S) (bs : List ℕ) (t : S) → ByLines family Fits Act s bs t → walked step s bs ≡ Ok t
    lines_walked s bs t b = lines_walk b.lines s 1 bs t b.spelled b.fit b.chain

    walk_stopped : (most : ℕ) (s : S) (n : ℕ) (bs : List ℕ) (e : LineRefusal F) → length bs ≤ most → walk step most s n bs ≡ Err e → (k : ℕ) × (e.line + 1 ≡ k + n) × StoppedBy family Fits Act step s bs (record { fault = e.fault; line = k })
    walk_stopped most s n [] e h w = absurd (cc)
    walk_stopped zero s n (b ∷ bs) e h w = absurd (omega arith)
    walk_stopped (suc most) s n (b ∷ bs) e h w = elim (stopped (step s (b ∷ bs)) n (λ u rest. walk step most u (n + 1) rest) e w) [
      | inl here ↦ (
        1,
        omega (arith, here.1),
        record {
          lines = [];
          t = s;
          rest = b ∷ bs;
          spelled = refl;
          fit = tt;
          chain = refl;
          left = λ z. absurd (cc);
          fault = here.0;
          number = omega arith;
        },
      )
      | inr g ↦
          let a = taken (reads family (b ∷ bs)) s g.0 g.1 g.2 in
          let sp = is_spelled family codec (b ∷ bs) a.0 g.1 a.1 in
          let less : length g.1 < suc (length bs) = reads_shorter family codec (b ∷ bs) a.0 g.1 a.1 in
          let r = walk_stopped most g.0 (n + 1) g.1 e (omega arith) g.3 in (
            r.0 + 1,
            omega (arith, r.1),
            record {
              lines = a.0 ∷ r.2.lines;
              t = r.2.t;
              rest = r.2.rest;
              spelled = sp.0 ∙ ap (λ xs. spells family a.0 ++ xs) r.2.spelled ∙ sym (append_assoc (spells family a.0) (all_spelled family r.2.lines) r.2.rest);
              fit = (sp.1, r.2.fit);
              chain = (g.0, a.2, r.2.chain);
              left = r.2.left;
              fault = r.2.fault;
              number = omega (arith, r.2.number);
            },
          )
    ]

    module _ (t : S) (rest : List ℕ) (f : F) (left : rest ≢ []) (refused : step t rest ≡ Err f) where
      stopped_walk : (lines : List A) (s : S) (n : ℕ) (bs : List ℕ) → bs ≡ all_spelled family lines ++ rest → AllByRecursion Fits lines → Chain Act s lines t → (walk step (length bs) s n bs ≡ Err (record { fault = f; line = length lines + n })) × (reached step s bs ≡ t)
      stopped_walk [] s n bs e fit c =
          let act : step s bs ≡ Err f = ap (step s) e ∙ ap (λ u. step u rest) c ∙ refused in
          let same : n ≡ 0 + n = omega arith in
          (walk_stop step step_shorter s n bs f (some_left bs (λ z. left (sym e ∙ z))) act ∙ ap (λ k. Err (record { fault = f; line = k })) same, reached_stop step step_shorter s bs f act ∙ c)
      stopped_walk (a ∷ lines) s n bs e fit c =
          let after = all_spelled family lines ++ rest in
          let here = e ∙ append_assoc (spells family a) (all_spelled family lines) rest in
          let long = ap length here ∙ length-append (spells family a) after in
          let act = ap (acts s) (is_read family codec bs a after fit.0 here) ∙ takes.every s a c.0 after c.1 in
          let r = stopped_walk lines c.0 (n + 1) after refl fit.1 c.2 in
          let same : length lines + (n + 1) ≡ suc (length lines) + n = omega arith in
          (walk_more step step_shorter s c.0 n bs after (omega arith) act ∙ r.0 ∙ ap (λ k. Err (record { fault = f; line = k })) same, reached_more step step_shorter s c.0 bs after (omega arith) act ∙ r.1)

    pub walked_stopped : (s : S) (bs : List ℕ) (e : LineRefusal F) → walked step s bs ≡ Err e → StoppedBy family Fits Act step s bs e
    walked_stopped s bs e w =
        let r = walk_stopped (length bs) s 1 bs e (omega arith) w in
        let same : r.0 ≡ e.line = omega (arith, r.1) in
        subst (λ k. StoppedBy family Fits Act step s bs (record { fault = e.fault; line = k })) same r.2

    pub stopped_walked : (s : S) (bs : List ℕ) (e : LineRefusal F) → StoppedBy family Fits Act step s bs e → walked step s bs ≡ Err e
    stopped_walked s bs e b =
        (stopped_walk b.t b.rest e.fault b.left b.fault b.lines s 1 bs b.spelled b.fit b.chain).0 ∙ ap (λ k. Err (record { fault = e.fault; line = k })) (sym b.number)

    pub stopped_reached : (s : S) (bs : List ℕ) (e : LineRefusal F) → (b : StoppedBy family Fits Act step s bs e) → reached step s bs ≡ b.t
    stopped_reached s bs e b = (stopped_walk b.t b.rest e.fault b.left b.fault b.lines s 1 bs b.spelled b.fit b.chain).1
