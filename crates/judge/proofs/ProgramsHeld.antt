-- The programs that are read are those that the sections hold, and the one that is refused is the first that none holds.
use Rattle.std.proofs.Common.{◌≡◌, ℕ, suc, ◌+◌, List, [], ◌∷◌, ◌++◌, length, Ok, Err, Result, sym, refl, ap, ◌∙◌, subst, ◌⊎◌, inl, inr, append_assoc, arith}
use Rattle.std.proofs.lemmas.List.{append-nil}
use Rattle.lines.specs.Families.{Family, reads}
use Rattle.lines.specs.declared.refusal.LineRefusal.{LineRefusal}
use Rattle.lines.proofs.Options.{err_ok, err_same, ok_same}
use Rattle.lines.specs.Codecs.{Codec}
use Rattle.languages.specs.declared.read_program.ProgramFault.{ProgramFault}
use Rattle.languages.specs.Programs.{program}
use Rattle.languages.specs.ProgramLaws.{NoProgram}
use Rattle.languages.proofs.ProgramSpelled.{program_spelled, spelled_program, program_wrong, wrong_program}
use Rattle.jobs.specs.declared.fault.FileFault.{FileFault}
use Rattle.jobs.specs.declared.fault.Refusal.{Refusal}
use Rattle.jobs.specs.declared.section.Section.{Section}
use Rattle.jobs.specs.Heads.{and_then}
use Rattle.jobs.specs.Faults.{in_section, program_fault}
use Rattle.jobs.specs.Programs.{cut, programs_after}
use Rattle.judge.specs.JobLaws.{HoldPrograms}
use Rattle.jobs.proofs.HeadLaws.{then_ok, then_err, in_section_ok, in_section_err}

module _ {K I : Type 0} (F : Family K I) {Fits : I → Type 0} (codec : Codec F Fits) (file : List ℕ) where
  pub programs_were : (ds : List Section) (s : ℕ) (ps out : List (List I)) → programs_after (reads F) file s ps ds ≡ Ok out → (new : List (List I)) × (out ≡ ps ++ new) × HoldPrograms F Fits file ds new
  programs_were [] s ps out e = ([], sym (ok_same e) ∙ sym (append-nil ps), tt)
  programs_were (d ∷ ds) s ps out e =
      let o = program (reads F) (cut file d) in
      let t = then_ok (in_section program_fault s o) _ out e in
      let p = t.0 in
      let w = program_spelled F codec (cut file d) p (in_section_ok program_fault s o p t.1) in
      let r = programs_were ds (s + 1) (ps ++ (p ∷ [])) out t.2 in
      (p ∷ r.0, r.1 ∙ append_assoc ps (p ∷ []) r.0, (record { spelled = w.spelled; fit = w.fit }, w.short, r.2))

  pub programs_are : (ds : List Section) (s : ℕ) (ps new : List (List I)) → HoldPrograms F Fits file ds new → programs_after (reads F) file s ps ds ≡ Ok (ps ++ new)
  programs_are [] s ps [] h = ap Ok (sym (append-nil ps))
  programs_are [] s ps (p ∷ new) h = absurd h
  programs_are (d ∷ ds) s ps [] h = absurd h
  programs_are (d ∷ ds) s ps (p ∷ new) h =
      let is = spelled_program F codec (cut file d) p (record { spelled = h.0.spelled; fit = h.0.fit; short = h.1 }) in
      ap (λ o. and_then (in_section program_fault s o) (λ q. programs_after (reads F) file (s + 1) (ps ++ (q ∷ [])) ds)) is ∙ programs_are ds (s + 1) (ps ++ (p ∷ [])) new h.2 ∙ ap Ok (append_assoc ps (p ∷ []) new)

  -- of sections with numbers from s on, the first that holds no program
  pub record WrongFrom (ds : List Section) (s : ℕ) (e : Refusal FileFault) : Type 0 where
    pub fault : ProgramFault
    pub before : List Section
    pub wrong : Section
    pub later : List Section
    pub programs : List (List I)
    pub parts : ds ≡ before ++ (wrong ∷ later)
    pub right : HoldPrograms F Fits file before programs
    pub number : e.section ≡ length before + s
    pub none : NoProgram F Fits (cut file wrong) fault e.line
    pub why : e.fault ≡ program_fault fault

  pub programs_wrong : (ds : List Section) (s : ℕ) (ps : List (List I)) (e : Refusal FileFault) → programs_after (reads F) file s ps ds ≡ Err e → WrongFrom ds s e
  programs_wrong [] s ps e h = absurd (err_ok (sym h))
  programs_wrong (d ∷ ds) s ps e h =
      let o = program (reads F) (cut file d) in
      elim (then_err (in_section program_fault s o) (λ q. programs_after (reads F) file (s + 1) (ps ++ (q ∷ [])) ds) e h) [
        | inl bad ↦
            let f = in_section_err program_fault s o e bad in
            let section : e.section ≡ s = ap (λ (x : Refusal FileFault). x.section) f.2 in
            let line : f.0.line ≡ e.line = sym (ap (λ (x : Refusal FileFault). x.line) f.2) in
            record {
              fault = f.0.fault;
              before = [];
              wrong = d;
              later = ds;
              programs = [];
              parts = refl;
              right = tt;
              number = omega arith;
              none = subst (NoProgram F Fits (cut file d) f.0.fault) line (program_wrong F codec (cut file d) f.0.fault f.0.line f.1);
              why = ap (λ (x : Refusal FileFault). x.fault) f.2;
            }
        | inr on ↦
            let p = on.0 in
            let w = program_spelled F codec (cut file d) p (in_section_ok program_fault s o p on.1) in
            let r = programs_wrong ds (s + 1) (ps ++ (p ∷ [])) e on.2 in
            record {
              fault = r.fault;
              before = d ∷ r.before;
              wrong = r.wrong;
              later = r.later;
              programs = p ∷ r.programs;
              parts = ap (λ xs. d ∷ xs) r.parts;
              right = (record { spelled = w.spelled; fit = w.fit }, w.short, r.right);
              number = omega (arith, r.number);
              none = r.none;
              why = r.why;
            }
      ]

  pub wrong_programs : (before : List Section) (s : ℕ) (ps programs : List (List I)) (wrong : Section) (later : List Section) (fault : ProgramFault) (line : ℕ)
      → HoldPrograms F Fits file before programs → NoProgram F Fits (cut file wrong) fault line
      → programs_after (reads F) file s ps (before ++ (wrong ∷ later)) ≡ Err (record { fault = program_fault fault; section = length before + s; line = line })
  wrong_programs [] s ps programs wrong later fault line h none =
      let number : s ≡ 0 + s = omega arith in
      ap (λ o. and_then (in_section program_fault s o) (λ q. programs_after (reads F) file (s + 1) (ps ++ (q ∷ [])) later)) (wrong_program F codec (cut file wrong) fault line none)
      ∙ ap (λ k. Err (record { fault = program_fault fault; section = k; line = line })) number
  wrong_programs (d ∷ ds) s ps [] wrong later fault line h none = absurd h
  wrong_programs (d ∷ ds) s ps (p ∷ programs) wrong later fault line h none =
      let is = spelled_program F codec (cut file d) p (record { spelled = h.0.spelled; fit = h.0.fit; short = h.1 }) in
      let number : length ds + (s + 1) ≡ suc (length ds) + s = omega arith in
      ap (λ o. and_then (in_section program_fault s o) (λ q. programs_after (reads F) file (s + 1) (ps ++ (q ∷ [])) (ds ++ (wrong ∷ later)))) is
      ∙ wrong_programs ds (s + 1) (ps ++ (p ∷ [])) programs wrong later fault line h.2 none
      ∙ ap (λ k. Err (record { fault = program_fault fault; section = k; line = line })) number
