-- The head's definition and its words agree.
use Rattle.std.proofs.Common.{◌≡◌, ℕ, ◌+◌, ◌-◌, ◌<◌, ◌≤◌, List, [], ◌∷◌, ◌++◌, length, Some, None, Ok, Err, Option, Result, sym, refl, ap, ◌∙◌, subst, inl, inr, ◌⊎◌, arith, ltb, le-ltb, lt-ltb}
use Rattle.std.proofs.lemmas.Bool.{cases_Bool, ltb-true, ltb-false, cond-true, cond-false}
use Rattle.std.specs.List.{AllByRecursion}
use Rattle.lines.specs.declared.reader.LineFault.{LineFault}
use Rattle.lines.specs.declared.refusal.LineRefusal.{LineRefusal}
use Rattle.lines.specs.Families.{reads, spells, all_spelled}
use Rattle.lines.proofs.Options.{err_ok, ok_same, err_same}
use Rattle.lines.proofs.Familiar.{is_spelled, is_read}
use Rattle.lines.proofs.Unread.{no_line, line_refused}
use Rattle.jobs.specs.declared.fault.FileFault.{FileFault}
use Rattle.jobs.specs.declared.fault.FileFault.TheVariants.{FileSize, Line, Sections}
use Rattle.jobs.specs.declared.fault.Refusal.{Refusal}
use Rattle.jobs.specs.Faults.{in_section}
use Rattle.jobs.specs.declared.section.Section.{Section}
use Rattle.jobs.specs.Jobs.{Job, job_lines}
use Rattle.jobs.specs.Sections.{section_lines, SectionFits, Tiles, first_wrong}
use Rattle.jobs.specs.Heads.{sections_from, Heading, and_then, at_line, tiled, heading, file_heading}
use Rattle.jobs.specs.HeadLaws.{HeadLines, Begins, HeadExact, NoHead, no_job, no_section, out_of_order, RefusesHead}
use Rattle.jobs.specs.JobCodec.{job_codec}
use Rattle.jobs.specs.SectionCodec.{section_codec}
use Rattle.jobs.proofs.SectionLaws.{Read, Refused, sections_were, sections_refused, sections_are, sections_refuse, do_tile, none_do_not, is_misplaced, misplaced_is}

pub then_ok : {A B E : Type 0} (o : Result A E) (on : A → Result B E) (b : B) → and_then o on ≡ Ok b → (a : A) × (o ≡ Ok a) × (on a ≡ Ok b)
then_ok (Err e) on b h = absurd (err_ok h)
then_ok (Ok a) on b h = (a, refl, h)

pub in_section_ok : {A E F : Type 0} (fault : E → F) (s : ℕ) (o : Result A (LineRefusal E)) (a : A) → in_section fault s o ≡ Ok a → o ≡ Ok a
in_section_ok fault s (Err e) a h = absurd (err_ok h)
in_section_ok fault s (Ok x) a h = ap Ok (ok_same h)

at_line_ok : {A : Type 0} (n : ℕ) (o : Result A LineFault) (a : A) → at_line n o ≡ Ok a → o ≡ Ok a
at_line_ok n (Err f) a h = absurd (err_ok h)
at_line_ok n (Ok x) a h = ap Ok (ok_same h)

tiled_ok : (j : Job) (ss : List Section) (o : Option ℕ) (h : Heading) → tiled j ss o ≡ Ok h → (o ≡ None) × (record { job = j; sections = ss } ≡ h)
tiled_ok j ss (Some k) h e = absurd (err_ok e)
tiled_ok j ss None h e = (refl, ok_same e)

tiles_some : (at : ℕ) (ss : List Section) (n end : ℕ) → length ss ≡ n + 1 → first_wrong 0 at ss end ≡ None → Tiles at ss end
tiles_some at [] n end l e = absurd (omega arith)
tiles_some at (s ∷ ss) n end l e = do_tile 0 at s ss end e

-- the lines in front, and how they are read

were_lines : (file : List ℕ) (j : Job) (after : List ℕ) (ds : List Section) (rest : List ℕ) → reads job_lines file ≡ Ok (j, after) → Read (j.threads + 1) [] after ds rest → HeadLines file j ds rest
were_lines file j after ds rest e r =
    let s = is_spelled job_lines job_codec file j after e in
    record {
      spelled = s.0 ∙ ap (λ xs. spells job_lines j ++ xs) (r.spelled ∙ ap (λ ss. all_spelled section_lines ss ++ rest) (sym r.whole));
      job_fits = s.1;
      sections_fit = subst (AllByRecursion SectionFits) (sym r.whole) r.fit;
    }

job_read : (file : List ℕ) (j : Job) (ds : List Section) (rest : List ℕ) → HeadLines file j ds rest → reads job_lines file ≡ Ok (j, all_spelled section_lines ds ++ rest)
job_read file j ds rest h = is_read job_lines job_codec file j (all_spelled section_lines ds ++ rest) h.job_fits h.spelled

begins : (file : List ℕ) (h : Heading) → heading file ≡ Ok h → Begins file h
begins file h e =
    let a = then_ok (in_section Line 0 (at_line 1 (reads job_lines file))) _ h e in
    let j = a.0 in
    let read-job : reads job_lines file ≡ Ok (j.0, j.1) = at_line_ok 1 (reads job_lines file) j (in_section_ok Line 0 (at_line 1 (reads job_lines file)) j a.1) in
    let b = then_ok (in_section Line 0 (sections_from (j.0.threads + 1) 2 [] j.1)) _ h a.2 in
    let d = b.0 in
    let r = sections_were (j.0.threads + 1) 2 [] j.1 d.0 d.1 (in_section_ok Line 0 (sections_from (j.0.threads + 1) 2 [] j.1) d b.1) in
    let t = tiled_ok j.0 d.0 (first_wrong 0 (length file - length d.1) d.0 (length file)) h b.2 in
    subst (Begins file) t.1 (record {
      rest = d.1;
      lines = were_lines file j.0 j.1 d.0 d.1 read-job r;
      many = ap length r.whole ∙ r.many;
      tiles = tiles_some (length file - length d.1) d.0 j.0.threads (length file) (ap length r.whole ∙ r.many) t.0;
    })

heads : (file : List ℕ) (h : Heading) → Begins file h → heading file ≡ Ok h
heads file h b =
    let after = all_spelled section_lines h.sections ++ b.rest in
    let j = job_read file h.job h.sections b.rest b.lines in
    let d : sections_from (h.job.threads + 1) 2 [] after ≡ Ok (h.sections, b.rest) = ap (λ n. sections_from n 2 [] after) (sym b.many) ∙ sections_are h.sections 2 [] after b.rest b.lines.sections_fit refl in
    rw (j, d, none_do_not 0 (length file - length b.rest) h.sections (length file) b.tiles)

pub head_exact : (file : List ℕ) (r : Result Heading (Refusal FileFault)) → r ≡ heading file → HeadExact file r
head_exact file r e = λ h. (λ k. begins file h (sym e ∙ k), λ b. e ∙ heads file h b)

-- the head that is refused

pub then_err : {A B E : Type 0} (o : Result A E) (on : A → Result B E) (e : E) → and_then o on ≡ Err e → (o ≡ Err e) ⊎ ((a : A) × (o ≡ Ok a) × (on a ≡ Err e))
then_err (Err f) on e h = inl (ap Err (err_same h))
then_err (Ok a) on e h = inr (a, refl, h)

pub in_section_err : {A E F : Type 0} (fault : E → F) (s : ℕ) (o : Result A (LineRefusal E)) (e : Refusal F) → in_section fault s o ≡ Err e → (r : LineRefusal E) × (o ≡ Err r) × (e ≡ record { fault = fault r.fault; section = s; line = r.line })
in_section_err fault s (Ok a) e h = absurd (err_ok (sym h))
in_section_err fault s (Err r) e h = (r, refl, sym (err_same h))

at_line_err : {A : Type 0} (n : ℕ) (o : Result A LineFault) (r : LineRefusal LineFault) → at_line n o ≡ Err r → (o ≡ Err r.fault) × (r.line ≡ n)
at_line_err n (Ok a) r h = absurd (err_ok (sym h))
at_line_err n (Err f) r h = let same = err_same h in (ap (λ x. Err x.fault) same, ap (λ x. x.line) (sym same))

tiled_err : (j : Job) (ss : List Section) (o : Option ℕ) (e : Refusal FileFault) → tiled j ss o ≡ Err e → (k : ℕ) × (o ≡ Some k) × (e ≡ record { fault = Sections; section = 0; line = k + 2 })
tiled_err j ss None e h = absurd (err_ok (sym h))
tiled_err j ss (Some k) e h = (k, refl, sym (err_same h))

-- the refusal is of the head, and says what is wrong with it
abbrev Refuted : List ℕ → Refusal FileFault → Type 0
Refuted file e = (e.section ≡ 0) × NoHead file e.fault e.line

out_of_place : (file : List ℕ) (j : Job) (ds : List Section) (rest : List ℕ) (k : ℕ) (e : Refusal FileFault) → HeadLines file j ds rest → length ds ≡ j.threads + 1 → first_wrong 0 (length file - length rest) ds (length file) ≡ Some k → e ≡ record { fault = Sections; section = 0; line = k + 2 } → Refuted file e
out_of_place file j ds rest k e h many w same =
    let m = is_misplaced 0 (length file - length rest) ds (length file) k (omega arith) w in
    let line : length m.before + 2 ≡ k + 2 = omega (arith, m.numbered) in
    let found : NoHead file Sections (length m.before + 2) = out_of_order j m.before m.section m.later rest m.at (rw m.whole at h) (rw m.whole at many) m.tiles m.inside m.wrong in
    rw same (refl, rw line at found)

too_few : (file : List ℕ) (j : Job) (after : List ℕ) (r : LineRefusal LineFault) (e : Refusal FileFault) → reads job_lines file ≡ Ok (j, after) → Refused (j.threads + 1) 2 after r → e ≡ record { fault = Line r.fault; section = 0; line = r.line } → Refuted file e
too_few file j after r e read w same =
    let s = is_spelled job_lines job_codec file j after read in
    let h : HeadLines file j w.new w.rest = record { spelled = s.0 ∙ ap (λ xs. spells job_lines j ++ xs) w.spelled; job_fits = s.1; sections_fit = w.fit } in
    let found : NoHead file (Line r.fault) (length w.new + 2) = no_section j w.new w.rest h (omega (arith, w.few)) (no_line section_lines section_codec w.rest r.fault w.refused) in
    rw same (refl, rw (sym w.numbered) at found)

no_job_line : (file : List ℕ) (r : LineRefusal LineFault) (e : Refusal FileFault) → reads job_lines file ≡ Err r.fault → r.line ≡ 1 → e ≡ record { fault = Line r.fault; section = 0; line = r.line } → Refuted file e
no_job_line file r e refused first same =
    let found : NoHead file (Line r.fault) 1 = no_job (no_line job_lines job_codec file r.fault refused) in
    rw same (refl, rw (sym first) at found)

past_job : (file : List ℕ) (j : Job) (after : List ℕ) (e : Refusal FileFault) → reads job_lines file ≡ Ok (j, after) → and_then (in_section Line 0 (sections_from (j.threads + 1) 2 [] after)) (λ d. tiled j d.0 (first_wrong 0 (length file - length d.1) d.0 (length file))) ≡ Err e → Refuted file e
past_job file j after e read h = elim (then_err (in_section Line 0 (sections_from (j.threads + 1) 2 [] after)) _ e h) [
  | inl w ↦
      let s = in_section_err Line 0 (sections_from (j.threads + 1) 2 [] after) e w in
      too_few file j after s.0 e read (sections_refused (j.threads + 1) 2 [] after s.0 s.1) s.2
  | inr b ↦
      let d = b.0 in
      let r = sections_were (j.threads + 1) 2 [] after d.0 d.1 (in_section_ok Line 0 (sections_from (j.threads + 1) 2 [] after) d b.1) in
      let t = tiled_err j d.0 (first_wrong 0 (length file - length d.1) d.0 (length file)) e b.2 in
      out_of_place file j d.0 d.1 t.0 e (were_lines file j after d.0 d.1 read r) (ap length r.whole ∙ r.many) t.1 t.2
]

refuted : (file : List ℕ) (e : Refusal FileFault) → heading file ≡ Err e → Refuted file e
refuted file e h = elim (then_err (in_section Line 0 (at_line 1 (reads job_lines file))) _ e h) [
  | inl w ↦
      let s = in_section_err Line 0 (at_line 1 (reads job_lines file)) e w in
      let l = at_line_err 1 (reads job_lines file) s.0 s.1 in
      no_job_line file s.0 e l.0 l.1 s.2
  | inr a ↦
      let j = a.0 in
      let read-job : reads job_lines file ≡ Ok (j.0, j.1) = at_line_ok 1 (reads job_lines file) j (in_section_ok Line 0 (at_line 1 (reads job_lines file)) j a.1) in
      past_job file j.0 j.1 e read-job a.2
]

-- the head is refused exactly for what is wrong with it

pub head_refused : (file : List ℕ) (fault : FileFault) (line : ℕ) → heading file ≡ Err (record { fault = fault; section = 0; line = line }) → NoHead file fault line
head_refused file fault line e = (refuted file (record { fault = fault; section = 0; line = line }) e).1

-- a refusal of the head is of section 0
pub head_section : (file : List ℕ) (e : Refusal FileFault) → heading file ≡ Err e → e.section ≡ 0
head_section file e h = (refuted file e h).0

pub refused_head : (file : List ℕ) (fault : FileFault) (line : ℕ) → NoHead file fault line → heading file ≡ Err (record { fault = fault; section = 0; line = line })
refused_head file fault line (no_job {fault = f} w) = rw (line_refused job_lines job_codec file f w)
refused_head file fault line (no_section {fault = f} j ds rest h few w) =
    let after = all_spelled section_lines ds ++ rest in
    let r = job_read file j ds rest h in
    let d : sections_from (j.threads + 1) 2 [] after ≡ Err (record { fault = f; line = length ds + 2 }) = sections_refuse ds (j.threads + 1) 2 [] after rest f (omega arith) h.sections_fit refl (line_refused section_lines section_codec rest f w) in
    rw (r, d)
refused_head file fault line (out_of_order j before d later rest start h many t room w) =
    let ds = before ++ (d ∷ later) in
    let after = all_spelled section_lines ds ++ rest in
    let r = job_read file j ds rest h in
    let read : sections_from (j.threads + 1) 2 [] after ≡ Ok (ds, rest) = ap (λ n. sections_from n 2 [] after) (sym many) ∙ sections_are ds 2 [] after rest h.sections_fit refl in
    let first : first_wrong 0 (length file - length rest) ds (length file) ≡ Some (length before + 0) = misplaced_is before 0 (length file - length rest) start d later (length file) t room w in
    let line-is : length before + 0 + 2 ≡ length before + 2 = omega arith in
    rw (r, read, first) (ap (λ n. Err (record { fault = Sections; section = 0; line = n })) line-is)

pub refuses_head : (file : List ℕ) (r : Result Heading (Refusal FileFault)) → r ≡ heading file → RefusesHead file r
refuses_head file r e = λ fault line. (λ h. head_refused file fault line (sym e ∙ h), λ w. e ∙ refused_head file fault line w)

-- the head of a file, by its length
pub file_head_was : (file : List ℕ) (h : Heading) → file_heading file ≡ Ok h → (length file ≤ 65535) × (heading file ≡ Ok h)
file_head_was file h e = elim (cases_Bool (ltb 65535 (length file))) [
  | inl big ↦ absurd (err_ok (rw big at e))
  | inr small ↦ (ltb-false 65535 (length file) small, rw small at e)
]

pub file_head_is : (file : List ℕ) (h : Heading) → length file ≤ 65535 → heading file ≡ Ok h → file_heading file ≡ Ok h
file_head_is file h small e = cond-false (ltb 65535 (length file)) _ _ (le-ltb 65535 (length file) small) ∙ e

pub file_head_refused : (file : List ℕ) (e : Refusal FileFault) → file_heading file ≡ Err e → ((65535 < length file) × (e ≡ record { fault = FileSize; section = 0; line = 0 })) ⊎ ((length file ≤ 65535) × (heading file ≡ Err e))
file_head_refused file e h = elim (cases_Bool (ltb 65535 (length file))) [
  | inl big ↦ inl (ltb-true 65535 (length file) big, sym (err_same (rw big at h)))
  | inr small ↦ inr (ltb-false 65535 (length file) small, rw small at h)
]

pub file_too_long : (file : List ℕ) → 65535 < length file → file_heading file ≡ Err (record { fault = FileSize; section = 0; line = 0 })
file_too_long file big = cond-true (ltb 65535 (length file)) _ _ (lt-ltb 65535 (length file) big)

pub refused_file_head : (file : List ℕ) (e : Refusal FileFault) → length file ≤ 65535 → heading file ≡ Err e → file_heading file ≡ Err e
refused_file_head file e small h = cond-false (ltb 65535 (length file)) _ _ (le-ltb 65535 (length file) small) ∙ h
