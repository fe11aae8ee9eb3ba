-- A file is refused exactly for the first thing that is wrong with it.
use Rattle.std.proofs.Common.{◌≡◌, ℕ, ◌+◌, ◌≤◌, false, List, [], ◌++◌, map, length, take, Ok, Err, Result, sym, refl, ap, ◌∙◌, subst, ◌⊎◌, inl, inr, arith}
use Rattle.std.specs.Prelude.{◌≢◌}
use Rattle.std.specs.List.{AllByRecursion}
use Rattle.std.proofs.lemmas.List.{append-nil}
use Rattle.std.proofs.lemmas.Bool.{cases_Bool, cond-false, true≢false}
use Rattle.lines.specs.declared.refusal.LineRefusal.{LineRefusal}
use Rattle.lines.specs.declared.trace.Line.{Line}
use Rattle.lines.specs.Families.{Family, reads, spells, all_spelled}
use Rattle.lines.specs.TraceLines.{trace_lines, TraceFits}
use Rattle.lines.proofs.Options.{err_ok, err_same}
use Rattle.lines.specs.Codecs.{Codec}
use Rattle.languages.specs.declared.read_program.ProgramFault.{ProgramFault}
use Rattle.languages.specs.Behaviours.{Behaviour}
use Rattle.languages.specs.RegisterLines.{register_lines}
use Rattle.languages.specs.Registers.{register_start}
use Rattle.languages.specs.StripLines.{strip_lines}
use Rattle.languages.specs.Strips.{strip_start}
use Rattle.languages.specs.RegisterCodec.{register_codec}
use Rattle.languages.specs.StripCodec.{strip_codec}
use Rattle.rules.specs.Models.{Phase, between, turn, showing, Run}
use Rattle.rules.specs.Rules.{went, new_run, made}
use Rattle.rules.proofs.Led.{Accepted, accepted_leads, leads_accepted}
use Rattle.rules.proofs.Lawfulness.{made_sound}
use Rattle.run.specs.Reports.{is_between}
use Rattle.judge.specs.declared.fault.Fault.{Fault}
use Rattle.judge.specs.declared.fault.Fault.TheVariants.{File, Unfinished}
use Rattle.jobs.specs.declared.fault.Refusal.{Refusal}
use Rattle.jobs.specs.declared.job.LanguageChoice.{LanguageChoice}
use Rattle.jobs.specs.declared.job.LanguageChoice.TheVariants.{Registers, Strips}
use Rattle.jobs.specs.declared.section.Section.{Section}
use Rattle.jobs.specs.declared.fault.FileFault.{FileFault}
use Rattle.jobs.specs.Faults.{widened, program_fault}
use Rattle.jobs.specs.Heads.{and_then, Heading, heading, file_heading}
use Rattle.jobs.specs.HeadLaws.{Begins}
use Rattle.jobs.specs.JobCodec.{scope_tells}
use Rattle.jobs.specs.Programs.{programs_after}
use Rattle.jobs.proofs.HeadLaws.{head_exact, head_refused, head_section, refused_head, file_head_was, file_head_refused, file_too_long, refused_file_head, then_err, in_section_err}
use Rattle.judge.specs.Traces.{Progress, followed, finished, trace_judged}
use Rattle.judge.specs.Verdicts.{with_trace, read_as, read_in, judged}
use Rattle.judge.specs.JobLaws.{HoldPrograms, ThreadsIn, JobIn, trace_bytes, Reaches, WrongProgram, NoThreads, Refuses, too_long, no_head, no_program, no_line, no_step, no_end}
use Rattle.judge.proofs.Judged.{makes, widened_ok, traced, after_head, headed, judged_job}
use Rattle.judge.proofs.ProgramsHeld.{programs_were, programs_wrong, wrong_programs}
use Rattle.judge.proofs.Traced.{followed_lines, lines_followed, followed_halted, halted_followed, Wrong, unread, unaccepted, taken_wrong, wrong_taken, law_after}

widened_err : {A : Type 0} (o : Result A (Refusal FileFault)) (e : Refusal Fault) → widened File o ≡ Err e → (r : Refusal FileFault) × (o ≡ Err r) × (e ≡ record { fault = File r.fault; section = r.section; line = r.line })
widened_err (Ok x) e h = absurd (err_ok (sym h))
widened_err (Err r) e h = (r, refl, sym (err_same h))

not_between : (ph : Phase) → ph ≢ between → is_between ph ≡ false
not_between between never = absurd (never refl)
not_between (turn i) never = refl
not_between (showing i s line) never = refl

finished_err : (s : Progress) (e : LineRefusal Fault) → finished s ≡ Err e → (e ≡ record { fault = Unfinished; line = s.count }) × (s.run.phase ≢ between)
finished_err s e h = elim (cases_Bool (is_between s.run.phase)) [
  | inl yes-is ↦ absurd (err_ok (sym (rw yes-is at h)))
  | inr no-is ↦ (sym (err_same (rw no-is at h)), λ b. true≢false (sym (ap is_between b) ∙ no-is))
]

-- the programs

module _ (file : List ℕ) (n l : ℕ) (sections : List Section) where
  module _ {K I : Type 0} (F : Family K I) {Fits : I → Type 0} (codec : Codec F Fits) (start : List I → Behaviour) where
    -- a program is wrong, or all are read and the trace is refused
    read_refused : (e : Refusal Fault) → read_as (reads F) start 64 file n l sections ≡ Err e
        → ((fault : ProgramFault) × WrongProgram F Fits file (take n sections) fault e.section e.line × (e.fault ≡ File (program_fault fault)))
        ⊎ ((ps : List (List I)) × HoldPrograms F Fits file (take n sections) ps × (with_trace 64 file n l sections (map start ps) ≡ Err e))
    read_refused e h =
        let o = programs_after (reads F) file 1 [] (take n sections) in
        elim (then_err (widened File o) (λ ps. with_trace 64 file n l sections (map start ps)) e h) [
          | inl bad ↦
              let r = widened_err o e bad in
              let w = programs_wrong F codec file (take n sections) 1 [] r.0 r.1 in
              let of : WrongProgram F Fits file (take n sections) w.fault r.0.section r.0.line = record {
                before = w.before;
                wrong = w.wrong;
                later = w.later;
                programs = w.programs;
                parts = w.parts;
                right = w.right;
                number = w.number;
                none = w.none;
              } in
              inl (
                w.fault,
                subst (λ (x : Refusal Fault). WrongProgram F Fits file (take n sections) w.fault x.section x.line) (sym r.2) of,
                ap (λ (x : Refusal Fault). x.fault) r.2 ∙ ap File w.why,
              )
          | inr on ↦
              let w = programs_were F codec file (take n sections) 1 [] on.0 (widened_ok o on.0 on.1) in
              inr (w.0, w.2, ap (λ ps. with_trace 64 file n l sections (map start ps)) (sym w.1) ∙ on.2)
        ]

    refused_read : (fault : ProgramFault) (section line : ℕ) → WrongProgram F Fits file (take n sections) fault section line
        → read_as (reads F) start 64 file n l sections ≡ Err (record { fault = File (program_fault fault); section = section; line = line })
    refused_read fault section line w =
        let is = ap (programs_after (reads F) file 1 []) w.parts ∙ wrong_programs F codec file w.before 1 [] w.programs w.wrong w.later fault line w.right w.none in
        ap (λ o. and_then (widened File o) (λ ps. with_trace 64 file n l sections (map start ps))) is
        ∙ ap (λ k. Err (record { fault = File (program_fault fault); section = k; line = line })) (sym w.number)

  threads_refused : (g : LanguageChoice) → l ≤ 8 → (e : Refusal Fault) → read_in g 64 file n l sections ≡ Err e
      → ((fault : ProgramFault) × NoThreads g l file (take n sections) fault e.section e.line × (e.fault ≡ File (program_fault fault)))
      ⊎ ((threads : List Behaviour) × ThreadsIn g l file (take n sections) threads × (with_trace 64 file n l sections threads ≡ Err e))
  threads_refused Registers small e h = elim (read_refused (register_lines l) (register_codec l small) register_start e h) [
    | inl bad ↦ inl bad
    | inr on ↦ inr (map register_start on.0, (on.0, on.1, refl), on.2)
  ]
  threads_refused Strips small e h = elim (read_refused (strip_lines l) (strip_codec l small) strip_start e h) [
    | inl bad ↦ inl bad
    | inr on ↦ inr (map strip_start on.0, (on.0, on.1, refl), on.2)
  ]

  refused_threads : (g : LanguageChoice) → l ≤ 8 → (fault : ProgramFault) (section line : ℕ) → NoThreads g l file (take n sections) fault section line
      → read_in g 64 file n l sections ≡ Err (record { fault = File (program_fault fault); section = section; line = line })
  refused_threads Registers small fault section line w = refused_read (register_lines l) (register_codec l small) register_start fault section line w
  refused_threads Strips small fault section line w = refused_read (strip_lines l) (strip_codec l small) strip_start fault section line w

module _ (file : List ℕ) where
  abbrev Refused : Refusal Fault → Type 0
  Refused e = Refuses file e.fault e.section e.line

  -- the trace of a job

  module _ (h : Heading) (threads : List Behaviour) (j : JobIn file h threads) where
    abbrev first : Run
    first = new_run threads h.job.threads h.job.locations 64

    start : made threads h.job.threads h.job.locations 64 ≡ went (new_run threads h.job.threads h.job.locations 64)
    start = makes threads h.job.threads h.job.locations j.begins.lines.job_fits

    reach : (lines : List Line) (rest : List ℕ) (r : Run) → trace_bytes file h ≡ all_spelled (trace_lines h.job.threads h.job.locations) lines ++ rest
        → AllByRecursion (TraceFits h.job.threads h.job.locations) lines → Accepted first lines r → Reaches file h lines rest r
    reach lines rest r spelled fit accepted =
        record {
          threads = threads;
          job = j;
          spelled = spelled;
          fit = fit;
          first = first;
          start = start;
          led = accepted_leads first lines r (made_sound threads h.job.threads h.job.locations 64 (omega arith) first start) accepted;
        }

    abbrev at_line : LineRefusal Fault → Type 0
    at_line e = Refuses file e.fault (h.job.threads + 1) e.line

    at_wrong : (lines : List Line) (rest : List ℕ) (r : Run) (f : Fault) → Reaches file h lines rest r → rest ≢ [] → Wrong h.job.threads h.job.locations r rest f
        → Refuses file f (h.job.threads + 1) (length lines + 1)
    at_wrong lines rest r f re left (unread none) = no_line h lines rest r re left none
    at_wrong lines rest r f re left (unaccepted line after e sp fits why) =
        no_step h lines line after r e (subst (λ bs. Reaches file h lines bs r) sp re) fits why

    halts : (e : LineRefusal Fault) → followed h.job.threads h.job.locations first (trace_bytes file h) ≡ Err e → at_line e
    halts e is =
        let n = h.job.threads in
        let l = h.job.locations in
        let s = scope_tells n l j.begins.lines.job_fits in
        let w = followed_halted n l s.0 s.1 first (trace_bytes file h) e is in
        let law = (law_after threads n l 64 (omega arith) first start w.lines w.last w.accepted).law in
        let wrong = taken_wrong n l s.0 s.1 w.last law.refusals w.rest e.fault w.fault in
        subst (Refuses file e.fault (n + 1)) (sym w.number) (at_wrong w.lines w.rest w.last e.fault (reach w.lines w.rest w.last w.spelled w.fit w.accepted) w.left wrong)

    is_unfinished : (s : Progress) (e : LineRefusal Fault) → followed h.job.threads h.job.locations first (trace_bytes file h) ≡ Ok s → finished s ≡ Err e → at_line e
    is_unfinished p e is end =
        let n = h.job.threads in
        let l = h.job.locations in
        let s = scope_tells n l j.begins.lines.job_fits in
        let f = followed_lines n l s.0 s.1 first (trace_bytes file h) p is in
        let u = finished_err p e end in
        let re = reach f.lines [] p.run (f.spelled ∙ sym (append-nil (all_spelled (trace_lines n l) f.lines))) f.fit f.accepted in
        subst at_line (sym (u.0 ∙ ap (λ k. record { fault = Unfinished; line = k }) f.count)) (no_end h f.lines p.run re u.1)

    trace_refuses : (e : Refusal Fault) → with_trace 64 file h.job.threads h.job.locations h.sections threads ≡ Err e → Refused e
    trace_refuses e is =
        let n = h.job.threads in
        let l = h.job.locations in
        let o = trace_judged n l first (trace_bytes file h) in
        let r = in_section_err (λ f. f) (n + 1) o e (sym (traced 64 file n l h.sections threads first start o refl) ∙ is) in
        subst Refused (sym r.2) (elim (then_err (followed n l first (trace_bytes file h)) finished r.0 r.1) [
          | inl bad ↦ halts r.0 bad
          | inr on ↦ is_unfinished on.0 r.0 on.1 on.2
        ])

  -- what is found is wrong with the file

  of_head : (r : Refusal FileFault) → file_heading file ≡ Err r → Refuses file (File r.fault) r.section r.line
  of_head r is = elim (file_head_refused file r is) [
    | inl long ↦ subst (λ (x : Refusal FileFault). Refuses file (File x.fault) x.section x.line) (sym long.1) (too_long long.0)
    | inr bad ↦
        let zero-is = head_section file r bad.1 in
        let here : heading file ≡ Err (record { fault = r.fault; section = 0; line = r.line }) = bad.1 ∙ ap (λ k. Err (record { fault = r.fault; section = k; line = r.line })) zero-is in
        subst (λ k. Refuses file (File r.fault) k r.line) (sym zero-is) (no_head bad.0 (head_refused file r.fault r.line here))
  ]

  pub is_refused : (e : Refusal Fault) → judged 64 file ≡ Err e → Refuses file e.fault e.section e.line
  is_refused e is = elim (then_err (widened File (file_heading file)) (after_head file) e is) [
    | inl bad ↦ let r = widened_err (file_heading file) e bad in subst Refused (sym r.2) (of_head r.0 r.1)
    | inr on ↦
        let h = on.0 in
        let was = file_head_was file h (widened_ok (file_heading file) h on.1) in
        let b : Begins file h = (head_exact file (heading file) refl h).0 was.1 in
        let n = h.job.threads in
        let l = h.job.locations in
        elim (threads_refused file n l h.sections h.job.language (scope_tells n l b.lines.job_fits).1 e on.2) [
          | inl bad ↦ subst (λ f. Refuses file f e.section e.line) (sym bad.2) (no_program h bad.0 was.0 b bad.1)
          | inr t ↦ trace_refuses h t.0 (record { small = was.0; begins = b; programs = t.1 }) e t.2
        ]
  ]

  -- and what is wrong with the file is found

  abbrev Finds : Fault → ℕ → ℕ → Type 0
  Finds fault section line = judged 64 file ≡ Err (record { fault = fault; section = section; line = line })

  accepts : (h : Heading) (lines : List Line) (rest : List ℕ) (r : Run) (re : Reaches file h lines rest r) → Accepted re.first lines r
  accepts h lines rest r re = leads_accepted (made_sound re.threads h.job.threads h.job.locations 64 (omega arith) re.first re.start) re.led

  finds : (h : Heading) (lines : List Line) (rest : List ℕ) (r : Run) → (re : Reaches file h lines rest r) → (e : LineRefusal Fault)
      → trace_judged h.job.threads h.job.locations re.first (trace_bytes file h) ≡ Err e → Finds e.fault (h.job.threads + 1) e.line
  finds h lines rest r re e is = judged_job file h re.threads re.job ∙ traced 64 file h.job.threads h.job.locations h.sections re.threads re.first re.start (Err e) is

  finds_line : (h : Heading) (lines : List Line) (rest : List ℕ) (r : Run) → Reaches file h lines rest r → rest ≢ [] → (f : Fault) → Wrong h.job.threads h.job.locations r rest f
      → Finds f (h.job.threads + 1) (length lines + 1)
  finds_line h lines rest r re left f wrong =
      let n = h.job.threads in
      let l = h.job.locations in
      let s = scope_tells n l re.job.begins.lines.job_fits in
      let accepted = accepts h lines rest r re in
      let law = (law_after re.threads n l 64 (omega arith) re.first re.start lines r accepted).law in
      let e : LineRefusal Fault = record { fault = f; line = length lines + 1 } in
      let is = halted_followed n l s.0 s.1 re.first (trace_bytes file h) e (record {
        lines = lines;
        last = r;
        rest = rest;
        spelled = re.spelled;
        fit = re.fit;
        accepted = accepted;
        left = left;
        fault = wrong_taken n l s.0 s.1 r law.refusals rest f wrong;
        number = refl;
      }) in
      finds h lines rest r re e (ap (λ o. and_then o finished) is)

  finds_end : (h : Heading) (lines : List Line) (r : Run) → Reaches file h lines [] r → r.phase ≢ between → Finds Unfinished (h.job.threads + 1) (length lines)
  finds_end h lines r re open-is =
      let n = h.job.threads in
      let l = h.job.locations in
      let s = scope_tells n l re.job.begins.lines.job_fits in
      let p : Progress = record { count = length lines; run = r } in
      let e : LineRefusal Fault = record { fault = Unfinished; line = length lines } in
      let is = lines_followed n l s.0 s.1 re.first (trace_bytes file h) p (record {
        lines = lines;
        spelled = re.spelled ∙ append-nil (all_spelled (trace_lines n l) lines);
        fit = re.fit;
        accepted = accepts h lines [] r re;
        count = refl;
      }) in
      let end : finished p ≡ Err e = cond-false (is_between r.phase) _ _ (not_between r.phase open-is) in
      finds h lines [] r re e (ap (λ o. and_then o finished) is ∙ end)

  some_spelled : (n l : ℕ) (line : Line) (rest : List ℕ) → spells (trace_lines n l) line ++ rest ≢ []
  some_spelled n l line rest e = absurd (cc)

  pub refused_is : (fault : Fault) (section line : ℕ) → Refuses file fault section line → judged 64 file ≡ Err (record { fault = fault; section = section; line = line })
  refused_is fault section line (too_long long) = ap (λ o. and_then (widened File o) (after_head file)) (file_too_long file long)
  refused_is fault section line (no_head {fault = f} small none) =
      ap (λ o. and_then (widened File o) (after_head file)) (refused_file_head file (record { fault = f; section = 0; line = line }) small (refused_head file f line none))
  refused_is fault section line (no_program h f small b none) =
      headed file h small b ∙ refused_threads file h.job.threads h.job.locations h.sections h.job.language (scope_tells h.job.threads h.job.locations b.lines.job_fits).1 f section line none
  refused_is fault section line (no_line h lines rest r re left none) = finds_line h lines rest r re left _ (unread none)
  refused_is fault section line (no_step h lines refused-line rest r e re fits why) =
      finds_line h lines _ r re (some_spelled h.job.threads h.job.locations refused-line rest) _ (unaccepted refused-line rest e refl fits why)
  refused_is fault section line (no_end h lines r re open-is) = finds_end h lines r re open-is
