-- A file is accepted exactly when its trace is a run of its programs.
use Rattle.std.proofs.Common.{◌≡◌, ℕ, ◌+◌, ◌≤◌, true, List, [], map, length, get_or, take, Ok, Err, Result, sym, refl, ap, ◌∙◌, inl, inr, arith, le-leb}
use Rattle.std.proofs.lemmas.List.{append-nil}
use Rattle.std.proofs.lemmas.Bool.{cases_Bool, cond-true}
use Rattle.lines.specs.declared.refusal.LineRefusal.{LineRefusal}
use Rattle.lines.specs.declared.trace.Line.{Line}
use Rattle.lines.specs.Families.{Family, reads, all_spelled}
use Rattle.lines.specs.Scopes.{in_scope}
use Rattle.lines.specs.TraceLines.{trace_lines}
use Rattle.lines.proofs.Options.{err_ok, ok_same}
use Rattle.lines.specs.Codecs.{Codec}
use Rattle.languages.specs.Behaviours.{Behaviour}
use Rattle.languages.specs.RegisterLines.{register_lines}
use Rattle.languages.specs.Registers.{register_start}
use Rattle.languages.specs.StripLines.{strip_lines}
use Rattle.languages.specs.Strips.{strip_start}
use Rattle.languages.specs.RegisterCodec.{register_codec}
use Rattle.languages.specs.StripCodec.{strip_codec}
use Rattle.rules.specs.Models.{Phase, between, turn, showing, Run}
use Rattle.rules.specs.Rules.{Tried, went, refused, new_run, made}
use Rattle.rules.proofs.Led.{accepted_leads, leads_accepted}
use Rattle.rules.proofs.Lawfulness.{made_sound}
use Rattle.run.specs.Reports.{is_between}
use Rattle.judge.specs.declared.fault.Fault.{Fault}
use Rattle.judge.specs.declared.fault.Fault.TheVariants.{File}
use Rattle.jobs.specs.declared.fault.Refusal.{Refusal}
use Rattle.jobs.specs.declared.job.LanguageChoice.{LanguageChoice}
use Rattle.jobs.specs.declared.job.LanguageChoice.TheVariants.{Registers, Strips}
use Rattle.jobs.specs.declared.section.Section.{Section}
use Rattle.jobs.specs.declared.fault.FileFault.{FileFault}
use Rattle.jobs.specs.Faults.{in_section, widened}
use Rattle.jobs.specs.Heads.{and_then, Heading, heading, file_heading}
use Rattle.jobs.specs.HeadLaws.{Begins}
use Rattle.jobs.specs.JobCodec.{scope_tells}
use Rattle.jobs.specs.Programs.{cut, nowhere, programs_after}
use Rattle.jobs.proofs.HeadLaws.{then_ok, in_section_ok, head_exact, file_head_was, file_head_is}
use Rattle.judge.specs.Traces.{Progress, followed, finished, trace_judged}
use Rattle.judge.specs.Verdicts.{run_made, with_trace, read_as, read_in, judged}
use Rattle.judge.specs.JobLaws.{HoldPrograms, ThreadsIn, JobIn, IsRun}
use Rattle.judge.proofs.ProgramsHeld.{programs_were, programs_are}
use Rattle.judge.proofs.Traced.{followed_lines, lines_followed}

-- a run of a job line is made
pub makes : (threads : List Behaviour) (n l : ℕ) → in_scope n l ≡ true → made threads n l 64 ≡ went (new_run threads n l 64)
makes threads n l fits =
    let low = (scope_tells n l fits).1 in
    cond-true (in_scope n l) _ _ fits ∙ cond-true _ _ _ (le-leb l 64 (omega arith))

made_ok : (t : Tried Run) (r : Run) → run_made t ≡ Ok r → t ≡ went r
made_ok (went x) r e = ap went (ok_same e)
made_ok (refused f) r e = absurd (err_ok e)

pub widened_ok : {A : Type 0} (o : Result A (Refusal FileFault)) (a : A) → widened File o ≡ Ok a → o ≡ Ok a
widened_ok (Ok x) a e = ap Ok (ok_same e)
widened_ok (Err f) a e = absurd (err_ok e)

between_is : (ph : Phase) → is_between ph ≡ true → ph ≡ between
between_is between e = refl
between_is (turn i) e = let z : ◌≡◌ {A = ℕ} 0 1 = cc in absurd (omega arith)
between_is (showing i s line) e = let z : ◌≡◌ {A = ℕ} 0 1 = cc in absurd (omega arith)

finished_ok : (s p : Progress) → finished s ≡ Ok p → (s ≡ p) × (s.run.phase ≡ between)
finished_ok s p e = elim (cases_Bool (is_between s.run.phase)) [
  | inl yes-is ↦ (ok_same (rw yes-is at e), between_is s.run.phase yes-is)
  | inr no-is ↦ absurd (err_ok (rw no-is at e))
]

-- a run of these threads that the trace in its section leads to p, between turns
record Runs (capacity : ℕ) (file : List ℕ) (n l : ℕ) (sections : List Section) (threads : List Behaviour) (p : Progress) : Type 0 where
  pub first : Run
  pub start : made threads n l capacity ≡ went first
  pub follows : followed n l first (cut file (get_or sections n nowhere)) ≡ Ok p
  pub ended : p.run.phase ≡ between

module _ (capacity : ℕ) (file : List ℕ) (n l : ℕ) (sections : List Section) where
  runs : (threads : List Behaviour) (p : Progress) → with_trace capacity file n l sections threads ≡ Ok p → Runs capacity file n l sections threads p
  runs threads p e =
      let bs = cut file (get_or sections n nowhere) in
      let m = then_ok (run_made (made threads n l capacity)) _ p e in
      let t = then_ok (followed n l m.0 bs) finished p (in_section_ok (λ f. f) (n + 1) (trace_judged n l m.0 bs) p m.2) in
      let f = finished_ok t.0 p t.2 in
      record {
        first = m.0;
        start = made_ok (made threads n l capacity) m.0 m.1;
        follows = t.1 ∙ ap Ok f.0;
        ended = ap (λ (q : Progress). q.run.phase) (sym f.0) ∙ f.1;
      }

  -- the verdict on the trace of a run that is made
  pub traced : (threads : List Behaviour) (first : Run) → made threads n l capacity ≡ went first → (o : Result Progress (LineRefusal Fault)) → trace_judged n l first (cut file (get_or sections n nowhere)) ≡ o
      → with_trace capacity file n l sections threads ≡ in_section (λ f. f) (n + 1) o
  traced threads first start o e =
      let bs = cut file (get_or sections n nowhere) in
      ap (λ t. and_then (run_made t) (λ r. in_section (λ f. f) (n + 1) (trace_judged n l r bs))) start ∙ ap (in_section (λ f. f) (n + 1)) e

  runs_back : (threads : List Behaviour) (p : Progress) → Runs capacity file n l sections threads p → with_trace capacity file n l sections threads ≡ Ok p
  runs_back threads p w =
      let done : finished p ≡ Ok p = cond-true (is_between p.run.phase) _ _ (ap is_between w.ended) in
      traced threads w.first w.start (Ok p) (ap (λ o. and_then o finished) w.follows ∙ done)

  -- the programs

  module _ {K I : Type 0} (F : Family K I) {Fits : I → Type 0} (codec : Codec F Fits) (start : List I → Behaviour) where
    read_were : (p : Progress) → read_as (reads F) start capacity file n l sections ≡ Ok p → (ps : List (List I)) × HoldPrograms F Fits file (take n sections) ps × (with_trace capacity file n l sections (map start ps) ≡ Ok p)
    read_were p e =
        let o = programs_after (reads F) file 1 [] (take n sections) in
        let t = then_ok (widened File o) _ p e in
        let h = programs_were F codec file (take n sections) 1 [] t.0 (widened_ok o t.0 t.1) in
        (h.0, h.2, ap (λ ps. with_trace capacity file n l sections (map start ps)) (sym h.1) ∙ t.2)

    read_are : (ps : List (List I)) (threads : List Behaviour) → HoldPrograms F Fits file (take n sections) ps → threads ≡ map start ps → read_as (reads F) start capacity file n l sections ≡ with_trace capacity file n l sections threads
    read_are ps threads h same =
        ap (λ o. and_then (widened File o) (λ qs. with_trace capacity file n l sections (map start qs))) (programs_are F codec file (take n sections) 1 [] ps h) ∙ ap (with_trace capacity file n l sections) (sym same)

  threads_were : (g : LanguageChoice) (p : Progress) → l ≤ 8 → read_in g capacity file n l sections ≡ Ok p → (threads : List Behaviour) × ThreadsIn g l file (take n sections) threads × (with_trace capacity file n l sections threads ≡ Ok p)
  threads_were Registers p small e = let r = read_were (register_lines l) (register_codec l small) register_start p e in (map register_start r.0, (r.0, r.1, refl), r.2)
  threads_were Strips p small e = let r = read_were (strip_lines l) (strip_codec l small) strip_start p e in (map strip_start r.0, (r.0, r.1, refl), r.2)

  threads_are : (g : LanguageChoice) → l ≤ 8 → (threads : List Behaviour) → ThreadsIn g l file (take n sections) threads → read_in g capacity file n l sections ≡ with_trace capacity file n l sections threads
  threads_are Registers small threads t = read_are (register_lines l) (register_codec l small) register_start t.0 threads t.1 t.2
  threads_are Strips small threads t = read_are (strip_lines l) (strip_codec l small) strip_start t.0 threads t.1 t.2

-- the file

module _ (file : List ℕ) where
  abbrev pub after_head : Heading → Result Progress (Refusal Fault)
  after_head h = read_in h.job.language 64 file h.job.threads h.job.locations h.sections

  -- the verdict on a file whose head is read
  pub headed : (h : Heading) → length file ≤ 65535 → Begins file h → judged 64 file ≡ after_head h
  headed h small b = ap (λ o. and_then (widened File o) after_head) (file_head_is file h small ((head_exact file (heading file) refl h).1 b))

  -- and on one whose programs are read
  pub judged_job : (h : Heading) (threads : List Behaviour) → JobIn file h threads → judged 64 file ≡ with_trace 64 file h.job.threads h.job.locations h.sections threads
  judged_job h threads j =
      let n = h.job.threads in
      let l = h.job.locations in
      headed h j.small j.begins ∙ threads_are 64 file n l h.sections h.job.language (scope_tells n l j.begins.lines.job_fits).1 threads j.programs

  pub is_run : (p : Progress) → judged 64 file ≡ Ok p → (trace : List Line) × (r : Run) × IsRun file trace r × (p ≡ record { count = length trace; run = r })
  is_run p e =
      let t = then_ok (widened File (file_heading file)) after_head p e in
      let h = t.0 in
      let was = file_head_was file h (widened_ok (file_heading file) h t.1) in
      let b : Begins file h = (head_exact file (heading file) refl h).0 was.1 in
      let n = h.job.threads in
      let l = h.job.locations in
      let s = scope_tells n l b.lines.job_fits in
      let q = threads_were 64 file n l h.sections h.job.language p s.1 t.2 in
      let w = runs 64 file n l h.sections q.0 p q.2 in
      let f = followed_lines n l s.0 s.1 w.first (cut file (get_or h.sections n nowhere)) p w.follows in (
        f.lines,
        p.run,
        record {
          heading = h;
          reaches = record {
            threads = q.0;
            job = record { small = was.0; begins = b; programs = q.1 };
            spelled = f.spelled ∙ sym (append-nil (all_spelled (trace_lines n l) f.lines));
            fit = f.fit;
            first = w.first;
            start = w.start;
            led = accepted_leads w.first f.lines p.run (made_sound q.0 n l 64 (omega arith) w.first w.start) f.accepted;
          };
          ended = w.ended;
        },
        λ i. record { count = f.count i; run = p.run },
      )

  pub run_is : (trace : List Line) (r : Run) → IsRun file trace r → judged 64 file ≡ Ok (record { count = length trace; run = r })
  run_is trace r w =
      let h = w.heading in
      let n = h.job.threads in
      let l = h.job.locations in
      let g = w.reaches in
      let p : Progress = record { count = length trace; run = r } in
      let s = scope_tells n l g.job.begins.lines.job_fits in
      let spelled = g.spelled ∙ append-nil (all_spelled (trace_lines n l) trace) in
      let accepted = leads_accepted (made_sound g.threads n l 64 (omega arith) g.first g.start) g.led in
      let follows = lines_followed n l s.0 s.1 g.first (cut file (get_or h.sections n nowhere)) p (record { lines = trace; spelled = spelled; fit = g.fit; accepted = accepted; count = refl }) in
      judged_job h g.threads g.job ∙ runs_back 64 file n l h.sections g.threads p (record { first = g.first; start = g.start; follows = follows; ended = w.ended })
