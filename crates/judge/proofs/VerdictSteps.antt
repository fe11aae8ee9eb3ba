-- The verdict on a file, put together.
use Rattle.std.proofs.Common.{◌≡◌, ℕ, ◌+◌, ◌≤◌, cond, ◌&&◌, ltb, leb, List, [], map, length, get_or, take, drop, Ok, Err, Result, sym, refl, ap, ◌∙◌, arith}
use native.Mathlib.Nat.{min-le_right}
use Rattle.std.proofs.lemmas.List.{length-take, length-drop, take-map, take-take}
use Rattle.std.proofs.lemmas.Bool.{cond_both}
use Rattle.lines.specs.declared.refusal.LineRefusal.{LineRefusal}
use Rattle.lines.proofs.Options.{err_ok, err_same, ok_same}
use Rattle.lines.specs.declared.reader.LineFault.{LineFault}
use Rattle.languages.specs.declared.read_program.Program.{Program}
use Rattle.languages.specs.Behaviours.{Behaviour}
use Rattle.languages.specs.Programs.{program_lines}
use Rattle.stores.specs.declared.kept.StoreFault.TheVariants.{Full}
use Rattle.stores.specs.Views.{zero_view}
use Rattle.rules.specs.declared.fault.StepFault.{StepFault}
use Rattle.rules.specs.declared.fault.StepFault.TheVariants.{Range, Store}
use Rattle.rules.specs.Models.{Run, between, fresh}
use Rattle.rules.specs.Rules.{Tried, went, refused, initials, made}
use Rattle.judge.specs.declared.fault.Fault.{Fault}
use Rattle.judge.specs.declared.fault.Fault.TheVariants.{File, Step, Unfinished}
use Rattle.jobs.specs.declared.fault.Refusal.{Refusal}
use Rattle.jobs.specs.declared.fault.FileFault.{FileFault}
use Rattle.jobs.specs.Faults.{in_section, widened}
use Rattle.jobs.specs.Heads.{and_then, Heading, file_heading}
use Rattle.run.specs.Reports.{is_between}
use Rattle.jobs.specs.declared.section.Section.{Section}
use Rattle.jobs.specs.Programs.{cut, nowhere, programs_after}
use Rattle.judge.specs.Traces.{Progress, finished, trace_judged, Follows}
use Rattle.judge.specs.Verdicts.{run_made, with_trace, read_as, read_in, judged}
use Rattle.judge.specs.Reports.{accepted_text, told}

-- the verdict of a run that is made and judged
module _ (t : Tried Run) (judge : Run → Result Progress (LineRefusal Fault)) (s : ℕ) where
  abbrev verdict : Result Progress (Refusal Fault)
  verdict = and_then (run_made t) (λ r. in_section (λ f. f) s (judge r))

  pub not_made : (e : StepFault) → refused e ≡ t → Err (record { fault = Step e; section = 0; line = 1 }) ≡ told verdict
  not_made e is = ap (λ q. told (and_then (run_made q) (λ r. in_section (λ f. f) s (judge r)))) is

  module _ (first last run : Run) (is : went first ≡ t) where
    pub trace_refused : (e : LineRefusal Fault) → Follows (judge first) last (Err e) run → Err (record { fault = e.fault; section = s; line = e.line }) ≡ told verdict
    trace_refused e h = go (judge first) h ∙ ap (λ q. told (and_then (run_made q) (λ r. in_section (λ f. f) s (judge r)))) is
      where
        go : (o : Result Progress (LineRefusal Fault)) → Follows o last (Err e) run → Err (record { fault = e.fault; section = s; line = e.line }) ≡ told (in_section (λ f. f) s o)
        go (Ok p) h = absurd (err_ok h.0)
        go (Err f) h = ap (λ g. Err (record { fault = g.fault; section = s; line = g.line })) (err_same h.0)

    pub trace_accepted : (k : ℕ) → Follows (judge first) last (Ok k) run → Ok (accepted_text (record { count = k; run = run })) ≡ told verdict
    trace_accepted k h = go (judge first) h ∙ ap (λ q. told (and_then (run_made q) (λ r. in_section (λ f. f) s (judge r)))) is
      where
        go : (o : Result Progress (LineRefusal Fault)) → Follows o last (Ok k) run → Ok (accepted_text (record { count = k; run = run })) ≡ told (in_section (λ f. f) s o)
        go (Ok p) h = λ i. Ok (accepted_text (record { count = ok_same h.0 i; run = h.1 i }))
        go (Err f) h = absurd (err_ok (sym h.0))

-- a trace that was accepted was followed to its end
pub was_followed : (o : Result Progress (LineRefusal Fault)) (k : ℕ) (last run : Run) → Follows (and_then o finished) last (Ok k) run → (s : Progress) × (o ≡ Ok s) × (run ≡ s.run)
was_followed (Err e) k last run h = absurd (err_ok (sym h.0))
was_followed (Ok s) k last run h =
    (s, refl, cond_both (is_between s.run.phase) (Ok s) (Err (record { fault = Unfinished; line = s.count })) (λ o. Follows o last (Ok k) run → run ≡ s.run) (λ _ g. g.1) (λ _ g. absurd (err_ok (sym g.0))) h)

pub cut_within : (file : List ℕ) (s : Section) → length (cut file s) ≤ length file
cut_within file s =
    let a = length-take s.length (drop s.offset file) in
    let b = length-drop s.offset file in
    omega (arith, min-le_right s.length (length (drop s.offset file)))

-- only the first n threads count
made_first : (bs bs' : List Behaviour) (n l capacity : ℕ) → take n (map fresh bs) ≡ take n (map fresh bs') → made bs n l capacity ≡ made bs' n l capacity
made_first bs bs' n l capacity e =
    ap (λ ts. cond ((ltb 0 n && leb n 4) && (ltb 0 l && leb l 8))
    (cond (leb l capacity) (went (record { locations = l; threads = ts; memory = initials l; capacity = capacity; sc = zero_view; log = []; phase = between })) (refused (Store Full)))
    (refused Range)) e

first_threads : {I : Type 0} (start : List I → Behaviour) (n : ℕ) (ps : List (Program I)) → take n (map fresh (map start (map program_lines ps))) ≡ take n (map fresh (map start (map program_lines (take n ps))))
first_threads start n ps =
    let inner : map start (map program_lines (take n ps)) ≡ take n (map start (map program_lines ps)) = ap (map start) (sym (take-map program_lines n ps)) ∙ sym (take-map start n (map program_lines ps)) in
    let outer : map fresh (map start (map program_lines (take n ps))) ≡ take n (map fresh (map start (map program_lines ps))) = ap (map fresh) inner ∙ sym (take-map fresh n (map start (map program_lines ps))) in
    sym (ap (take n) outer ∙ take-take n n (map fresh (map start (map program_lines ps))) (omega arith))

-- a run of the programs that were read
pub programs_told : {I : Type 0} (reads : List ℕ → Result (I × List ℕ) LineFault) (start : List I → Behaviour) (capacity : ℕ) (file : List ℕ) (n l : ℕ) (ss : List Section) (ps : List (Program I)) (bs : List Behaviour)
    → Ok (map program_lines (take n ps)) ≡ programs_after reads file 1 [] (take n ss) → bs ≡ map start (map program_lines ps)
    → told (with_trace capacity file n l ss bs) ≡ told (read_as reads start capacity file n l ss)
programs_told reads start capacity file n l ss ps bs read is =
    ap (λ t. told (and_then (run_made t) (λ q. in_section (λ f. f) (n + 1) (trace_judged n l q (cut file (get_or ss n nowhere)))))) (ap (λ b. made b n l capacity) is ∙ made_first (map start (map program_lines ps)) (map start (map program_lines (take n ps))) n l capacity (first_threads start n ps))
    ∙ ap (λ o. told (and_then (widened File o) (λ qs. with_trace capacity file n l ss (map start qs)))) read

-- programs that were not read
pub programs_not_told : {I : Type 0} (reads : List ℕ → Result (I × List ℕ) LineFault) (start : List I → Behaviour) (capacity : ℕ) (file : List ℕ) (n l : ℕ) (ss : List Section) (e : Refusal FileFault)
    → Err e ≡ programs_after reads file 1 [] (take n ss) → Err (record { fault = File e.fault; section = e.section; line = e.line }) ≡ told (read_as reads start capacity file n l ss)
programs_not_told reads start capacity file n l ss e read = ap (λ o. told (and_then (widened File o) (λ qs. with_trace capacity file n l ss (map start qs)))) read

-- a file with this head
head_told : (capacity : ℕ) (file : List ℕ) (h : Heading) → Ok h ≡ file_heading file → read_in h.job.language capacity file h.job.threads h.job.locations h.sections ≡ judged capacity file
head_told capacity file h e = ap (λ o. and_then (widened File o) (λ g. read_in g.job.language capacity file g.job.threads g.job.locations g.sections)) e

-- and one whose head was refused
pub no_head_told : (capacity : ℕ) (file : List ℕ) (e : Refusal FileFault) → Err e ≡ file_heading file → Err (record { fault = File e.fault; section = e.section; line = e.line }) ≡ told (judged capacity file)
no_head_told capacity file e is = ap (λ o. told (and_then (widened File o) (λ g. read_in g.job.language capacity file g.job.threads g.job.locations g.sections))) is

-- in one language
module _ (capacity : ℕ) (file : List ℕ) (h : Heading) (e : Ok h ≡ file_heading file) {I : Type 0} (reads : List ℕ → Result (I × List ℕ) LineFault) (start : List I → Behaviour)
    (chosen : read_in h.job.language capacity file h.job.threads h.job.locations h.sections ≡ read_as reads start capacity file h.job.threads h.job.locations h.sections) where
  pub read_told : told (read_as reads start capacity file h.job.threads h.job.locations h.sections) ≡ told (judged capacity file)
  read_told = ap told (sym chosen ∙ head_told capacity file h e)
