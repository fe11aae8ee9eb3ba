-- The report tells the verdict on the file, with its reasons.
use Rattle.std.proofs.Common.{◌≡◌, ℕ, ◌-◌, ◌≤◌, ◌⊎◌, List, ◌++◌, length, take, replicate, Ok, Err, Result, sym, refl, ap, ◌∙◌, subst, inl, inr, arith, le-ltb}
use Rattle.std.proofs.lemmas.List.{take_at}
use Rattle.std.proofs.lemmas.Bool.{cond-false}
use Rattle.lines.specs.declared.trace.Line.{Line}
use Rattle.rules.specs.Models.{Run}
use Rattle.rules.proofs.Led.{leads_accepted}
use Rattle.rules.proofs.Lawfulness.{made_sound}
use Rattle.judge.specs.declared.fault.Fault.{Fault}
use Rattle.lines.proofs.Options.{err_ok, err_same}
use Rattle.jobs.specs.declared.fault.Refusal.{Refusal}
use Rattle.jobs.specs.Texts.{least_report}
use Rattle.judge.specs.Traces.{Progress}
use Rattle.judge.specs.Verdicts.{judged}
use Rattle.judge.specs.Reports.{accepted_text, told, report_text, report_on, answered, left_in}
use Rattle.judge.specs.JobLaws.{IsRun, LawfulRun, Refuses, refusal_line, StartsWithOk, StartsWithNo, Reported, Judges}
use Rattle.judge.proofs.Judged.{is_run, run_is}
use Rattle.judge.proofs.Refused.{is_refused, refused_is}
use Rattle.judge.proofs.Traced.{law_after}

either : (o : Result Progress (Refusal Fault)) → StartsWithOk (report_text o) ⊎ StartsWithNo (report_text o)
either (Ok p) = inl (_, refl)
either (Err f) = inr (_, refl)

module _ (file : List ℕ) where
  by_run : (o : Result Progress (Refusal Fault)) → judged 64 file ≡ o → StartsWithOk (report_text o) → (trace : List Line) × (r : Run) × IsRun file trace r × (report_text o ≡ accepted_text (record { count = length trace; run = r }))
  by_run (Ok p) e ok = let w = is_run file p e in (w.0, w.1, w.2, ap accepted_text w.3)
  by_run (Err f) e ok = let z : ◌≡◌ {A = ℕ} 78 79 = cc ok.1 in absurd (omega arith)

  by_refusal : (o : Result Progress (Refusal Fault)) → judged 64 file ≡ o → StartsWithNo (report_text o)
      → (fault : Fault) × (section : ℕ) × (line : ℕ) × Refuses file fault section line × (report_text o ≡ refusal_line fault section line)
  by_refusal (Ok p) e not = let z : ◌≡◌ {A = ℕ} 79 78 = cc not.1 in absurd (omega arith)
  by_refusal (Err f) e not = (f.fault, f.section, f.line, is_refused file f e, refl)

  by_law : (trace : List Line) (r : Run) (w : IsRun file trace r) → LawfulRun file trace r w
  by_law trace r w =
      let n = w.heading.job.threads in
      let l = w.heading.job.locations in
      let g = w.reaches in
      let accepted = leads_accepted (made_sound g.threads n l 64 (omega arith) g.first g.start) g.led in
      let a = law_after g.threads n l 64 (omega arith) g.first g.start trace r accepted in
      (a.moves, a.events, a.given, a.did, a.law)

pub reported : (file : List ℕ) → Reported file (report_on file)
reported file =
    record {
      verdict = either (judged 64 file);
      only_runs = λ ok. by_run file (judged 64 file) refl ok;
      every_run = λ trace r w. ap report_text (run_is file trace r w);
      lawful = by_law file;
      only_refusals = λ not. by_refusal file (judged 64 file) refl not;
      every_refusal = λ fault section line w. ap report_text (refused_is file fault section line w);
    }

-- what a call answers and leaves is that report
pub call_reported : (file before : List ℕ) (r : ℕ) (after : List ℕ) → r ≡ answered 64 file (length before) → after ≡ left_in 64 file before → least_report ≤ length before → Reported file (take r after)
call_reported file before r after value is room =
    let text = report_on file in
    let long : r ≡ length text = value ∙ cond-false _ _ _ (le-ltb (length before) least_report room) in
    let whole : after ≡ text ++ replicate (length before - length text) 0 = is ∙ cond-false _ _ _ (le-ltb (length before) least_report room) in
    subst (Reported file) (sym (ap (take r) whole ∙ take_at text _ r (sym long))) (reported file)

refused_told : (o : Result Progress (Refusal Fault)) (e : Refusal Fault) → told o ≡ Err e → o ≡ Err e
refused_told (Ok p) e h = absurd (err_ok (sym h))
refused_told (Err f) e h = ap Err (err_same h)

-- and the verdict as a value says the same
pub judges : (file : List ℕ) (v : Result (List ℕ) (Refusal Fault)) → v ≡ told (judged 64 file) → Judges file v
judges file v is =
    subst (Judges file) (sym is)
    (record {
      reported = reported file;
      refuses = λ fault section line.
          (λ h. is_refused file _ (refused_told (judged 64 file) _ h), λ w. ap told (refused_is file fault section line w));
    })
