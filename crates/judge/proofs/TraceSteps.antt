-- What one turn of the trace's loop keeps.
use Rattle.std.proofs.Common.{◌≡◌, ℕ, zero, suc, ◌+◌, ◌<◌, ◌≤◌, true, false, List, [], ◌∷◌, length, Ok, Err, Result, sym, refl, ap, ◌∙◌, subst}
use Rattle.lines.specs.declared.reader.LineFault.{LineFault}
use Rattle.lines.specs.declared.trace.Line as trace
use Rattle.lines.specs.Families.{reads}
use Rattle.lines.specs.Reading.{unread}
use Rattle.lines.specs.TraceLines.{trace_lines}
use Rattle.lines.proofs.Options.{err_ok, err_same, ok_same}
use Rattle.lines.proofs.Sections.{step_shorter}
use Rattle.lines.specs.TraceCodec.{trace_codec}
use Rattle.lines.proofs.Walked.{walk_stop, walk_more, reached_stop, reached_more}
use Rattle.lines.specs.declared.refusal.LineRefusal.{LineRefusal}
use Rattle.lines.specs.Walks.{walk, goes_on, stays_or, reach, reached}
use Rattle.rules.specs.declared.fault.StepFault.{StepFault}
use Rattle.rules.specs.Models.{Run}
use Rattle.rules.specs.Rules.{Tried, went, refused, Agrees, line_result}
use Rattle.judge.specs.declared.fault.Fault.{Fault}
use Rattle.jobs.specs.declared.fault.FileFault.TheVariants.{Line}
use Rattle.judge.specs.declared.fault.Fault.TheVariants.{File, Step, Unfinished}
use Rattle.judge.specs.Traces.{Progress, step_taken, line_taken, counted, one_line, followed, run_left, finished, Took, Follows}
use Rattle.jobs.specs.Heads.{and_then}
use Rattle.judge.proofs.Traced.{trace_takes}
use Rattle.run.specs.Reports.{is_between}
use Rattle.std.proofs.lemmas.Bool.{cond-true, cond-false}

-- a line that is not read, one that the run refuses, and one that it accepts
pub not_read : (o : Result (trace.Line × List ℕ) LineFault) (f : LineFault) (r : Run) (x : Result (Unit {0}) Fault) → o ≡ Err f → x ≡ Err (File (Line f)) → Took r (line_taken r o) x r
not_read o f r x e is = subst (λ p. Took r (line_taken r p) x r) (sym e) (is, refl)

module _ (o : Result (trace.Line × List ℕ) LineFault) (line : trace.Line) (rest : List ℕ) (r : Run) (was : o ≡ Ok (line, rest)) where
  pub not_accepted : (a : Result (Unit {0}) StepFault) (run : Run) (x : Result (Unit {0}) Fault) (f : StepFault) → Agrees (line_result line r) r a run → a ≡ Err f → x ≡ Err (Step f) → Took r (line_taken r o) x run
  not_accepted a run x f h e is = subst (λ p. Took r (line_taken r p) x run) (sym was) (go (line_result line r) h)
    where
      go : (t : Tried Run) → Agrees t r a run → Took r (step_taken rest t) x run
      go (went z) (k, _) = absurd (err_ok (sym e ∙ k))
      go (refused g) (k, stays) = let same : f ≡ g = cc in (is ∙ ap (λ y. Err (Step y)) same, stays)

  pub accepted : (a : Result (Unit {0}) StepFault) (run : Run) → Agrees (line_result line r) r a run → a ≡ Ok tt → Took r (line_taken r o) (Ok tt) run
  accepted a run h e = subst (λ p. Took r (line_taken r p) (Ok tt) run) (sym was) (go (line_result line r) h)
    where
      go : (t : Tried Run) → Agrees t r a run → Took r (step_taken rest t) (Ok tt) run
      go (went z) (k, same) = (refl, same)
      go (refused g) (k, _) = absurd (err_ok (sym k ∙ e))

-- what was taken, by what the code answers and leaves
took : (o : Result (trace.Line × List ℕ) LineFault) (r r' : Run) (bs rest : List ℕ) → Took r (line_taken r o) (Ok tt) r' → rest ≡ unread o bs → line_taken r o ≡ Ok (r', rest)
took (Err f) r r' bs rest h left = absurd (err_ok (sym h.0))
took (Ok p) r r' bs rest h left = go (line_result p.0 r) h
  where
    go : (t : Tried Run) → Took r (step_taken p.1 t) (Ok tt) r' → step_taken p.1 t ≡ Ok (r', rest)
    go (went z) h = λ i. Ok (sym h.1 i, sym left i)
    go (refused e) h = absurd (err_ok (sym h.0))

took_nothing : (o : Result (Run × List ℕ) Fault) (r run : Run) (f : Fault) → Took r o (Err f) run → (o ≡ Err f) × (run ≡ r)
took_nothing (Ok p) r run f h = absurd (err_ok h.0)
took_nothing (Err g) r run f h = (ap Err (sym (err_same h.0)), h.1)

module _ (n l : ℕ) (few : n ≤ 4) (small : l ≤ 8) where
  pub line_shorter : (s t : Progress) (bs rest : List ℕ) → one_line n l s bs ≡ Ok (t, rest) → length rest < length bs
  line_shorter = step_shorter trace_takes (trace_lines n l) (trace_codec n l few small)

  -- the trace's loop, from what it took so far, and the run that it leaves
  abbrev pub to_go : Progress → List ℕ → Result Progress (LineRefusal Fault)
  to_go s bs = walk (one_line n l) (length bs) s (s.count + 1) bs

  abbrev pub to_reach : Progress → List ℕ → Progress
  to_reach s bs = reached (one_line n l) s bs

  -- one turn of the loop
  pub record Turns (k : ℕ) (r r' : Run) (bs rest : List ℕ) : Type 0 where
    pub go : to_go (record { count = k; run = r }) bs ≡ to_go (record { count = k + 1; run = r' }) rest
    pub reach : to_reach (record { count = k; run = r }) bs ≡ to_reach (record { count = k + 1; run = r' }) rest
    pub less : length rest < length bs

  pub one_more : (k : ℕ) (r r' : Run) (bs rest : List ℕ) → 0 < length bs → Took r (line_taken r (reads (trace_lines n l) bs)) (Ok tt) r' → rest ≡ unread (reads (trace_lines n l) bs) bs → Turns k r r' bs rest
  one_more k r r' bs rest some h left =
      let s : Progress = record { count = k; run = r } in
      let t : Progress = record { count = k + 1; run = r' } in
      let is : one_line n l s bs ≡ Ok (t, rest) = ap (counted k) (took (reads (trace_lines n l) bs) r r' bs rest h left) in
      record {
        go = walk_more (one_line n l) line_shorter s t (k + 1) bs rest some is;
        reach = reached_more (one_line n l) line_shorter s t bs rest some is;
        less = line_shorter s t bs rest is;
      }

  -- the loop's end at a line that is refused
  pub record Stops (k : ℕ) (r run : Run) (bs : List ℕ) (f : Fault) : Type 0 where
    pub go : to_go (record { count = k; run = r }) bs ≡ Err (record { fault = f; line = k + 1 })
    pub reach : run ≡ (to_reach (record { count = k; run = r }) bs).run

  pub no_more : (k : ℕ) (r run : Run) (bs : List ℕ) (f : Fault) → 0 < length bs → Took r (line_taken r (reads (trace_lines n l) bs)) (Err f) run → Stops k r run bs f
  no_more k r run bs f some h =
      let s : Progress = record { count = k; run = r } in
      let t = took_nothing (line_taken r (reads (trace_lines n l) bs)) r run f h in
      let is : one_line n l s bs ≡ Err f = ap (counted k) t.0 in
      record {
        go = walk_stop (one_line n l) line_shorter s (k + 1) bs f some is;
        reach = t.1 ∙ sym (ap (λ (p : Progress). p.run) (reached_stop (one_line n l) line_shorter s bs f is));
      }

-- a walk to the end reaches what it answers
module _ {S F : Type 0} (step : S → List ℕ → Result (S × List ℕ) F) where
  went_to : (o : Result (S × List ℕ) F) (s : S) (n : ℕ) (on : S → List ℕ → Result S (LineRefusal F)) (to : S → List ℕ → S) (t : S)
      → ((u : S) (rest : List ℕ) → on u rest ≡ Ok t → to u rest ≡ t) → goes_on o n on ≡ Ok t → stays_or s o to ≡ t
  went_to (Err f) s n on to t h e = absurd (err_ok e)
  went_to (Ok p) s n on to t h e = h p.0 p.1 e

  walk_reach : (most : ℕ) (s : S) (n : ℕ) (bs : List ℕ) (t : S) → walk step most s n bs ≡ Ok t → reach step most s bs ≡ t
  walk_reach most s n [] t e = ok_same e
  walk_reach zero s n (b ∷ bs) t e = ok_same e
  walk_reach (suc most) s n (b ∷ bs) t e = went_to (step s (b ∷ bs)) s n _ _ t (λ u rest. walk_reach most u (n + 1) rest t) e

pub followed_reach : (n l : ℕ) (r : Run) (bs : List ℕ) (s : Progress) → followed n l r bs ≡ Ok s → s.run ≡ run_left n l r bs
followed_reach n l r bs s e = sym (ap (λ (p : Progress). p.run) (walk_reach (one_line n l) (length bs) (record { count = 0; run = r }) 1 bs s e))

-- a whole trace: one that stops, one that ends in a turn or a showing, and one that ends between turns
module _ (o : Result Progress (LineRefusal Fault)) (last run : Run) where
  pub stops : (e : LineRefusal Fault) (x : Result ℕ (LineRefusal Fault)) → Follows o last (Err e) run → x ≡ Err e → Follows (and_then o finished) last x run
  stops e x h is = go o h
    where
      go : (o : Result Progress (LineRefusal Fault)) → Follows o last (Err e) run → Follows (and_then o finished) last x run
      go (Ok s) h = absurd (err_ok h.0)
      go (Err f) h = (is ∙ h.0, h.1)

  module _ (k : ℕ) (h : Follows o last (Ok k) run) where
    pub unfinished : ((s : Progress) → o ≡ Ok s → s.run ≡ last) → is_between run.phase ≡ false → Follows (and_then o finished) last (Err (record { fault = Unfinished; line = k })) run
    unfinished reach b = go o h reach
      where
        go : (o : Result Progress (LineRefusal Fault)) → Follows o last (Ok k) run → ((s : Progress) → o ≡ Ok s → s.run ≡ last) → Follows (and_then o finished) last (Err (record { fault = Unfinished; line = k })) run
        go (Ok s) h reach =
            let no : is_between s.run.phase ≡ false = ap (λ (r : Run). is_between r.phase) (sym h.1) ∙ b in
            let same : finished s ≡ Err (record { fault = Unfinished; line = k }) = cond-false _ _ _ no ∙ ap (λ n. Err (record { fault = Unfinished; line = n })) (sym (ok_same h.0)) in
            subst (λ p. Follows p last (Err (record { fault = Unfinished; line = k })) run) (sym same) (refl, h.1 ∙ reach s refl)
        go (Err f) h reach = absurd (err_ok (sym h.0))

    pub ends : is_between run.phase ≡ true → Follows (and_then o finished) last (Ok k) run
    ends b = go o h
      where
        go : (o : Result Progress (LineRefusal Fault)) → Follows o last (Ok k) run → Follows (and_then o finished) last (Ok k) run
        go (Ok s) h =
            let yes-is : is_between s.run.phase ≡ true = ap (λ (r : Run). is_between r.phase) (sym h.1) ∙ b in
            subst (λ p. Follows p last (Ok k) run) (sym (cond-true _ _ _ yes-is)) h
        go (Err f) h = absurd (err_ok (sym h.0))
