-- A trace that is followed to its end is the spelling of lines, each accepted on the run that the ones before it led to.
-- One that is refused begins with such lines, and the next is refused.
use Rattle.std.proofs.Common.{◌≡◌, ℕ, zero, suc, ◌+◌, ◌<◌, ◌≤◌, List, [], ◌∷◌, ◌++◌, length, get_or, Ok, Err, Result, sym, refl, ap, ◌∙◌, subst, inl, inr, zero-add, arith}
use Rattle.std.specs.Prelude.{◌≢◌}
use Rattle.std.specs.List.{AllByRecursion}
use Rattle.lines.specs.declared.reader.LineFault.{LineFault}
use Rattle.lines.specs.declared.refusal.LineRefusal.{LineRefusal}
use Rattle.lines.specs.declared.trace.Line.{Line}
use Rattle.lines.specs.Families.{reads, spells, all_spelled}
use Rattle.lines.specs.LineLaws.{NoLine}
use Rattle.lines.specs.TraceLines.{trace_lines, TraceFits}
use Rattle.lines.proofs.Options.{err_ok, err_same, ok_same}
use Rattle.lines.proofs.Familiar.{is_spelled, is_read}
use Rattle.lines.proofs.Sections.{Chain, Takes, walked_lines, lines_walked, walked_stopped, stopped_walked}
use Rattle.lines.proofs.Unread.{no_line, line_refused}
use Rattle.lines.specs.TraceCodec.{trace_codec}
use Rattle.languages.specs.Behaviours.{Behaviour}
use Rattle.stores.specs.declared.message.Message.{Message}
use Rattle.stores.specs.Memory.{zero_message}
use Rattle.stores.specs.StoreLaws.{In}
use Rattle.rules.specs.Models.{Run}
use Rattle.rules.specs.declared.fault.StepFault.{StepFault}
use Rattle.rules.specs.Rules.{Tried, went, refused, line_result, made, settled, played}
use Rattle.rules.specs.Histories.{Event, no_turn, Move, Given, Did}
use Rattle.rules.specs.Reasons.{FirstReason, Refusals}
use Rattle.rules.specs.Laws.{IsIn, Lawful}
use Rattle.rules.proofs.Led.{Accepted, given_computed}
use Rattle.rules.proofs.Lawfulness.{made_sound, lawful}
use Rattle.jobs.specs.declared.fault.FileFault.TheVariants.{Line as LineOf}
use Rattle.judge.specs.declared.fault.Fault.{Fault}
use Rattle.judge.specs.declared.fault.Fault.TheVariants.{File, Step}
use Rattle.judge.specs.Printable.{Printable}
use Rattle.judge.specs.Traces.{Progress, step_taken, line_taken, counted, followed}

pub accepted_played : (r : Run) (lines : List Line) (r' : Run) → Accepted r lines r' → r' ≡ played r lines
accepted_played r [] r' e = sym e
accepted_played r (line ∷ lines) r' c = accepted_played c.0 lines r' c.2 ∙ ap (λ t. played (settled r t) lines) (sym c.1)

-- one line more of a trace

abbrev pub OneMore : Progress → Line → Progress → Type 0
OneMore s line t = (line_result line s.run ≡ went t.run) × (t.count ≡ s.count + 1)

pub trace_takes : Takes (λ (s : Progress) o. counted s.count (line_taken s.run o)) OneMore
trace_takes =
    record {
      never = λ s f t rest e. err_ok e;
      only = λ s line before t rest e. took s line before t rest (line_result line s.run) refl e;
      every = λ s line t rest h. ap (λ x. counted s.count (step_taken rest x)) h.0 ∙ (λ i. Ok (record { count = sym h.1 i; run = t.run }, rest));
    }
  where
    took : (s : Progress) (line : Line) (before : List ℕ) (t : Progress) (rest : List ℕ) (x : Tried Run) → line_result line s.run ≡ x → counted s.count (step_taken before x) ≡ Ok (t, rest) → OneMore s line t × (before ≡ rest)
    took s line before t rest (went r) is e = let p = ok_same e in ((is ∙ ap (λ q. went q.0.run) p, sym (ap (λ q. q.0.count) p)), ap (λ q. q.1) p)
    took s line before t rest (refused f) is e = absurd (err_ok e)

count_on : (s : Progress) (lines : List Line) (t : Progress) → Chain OneMore s lines t → Accepted s.run lines t.run × (t.count ≡ s.count + length lines)
count_on s [] t e = let same : s.count ≡ t.count = ap (λ (p : Progress). p.count) e in (ap (λ (p : Progress). p.run) e, omega arith)
count_on s (line ∷ lines) t c =
    let r = count_on c.0 lines t c.2 in
    let one = c.1.1 in
    let more = r.1 in
    ((c.0.run, c.1.0, r.0), omega arith)

count_back : (s : Progress) (lines : List Line) (t : Progress) → Accepted s.run lines t.run → t.count ≡ s.count + length lines → Chain OneMore s lines t
count_back s [] t c e = let same : s.count ≡ t.count = omega arith in λ i. record { count = same i; run = c i }
count_back s (line ∷ lines) t c e =
    let u : Progress = record { count = s.count + 1; run = c.0 } in
    (u, (c.1, refl), count_back u lines t c.2 (omega arith))

counted_err : (k : ℕ) (o : Result (Run × List ℕ) Fault) (f : Fault) → counted k o ≡ Err f → o ≡ Err f
counted_err k (Err g) f e = ap Err (err_same e)
counted_err k (Ok p) f e = absurd (err_ok (sym e))

-- the trace is the spelling of these lines
pub record Followed (n l : ℕ) (r : Run) (bs : List ℕ) (s : Progress) : Type 0 where
  pub lines : List Line
  pub spelled : bs ≡ all_spelled (trace_lines n l) lines
  pub fit : AllByRecursion (TraceFits n l) lines
  pub accepted : Accepted r lines s.run
  pub count : s.count ≡ length lines

-- the trace begins with these lines, and the next is refused
pub record Halted (n l : ℕ) (r : Run) (bs : List ℕ) (e : LineRefusal Fault) : Type 0 where
  pub lines : List Line
  pub last : Run
  pub rest : List ℕ
  pub spelled : bs ≡ all_spelled (trace_lines n l) lines ++ rest
  pub fit : AllByRecursion (TraceFits n l) lines
  pub accepted : Accepted r lines last
  pub left : rest ≢ []
  pub fault : line_taken last (reads (trace_lines n l) rest) ≡ Err e.fault
  pub number : e.line ≡ length lines + 1

-- why the line in front is refused: it cannot be read, or the run refuses it
pub data Wrong (n l : ℕ) (r : Run) (rest : List ℕ) : Fault → Type 0 where
  unread : {f : LineFault} → NoLine (trace_lines n l) (TraceFits n l) rest f → Wrong n l r rest (File (LineOf f))
  unaccepted : (line : Line) (after : List ℕ) (e : StepFault) → rest ≡ spells (trace_lines n l) line ++ after → TraceFits n l line → FirstReason r line e → Wrong n l r rest (Step e)

module _ (n l : ℕ) (few : n ≤ 4) (small : l ≤ 8) where
  pub followed_lines : (r : Run) (bs : List ℕ) (s : Progress) → followed n l r bs ≡ Ok s → Followed n l r bs s
  followed_lines r bs s e =
      let b = walked_lines trace_takes (trace_lines n l) (trace_codec n l few small) (record { count = 0; run = r }) bs s e in
      let c = count_on (record { count = 0; run = r }) b.lines s b.chain in
      record { lines = b.lines; spelled = b.spelled; fit = b.fit; accepted = c.0; count = c.1 ∙ zero-add (length b.lines) }

  pub lines_followed : (r : Run) (bs : List ℕ) (s : Progress) → Followed n l r bs s → followed n l r bs ≡ Ok s
  lines_followed r bs s f =
      lines_walked trace_takes (trace_lines n l) (trace_codec n l few small) (record { count = 0; run = r }) bs s
      (record { lines = f.lines; spelled = f.spelled; fit = f.fit; chain = count_back (record { count = 0; run = r }) f.lines s f.accepted (f.count ∙ sym (zero-add (length f.lines))) })

  pub followed_halted : (r : Run) (bs : List ℕ) (e : LineRefusal Fault) → followed n l r bs ≡ Err e → Halted n l r bs e
  followed_halted r bs e h =
      let b = walked_stopped trace_takes (trace_lines n l) (trace_codec n l few small) (record { count = 0; run = r }) bs e h in
      let c = count_on (record { count = 0; run = r }) b.lines b.t b.chain in
      record {
        lines = b.lines;
        last = b.t.run;
        rest = b.rest;
        spelled = b.spelled;
        fit = b.fit;
        accepted = c.0;
        left = b.left;
        fault = counted_err b.t.count (line_taken b.t.run (reads (trace_lines n l) b.rest)) e.fault b.fault;
        number = b.number;
      }

  pub halted_followed : (r : Run) (bs : List ℕ) (e : LineRefusal Fault) → Halted n l r bs e → followed n l r bs ≡ Err e
  halted_followed r bs e h =
      let t : Progress = record { count = length h.lines; run = h.last } in
      stopped_walked trace_takes (trace_lines n l) (trace_codec n l few small) (record { count = 0; run = r }) bs e (record {
        lines = h.lines;
        t = t;
        rest = h.rest;
        spelled = h.spelled;
        fit = h.fit;
        chain = count_back (record { count = 0; run = r }) h.lines t h.accepted (sym (zero-add (length h.lines)));
        left = h.left;
        fault = ap (counted (length h.lines)) h.fault;
        number = h.number;
      })

  -- of a run that refuses each line for its first reason
  module _ (r : Run) (law : Refusals r) (rest : List ℕ) (f : Fault) where
    by_step : (line : Line) (after : List ℕ) → rest ≡ spells (trace_lines n l) line ++ after → TraceFits n l line → (t : Tried Run) → line_result line r ≡ t → step_taken after t ≡ Err f → Wrong n l r rest f
    by_step line after sp fits (went q) is e = absurd (err_ok (sym e))
    by_step line after sp fits (refused g) is e = subst (Wrong n l r rest) (err_same e) (unaccepted line after g sp fits ((law line g).0 is))

    by_read : (o : Result (Line × List ℕ) LineFault) → reads (trace_lines n l) rest ≡ o → line_taken r o ≡ Err f → Wrong n l r rest f
    by_read (Err g) is e = subst (Wrong n l r rest) (err_same e) (unread (no_line (trace_lines n l) (trace_codec n l few small) rest g is))
    by_read (Ok p) is e =
        let s = is_spelled (trace_lines n l) (trace_codec n l few small) rest p.0 p.1 is in
        by_step p.0 p.1 s.0 s.1 (line_result p.0 r) refl e

    pub taken_wrong : line_taken r (reads (trace_lines n l) rest) ≡ Err f → Wrong n l r rest f
    taken_wrong e = by_read (reads (trace_lines n l) rest) refl e

  pub wrong_taken : (r : Run) → Refusals r → (rest : List ℕ) (f : Fault) → Wrong n l r rest f → line_taken r (reads (trace_lines n l) rest) ≡ Err f
  wrong_taken r law rest f (unread {f = g} h) = ap (line_taken r) (line_refused (trace_lines n l) (trace_codec n l few small) rest g h)
  wrong_taken r law rest f (unaccepted line after e sp fits first) =
      ap (line_taken r) (is_read (trace_lines n l) (trace_codec n l few small) rest line after fits sp) ∙ ap (step_taken after) ((law line e).1 first)

-- the law of a run that lines led to, with a history of theirs
pub record After (l : ℕ) (first : Run) (lines : List Line) (r : Run) : Type 0 where
  pub moves : List Move
  pub events : List Event
  pub given : Given first lines moves r
  pub did : Did no_turn moves events
  pub law : Lawful l r moves events

pub law_after : (threads : List Behaviour) (n l capacity : ℕ) → capacity ≤ 64 → (first : Run) → made threads n l capacity ≡ went first → (lines : List Line) (r : Run) → Accepted first lines r → After l first lines r
law_after threads n l capacity small first start lines r c =
    let w = lawful threads n l capacity small first start lines in
    let h = w.0 in
    let same : h.run ≡ r = w.2 ∙ sym (accepted_played first lines r c) in
    record {
      moves = h.moves;
      events = h.events;
      given = subst (λ (q : Run). Given first lines h.moves q) same h.given;
      did = h.did;
      law = subst (λ (q : Run). Lawful l q h.moves h.events) same w.1;
    }

-- where each message is at a location below n, so is each arrival
places_at : (n : ℕ) (ms : List Message) (k : ℕ) → 0 < n → ((m : Message) → In m ms → m.location < n) → (get_or ms k zero_message).location < n
places_at n [] k some h = some
places_at n (m ∷ ms) zero some h = h m (inl refl)
places_at n (m ∷ ms) (suc k) some h = places_at n ms k some (λ j i. h j (inr i))

-- where each print is of a thread below n, so is each place of the log
printers_at : (n : ℕ) (ps : List (ℕ × ℕ)) (k : ℕ) → 0 < n → ((p : ℕ × ℕ) → IsIn p ps → p.0 < n) → (get_or ps k (0, 0)).0 < n
printers_at n [] k some h = some
printers_at n (p ∷ ps) zero some h = h p (inl refl)
printers_at n (p ∷ ps) (suc k) some h = printers_at n ps k some (λ q i. h q (inr i))

-- a run that was followed from one that was made can be printed
pub followed_printable : (threads : List Behaviour) (n l capacity : ℕ) → capacity ≤ 64 → n ≤ 4 → l ≤ 8 → (first : Run) → made threads n l capacity ≡ went first → (bs : List ℕ) (s : Progress) → followed n l first bs ≡ Ok s → length s.run.threads ≤ 4 → Printable s.run
followed_printable threads n l capacity small few low first start bs s e four =
    let f = followed_lines n l few low first bs s e in
    let law = (law_after threads n l capacity small first start f.lines s.run f.accepted).law in
    record {
      places = λ k. places_at 8 s.run.memory k (omega arith) (λ m i. let h = law.places m i in omega arith);
      printers = λ k. printers_at 4 s.run.log k (omega arith) (λ p i. let h = law.printers p i in omega arith);
    }
