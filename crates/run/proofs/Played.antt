-- Lines one after another.
use Rattle.std.proofs.Common.{◌≡◌, ℕ, suc, ◌+◌, ◌<◌, ◌≤◌, cond, List, [], ◌∷◌, ◌++◌, length, get_or, take, Result, sym, refl, ap, ◌∙◌, subst, arith}
use Rattle.std.specs.Result.{is_ok}
use Rattle.std.proofs.lemmas.List.{take_more}
use Rattle.lines.specs.declared.trace.Line.{Line}
use Rattle.languages.specs.Behaviours.{Behaviour}
use Rattle.rules.specs.declared.fault.StepFault.{StepFault}
use Rattle.rules.specs.Models.{Run}
use Rattle.rules.specs.Rules.{Tried, went, refused, Agrees, line_result, made, settled, played, one_more, accepted_count}
use Rattle.rules.specs.Histories.{Given}
use Rattle.rules.specs.Laws.{Lawful}
use Rattle.rules.proofs.Lawfulness.{lawful}
use Rattle.run.specs.Plays.{Outcome, plays, Obeys}

settles : (t : Tried Run) (r : Run) (a : Result (Unit {0}) StepFault) (r' : Run) → Agrees t r a r' → r' ≡ settled r t
settles (went x) r a r' h = h.1
settles (refused e) r a r' h = h.1

played_append : (r : Run) (lines : List Line) (line : Line) → played r (lines ++ (line ∷ [])) ≡ settled (played r lines) (line_result line (played r lines))
played_append r [] line = refl
played_append r (x ∷ lines) line = played_append (settled r (line_result x r)) lines line

-- one line more
pub played_more : (first r r' : Run) (lines : List Line) (i : ℕ) (d : Line) (a : Result (Unit {0}) StepFault) → i < length lines
    → r ≡ played first (take i lines) → Agrees (line_result (get_or lines i d) r) r a r' → r' ≡ played first (take (i + 1) lines)
played_more first r r' lines i d a lt e h =
    let line = get_or lines i d in
    settles (line_result line r) r a r' h ∙ ap (λ (x : Run). settled x (line_result line x)) e ∙ sym (played_append first (take i lines) line)
    ∙ ap (played first) (sym (take_more lines i d lt))

one_more_comm : (t u : Tried Run) (n : ℕ) → one_more t (one_more u n) ≡ one_more u (one_more t n)
one_more_comm (went x) (went y) n = refl
one_more_comm (went x) (refused f) n = refl
one_more_comm (refused e) u n = refl

count_append : (r : Run) (lines : List Line) (line : Line)
    → accepted_count r (lines ++ (line ∷ [])) ≡ one_more (line_result line (played r lines)) (accepted_count r lines)
count_append r [] line = refl
count_append r (x ∷ lines) line =
    let t = line_result x r in let s = settled r t in
    ap (one_more t) (count_append s lines line) ∙ one_more_comm t (line_result line (played s lines)) (accepted_count s lines)

counted : (t : Tried Run) (r : Run) (a : Result (Unit {0}) StepFault) (r' : Run) (n : ℕ) → Agrees t r a r' → cond (is_ok a) (n + 1) n ≡ one_more t n
counted (went x) r a r' n h = ap (λ b. cond (is_ok b) (n + 1) n) h.0
counted (refused e) r a r' n h = ap (λ b. cond (is_ok b) (n + 1) n) h.0

-- the count after it
pub count_more : (first r r' : Run) (lines : List Line) (i n : ℕ) (d : Line) (a : Result (Unit {0}) StepFault) → i < length lines
    → r ≡ played first (take i lines) → n ≡ accepted_count first (take i lines) → Agrees (line_result (get_or lines i d) r) r a r'
    → cond (is_ok a) (n + 1) n ≡ accepted_count first (take (i + 1) lines)
count_more first r r' lines i n d a lt e q h =
    let line = get_or lines i d in
    counted (line_result line r) r a r' n h ∙ ap (λ (x : Run). one_more (line_result line x) n) e
    ∙ ap (one_more (line_result line (played first (take i lines)))) q
    ∙ sym (count_append first (take i lines) line) ∙ ap (accepted_count first) (sym (take_more lines i d lt))

pub count_bound : (r : Run) (lines : List Line) → accepted_count r lines ≤ length lines
count_bound r [] = omega arith
count_bound r (line ∷ lines) = let t = line_result line r in let h = count_bound (settled r t) lines in more t (accepted_count (settled r t) lines) (length lines) h
  where
    more : (t : Tried Run) (n m : ℕ) → n ≤ m → one_more t n ≤ suc m
    more (went x) n m h = omega arith
    more (refused e) n m h = omega arith

-- the law of whatever was made
pub obeys : (bs : List Behaviour) (n l capacity : ℕ) (lines : List Line) (end : Tried Outcome) → capacity ≤ 64 → end ≡ plays (made bs n l capacity) lines
    → Obeys l (made bs n l capacity) lines end
obeys bs n l capacity lines end few e = subst (Obeys l (made bs n l capacity) lines) (sym e) (each (made bs n l capacity) refl)
  where
    each : (t : Tried Run) → made bs n l capacity ≡ t → Obeys l t lines (plays t lines)
    each (went first) m =
        let a = lawful bs n l capacity few first m lines in
        let h = a.0 in
        record {
          moves = h.moves;
          events = h.events;
          given = subst (Given first lines h.moves) a.2 h.given;
          did = h.did;
          many = sym a.3;
          lawful = subst (λ (r : Run). Lawful l r h.moves h.events) a.2 a.1;
        }
    each (refused f) m = refl
