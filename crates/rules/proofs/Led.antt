-- Runs that lines lead to: the invariant, and the run and the accepted lines as they are computed. Assumes nothing.
use Rattle.std.proofs.Common.{◌≡◌, ℕ, List, [], ◌∷◌, length, sym, refl, ap, ◌∙◌, subst, arith}
use Rattle.lines.specs.declared.trace.Line.{Line}
use Rattle.rules.specs.Models.{Phase, Run}
use Rattle.rules.specs.Rules.{Tried, went, refused, line_result, settled, played, one_more, accepted_count}
use Rattle.rules.specs.Steps.{Step, begins, acts, promises, shows, ends_turn, ends_showing, Leads, nowhere_yet, by_step}
use Rattle.rules.specs.Histories.{Place, shows_at, place_after, place_of, Move, Given, nothing_given, goes, stays, led_to}
use Rattle.rules.specs.Laws.{Agreement}
use Rattle.rules.proofs.Accepts.{When}
use Rattle.rules.proofs.Sound.{Sound, line_sound}
use Rattle.rules.proofs.Agrees.{sound_good, agreement, by_acting}

-- what holds of a run that a step leads to
sound_agrees : (r : Run) → Sound r → Agreement r
sound_agrees r s = agreement r (sound_good r s)

pub step_sound : {r : Run} {line : Line} {r' : Run} → Step r line r' → Sound r → Sound r'
step_sound {r = r} {line = line} {r' = r'} st s = subst (When Sound) ((sound_agrees r s line r').1 st) (line_sound line r s)

pub step_place : {r : Run} {line : Line} {r' : Run} → Step r line r' → place_of r'.phase ≡ place_after (place_of r.phase) line
step_place (begins i lt e) = refl
step_place {r = r} (acts i closing k S M act a marks room prints) =
    by_acting (λ line. place_of r.phase ≡ place_after (place_of r.phase) line) refl (λ t. refl) (λ s. refl) (λ s. refl) (λ t. refl) a
step_place (promises i x v s e lt less span free room) = refl
step_place (shows i e n) = sym (ap (λ (ph : Phase). shows_at (place_of ph)) e)
step_place (ends_turn i e n) = refl
step_place (ends_showing i s cl e n) = refl

-- lines that are all accepted

pub sound_leads : {first : Run} {lines : List Line} {r : Run} → Sound first → Leads first lines r → Sound r
sound_leads s nowhere_yet = s
sound_leads s (by_step st rest) = sound_leads (step_sound st s) rest

pub leads_given : {first : Run} {lines : List Line} {r : Run} → Leads first lines r → (ms : List Move) × Given first lines ms r × (length ms ≡ length lines)
leads_given nowhere_yet = ([], nothing_given, refl)
leads_given (by_step {r = r} {r₁ = r₁} {line = line} st rest) =
    let g = leads_given rest in let n = g.2 in
    (record { before = r; line = line; after = r₁ } ∷ g.0, goes st g.1, omega arith)

-- each line is accepted, and leads from the run before it to the one after it
abbrev pub Accepted : Run → List Line → Run → Type 0
Accepted r [] r' = r ≡ r'
Accepted r (line ∷ lines) r' = (r₁ : Run) × (line_result line r ≡ went r₁) × Accepted r₁ lines r'

pub accepted_leads : (r : Run) (lines : List Line) (r' : Run) → Sound r → Accepted r lines r' → Leads r lines r'
accepted_leads r [] r' s e = subst (Leads r []) e nowhere_yet
accepted_leads r (line ∷ lines) r' s a =
    let st = (sound_agrees r s line a.0).0 a.1 in
    by_step st (accepted_leads a.0 lines r' (step_sound st s) a.2)

pub leads_accepted : {r : Run} {lines : List Line} {r' : Run} → Sound r → Leads r lines r' → Accepted r lines r'
leads_accepted s nowhere_yet = refl
leads_accepted {r = r} s (by_step {r₁ = r₁} {line = line} st rest) = (r₁, (sound_agrees r s line r₁).1 st, leads_accepted (step_sound st s) rest)

-- lines that are given, accepted or not

pub given_sound : {first : Run} {lines : List Line} {ms : List Move} {r : Run} → Given first lines ms r → Sound first → Sound r
given_sound nothing_given s = s
given_sound (goes st g) s = given_sound g (step_sound st s)
given_sound (stays never g) s = given_sound g s

pub given_place : {first : Run} {lines : List Line} {ms : List Move} {r : Run} → Given first lines ms r → (a : Place) → place_of first.phase ≡ a
    → place_of r.phase ≡ led_to a ms
given_place nothing_given a e = e
given_place (goes {line = line} st g) a e = given_place g (place_after a line) (step_place st ∙ ap (λ (b : Place). place_after b line) e)
given_place (stays never g) a e = given_place g a e

abbrev HasMoves : Run → List Line → Type 0
HasMoves r lines = (r' : Run) × (ms : List Move) × Given r lines ms r'

-- each line is accepted or not
pub given_some : (lines : List Line) (first : Run) → Sound first → HasMoves first lines
given_some [] r s = (r, [], nothing_given)
given_some (line ∷ lines) r s = taken r s line lines (given_some lines) (line_result line r) refl
  where
    taken : (r : Run) → Sound r → (line : Line) (lines : List Line) → ((r₁ : Run) → Sound r₁ → HasMoves r₁ lines)
        → (t : Tried Run) → line_result line r ≡ t → HasMoves r (line ∷ lines)
    taken r s line lines rest (went r₁) e =
        let st = (sound_agrees r s line r₁).0 e in
        let g = rest r₁ (step_sound st s) in
        (g.0, record { before = r; line = line; after = r₁ } ∷ g.1, goes st g.2)
    taken r s line lines rest (refused f) e =
        let g = rest r s in
        (g.0, g.1, stays (λ r₁ st. let h = (sound_agrees r s line r₁).1 st in cc) g.2)

-- and they have no other history
pub given_one : {first r r' : Run} {lines : List Line} {ms ns : List Move} → Sound first → Given first lines ms r → Given first lines ns r'
    → (ns ≡ ms) × (r' ≡ r)
given_one s nothing_given nothing_given = (refl, refl)
given_one s (goes {r = q} {r₁ = r₁} {line = line} st g) (goes {r₁ = q₁} {r₂ = e} {lines = lines} {ms = ns} st' g') =
    let both : went r₁ ≡ went q₁ = sym ((sound_agrees q s line r₁).1 st) ∙ (sound_agrees q s line q₁).1 st' in
    let same : q₁ ≡ r₁ = cc in
    let h = given_one (step_sound st s) g (subst (λ (x : Run). Given x lines ns e) same g') in
    (λ j. record { before = q; line = line; after = same j } ∷ h.0 j, h.1)
given_one s (goes {r₁ = r₁} st g) (stays never g') = absurd (never r₁ st)
given_one s (stays never g) (goes {r₁ = r₁} st g') = absurd (never r₁ st)
given_one s (stays never g) (stays never' g') = given_one s g g'

abbrev Computed : Run → List Line → Run → ℕ → Type 0
Computed first lines r n = (r ≡ played first lines) × (accepted_count first lines ≡ n)

-- the run and the number of accepted lines are those that are computed
pub given_computed : {first : Run} {lines : List Line} {ms : List Move} {r : Run} → Given first lines ms r → Sound first → Computed first lines r (length ms)
given_computed nothing_given s = (refl, refl)
given_computed (goes {r = r} {r₁ = r₁} {r₂ = r₂} {line = line} {lines = lines} {ms = ms} st g) s =
    let h = given_computed g (step_sound st s) in let n = h.1 in
    let m : Move = record { before = r; line = line; after = r₁ } in
    subst (λ (t : Tried Run). (r₂ ≡ played (settled r t) lines) × (one_more t (accepted_count (settled r t) lines) ≡ length (m ∷ ms)))
    (sym ((sound_agrees r s line r₁).1 st)) (h.0, omega arith)
given_computed (stays {r = r} {r₂ = r₂} {line = line} {lines = lines} {ms = ms} never g) s = same (line_result line r) refl (given_computed g s)
  where
    same : (t : Tried Run) → line_result line r ≡ t → Computed r lines r₂ (length ms)
        → (r₂ ≡ played (settled r t) lines) × (one_more t (accepted_count (settled r t) lines) ≡ length ms)
    same (went q) e h = absurd (never q ((sound_agrees r s line q).0 e))
    same (refused f) e h = h
