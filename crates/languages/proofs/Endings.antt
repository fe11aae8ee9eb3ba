-- Threads that have ended, in both languages.
use Rattle.std.proofs.Common.{◌≡◌, ℕ, ◌+◌, ◌≤◌, List, [], ◌∷◌, length, Some, None, Option, refl, ap, ◌∙◌, arith}
use Rattle.std.proofs.lemmas.Option.{slice_get_past}
use Rattle.languages.specs.Endings.{StaysEnded}
use Rattle.languages.specs.Meanings.{Meaning, behaviour, if_in_range, line_at, means_at}
use Rattle.languages.specs.Strips.{StripState, strip_means}
use Rattle.languages.specs.Strips as strips
use Rattle.languages.specs.Registers.{RegisterState, register_means}
use Rattle.languages.specs.Registers as registers
use Rattle.languages.specs.declared.action.Action.TheVariants.{Ended}
use Rattle.languages.specs.declared.strips.StripLine.{StripLine}
use Rattle.languages.specs.declared.strips.StripLine.TheVariants as strip
use Rattle.languages.specs.declared.registers.RegisterLine.{RegisterLine}
use Rattle.languages.specs.declared.registers.RegisterLine.TheVariants as register

-- where an ended state goes on to itself, it stays ended
module _ {State : Type 0} (means : State → Meaning State) (stays : (s : State) (v : ℕ) → (means s).next ≡ Ended → (means s).goes_on v ≡ s) where
  at_end : (s : State) (vs : List ℕ) → (means s).next ≡ Ended → (behaviour means s vs).next ≡ Ended
  at_end s [] e = e
  at_end s (v ∷ vs) e = ap (λ t. (behaviour means t vs).next) (stays s v e) ∙ at_end s vs e

  stays_ended : (s : State) → StaysEnded (behaviour means s)
  stays_ended s [] more e = at_end s more e
  stays_ended s (v ∷ vs) more e = stays_ended ((means s).goes_on v) vs more e

-- with no line a state stays, and so it does where no line is the end
module _ {State Line : Type 0} (line_means : State → Line → Meaning State) (stays : (s : State) (l : Line) (v : ℕ) → (line_means s l).next ≡ Ended → (line_means s l).goes_on v ≡ s) where
  stays_at : (s : State) (o : Option Line) (v : ℕ) → (means_at line_means s o).next ≡ Ended → (means_at line_means s o).goes_on v ≡ s
  stays_at s None v e = refl
  stays_at s (Some l) v e = stays s l v e

-- no line of a strip is the end
strip_line : (t : StripState) (l : StripLine) (v : ℕ) → (strips.line_means t l).next ≡ Ended → (strips.line_means t l).goes_on v ≡ t
strip_line t (strip.Read x v o) w e = cc
strip_line t (strip.Store x v o) w e = cc
strip_line t (strip.FetchAdd x v o p) w e = cc
strip_line t (strip.Fence k) w e = cc
strip_line t (strip.Print v) w e = cc

strip_here : (t : StripState) (v : ℕ) → (strip_means t).next ≡ Ended → (strip_means t).goes_on v ≡ t
strip_here t = stays_at strips.line_means strip_line t (line_at strips.in_range t.program t.line)

pub strip_stays_ended : (t : StripState) → StaysEnded (behaviour strip_means t)
strip_stays_ended = stays_ended strip_means strip_here

-- a strip has ended if it has one line on
strip_passes : (t : StripState) (o : Option StripLine) (v : ℕ) (vs : List ℕ) → line_at strips.in_range t.program t.line ≡ o → (behaviour strip_means (strips.passed t) vs).next ≡ Ended → (behaviour strip_means ((means_at strips.line_means t o).goes_on v) vs).next ≡ Ended
strip_passes t None v vs none later = at_end strip_means strip_here t vs (ap (λ o. (means_at strips.line_means t o).next) none)
strip_passes t (Some (strip.Read x w o)) v vs some later = later
strip_passes t (Some (strip.Store x w o)) v vs some later = later
strip_passes t (Some (strip.FetchAdd x w o p)) v vs some later = later
strip_passes t (Some (strip.Fence k)) v vs some later = later
strip_passes t (Some (strip.Print w)) v vs some later = later

pub strip_ends : (vs : List ℕ) (t : StripState) → length t.program ≤ t.line + length vs → (behaviour strip_means t vs).next ≡ Ended
strip_ends [] t h = ap (λ o. (means_at strips.line_means t (if_in_range strips.in_range o)).next) (slice_get_past t.program t.line (omega arith))
strip_ends (v ∷ vs) t h = strip_passes t (line_at strips.in_range t.program t.line) v vs refl (strip_ends vs (strips.passed t) (omega arith))

-- no line of a register program is the end
register_line : (t : RegisterState) (l : RegisterLine) (v : ℕ) → (registers.line_means t l).next ≡ Ended → (registers.line_means t l).goes_on v ≡ t
register_line t (register.Constant r v) w e = cc
register_line t (register.Add r s u) w e = cc
register_line t (register.Equal r s u) w e = cc
register_line t (register.Branch r k) w e = cc
register_line t (register.Load r x o) w e = cc
register_line t (register.Store x s o) w e = cc
register_line t (register.FetchAdd r x s o p) w e = cc
register_line t (register.CompareExchange r x s u o p) w e = cc
register_line t (register.Fence k) w e = cc
register_line t (register.Print s) w e = cc

pub register_stays_ended : (t : RegisterState) → StaysEnded (behaviour register_means t)
register_stays_ended = stays_ended register_means (λ t. stays_at registers.line_means register_line t (line_at registers.in_range t.program t.line))
