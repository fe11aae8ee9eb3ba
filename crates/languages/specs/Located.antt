-- Both languages name locations below 8 only.
use Rattle.std.specs.Prelude.{◌≡◌, ℕ, Bool, true, false, if◌then◌else◌, List, [], ◌∷◌, Some, None, Option, refl}
use Rattle.std.proofs.Common.{ltb-true}
use Rattle.std.specs.List.{slice_get}
use Rattle.languages.specs.Meanings.{Meaning, behaviour, if_in_range, means_at, Located}
use Rattle.languages.specs.Strips as strips
use Rattle.languages.specs.Registers as registers
use Rattle.languages.specs.declared.strips.StripLine.{StripLine}
use Rattle.languages.specs.declared.strips.StripLine.TheVariants as strip
use Rattle.languages.specs.declared.strip_thread.StripThread.{StripThread}
use Rattle.languages.specs.declared.registers.RegisterLine.{RegisterLine}
use Rattle.languages.specs.declared.registers.RegisterLine.TheVariants as register
use Rattle.languages.specs.declared.register_thread.RegisterThread.{RegisterThread}

-- a behaviour names no other location if no state does
pub behaviour_located : {State : Type 0} (means : State → Meaning State) → ((s : State) → Located (means s).next) → (s : State) (vs : List ℕ) → Located (behaviour means s vs).next
behaviour_located means each s [] = each s
behaviour_located means each s (v ∷ vs) = behaviour_located means each ((means s).goes_on v) vs

module _ {State Line : Type 0} (in_range : Line → Bool) (line_means : State → Line → Meaning State) (each : (s : State) (l : Line) → in_range l ≡ true → Located (line_means s l).next) where
  tested : (s : State) (l : Line) (b : Bool) → in_range l ≡ b → Located (means_at line_means s (if b then Some l else None)).next
  tested s l true e = each s l e
  tested s l false e = tt

  pub line_located : (s : State) (o : Option Line) → Located (means_at line_means s (if_in_range in_range o)).next
  line_located s None = tt
  line_located s (Some l) = tested s l (in_range l) refl

strip_line : (t : strips.StripState) (l : StripLine) → strips.in_range l ≡ true → Located (strips.line_means t l).next
strip_line t (strip.Read x v o) e = ltb-true x 8 e
strip_line t (strip.Store x v o) e = ltb-true x 8 e
strip_line t (strip.FetchAdd x v o p) e = ltb-true x 8 e
strip_line t (strip.Fence k) e = tt
strip_line t (strip.Print v) e = tt

pub strip_located : (t : StripThread) (vs : List ℕ) → Located (strips.strip_behaviour t vs).next
strip_located t vs = behaviour_located strips.strip_means (λ s. line_located strips.in_range strips.line_means strip_line s (slice_get s.program s.line)) _ vs

register_line : (t : registers.RegisterState) (l : RegisterLine) → registers.in_range l ≡ true → Located (registers.line_means t l).next
register_line t (register.Constant r v) e = tt
register_line t (register.Add r s u) e = tt
register_line t (register.Equal r s u) e = tt
register_line t (register.Branch r k) e = tt
register_line t (register.Load r x o) e = ltb-true x 8 e
register_line t (register.Store x s o) e = ltb-true x 8 e
register_line t (register.FetchAdd r x s o p) e = ltb-true x 8 e
register_line t (register.CompareExchange r x s u o p) e = ltb-true x 8 e
register_line t (register.Fence k) e = tt
register_line t (register.Print s) e = tt

pub register_located : (t : RegisterThread) (vs : List ℕ) → Located (registers.register_behaviour t vs).next
register_located t vs = behaviour_located registers.register_means (λ s. line_located registers.in_range registers.line_means register_line s (slice_get s.program s.line)) _ vs
