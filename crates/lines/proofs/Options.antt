-- Options and results, taken apart.
use Rattle.std.proofs.Common.{◌≡◌, Some, None, Ok, Err, Option, Result, refl}
use Rattle.lines.specs.Fields.{and_then}

pub some_same : {A : Type 0} {a b : A} → ◌≡◌ {A = Option A} (Some a) (Some b) → a ≡ b
some_same e = cc

pub err_ok : {A E : Type 0} {f : E} {a : A} → ◌≡◌ {A = Result A E} (Err f) (Ok a) → ⊥
err_ok e = cc

pub ok_same : {A E : Type 0} {a b : A} → ◌≡◌ {A = Result A E} (Ok a) (Ok b) → a ≡ b
ok_same e = cc

pub err_same : {A E : Type 0} {f g : E} → ◌≡◌ {A = Result A E} (Err f) (Err g) → f ≡ g
err_same e = cc

pub and_then_some : {A B : Type 0} (o : Option A) (k : A → Option B) (b : B) → and_then o k ≡ Some b → (a : A) × (o ≡ Some a) × (k a ≡ Some b)
and_then_some None k b e = absurd (cc)
and_then_some (Some a) k b e = (a, refl, e)
