-- What is known of the bytes from what a reader's call answered.
use Rattle.std.proofs.Common.{◌≡◌, ℕ, true, false, List, Some, None, Option, sym, refl, ap, ◌∙◌}
use Rattle.lines.specs.Reading.{Passes, Reads}
use Rattle.std.proofs.lemmas.Option.{none-some}
use Rattle.lines.proofs.Options.{some_same}
use Rattle.std.proofs.lemmas.Bool.{both_ways}

pub passed : (p : Option (List ℕ)) (before after : List ℕ) → Passes p true before after → p ≡ Some after
passed None before after h = absurd (both_ways true h.0 refl)
passed (Some rest) before after h = ap Some (sym h.1)

pub not_passed : (p : Option (List ℕ)) (before after : List ℕ) → Passes p false before after → p ≡ None
not_passed None before after h = refl
not_passed (Some rest) before after h = absurd (both_ways false refl h.0)

pub read_none : {A : Type 0} (s : Option (A × List ℕ)) (after : List ℕ) → Reads s None after → s ≡ None
read_none None after h = refl
read_none (Some f) after h = absurd (none-some _ h.0)

pub read_some : {A : Type 0} (s : Option (A × List ℕ)) (a : A) (after : List ℕ) → Reads s (Some a) after → s ≡ Some (a, after)
read_some None a after h = absurd (none-some _ (sym h))
read_some (Some g) a after h = ap (λ v. Some (v, g.1)) (sym (some_same h.0)) ∙ ap (λ x. Some (a, x)) (sym h.1)
