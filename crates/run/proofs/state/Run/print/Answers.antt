use Rattle.std.proofs.Common.{◌≡◌, Some, None, Option, sym, refl, ap, ◌∙◌}
use Rattle.std.specs.Option.{option_map}
use Rattle.std.proofs.lemmas.Option.{slice_get-map}
use Rattle.run.specs.declared.parts.Print.{Print}
use Rattle.run.specs.Models.{print_of, print_in}
use Rattle.run.proofs.state.Run.print.Goals as goal

mapped : (p : Option Print) → print_in p ≡ option_map print_of p
mapped None = refl
mapped (Some p) = refl

pub returns : goal.returns
returns g c = ap print_in c.nth.ensures ∙ mapped _ ∙ sym (slice_get-map print_of c.args.self.now.shared.log c.args.k)
