use Rattle.std.proofs.Common.{◌≡◌, arith}
use Rattle.std.proofs.lemmas.Grind.{common_steps}
use Rattle.stores.specs.Memory.{is_free}
use Rattle.stores.proofs.StoreLaws.{free_overlap, is_free_law}
use Rattle.stores.proofs.flat.FlatStore.is_free.Goals as goal

pub returns : goal.returns
returns c =
    let ms = c.args.self.now.messages in
    let e : c.is_none.result ≡ is_free c.args.location c.args.span ms = grind (arith, common_steps, free_overlap 0 c.args.location c.args.span ms) in
    record { value = e; exact = is_free_law _ _ ms _ e }
