use Rattle.std.proofs.Common.{sym, ap, ◌∙◌}
use Rattle.std.proofs.lemmas.List.{take-map}
use Rattle.run.specs.Models.{print_of, log_of}
use Rattle.run.proofs.turns.put_back.Goals as goal

pub returns : goal.returns
returns g c =
    let sh = c.args.shared.now in
    let log_kept = ap log_of c.keep-2.ensures ∙ sym (take-map print_of c.args.saved.now.prints sh.log) in
    λ j. record {
      thread = c.become_copy.ensures j;
      memory = c.keep.ensures.after j;
      capacity = c.keep.ensures.same j;
      sc = c.args.saved.now.sc;
      log = log_kept j;
    }
