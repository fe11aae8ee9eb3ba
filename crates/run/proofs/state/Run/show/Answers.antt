use Rattle.std.proofs.Common.{sym, ◌∙◌, arith}
use Rattle.std.proofs.lemmas.List.{length-map}
use Rattle.run.specs.Models.{print_of, phase_of}
use Rattle.run.proofs.Lifts.{shown}
use Rattle.run.proofs.state.Run.show.Goals as goal

pub returns : goal.returns
returns g c =
    let run = c.args.self.now in
    shown g.L.Language g.S.Store run.scope.locations run.scope.threads run.threads run.shared (phase_of g.L.Language run.phase) c.whose-i.result _ c.index-self-i.result c.copied.result c.len.result c.len-2.result c.of.result.ends
    c.whose-i.ensures.value (omega arith) (omega arith) (sym c.owes_none.ensures ∙ c.if-owes_none.false) c.copied.ensures c.len.ensures (c.len-2.ensures.value ∙ sym (length-map c.args.self.now.shared.log print_of)) c.of.ensures
