use Rattle.std.proofs.Common.{false, get_or, take, ap, ◌∙◌, rules, tests}
use Rattle.std.proofs.lemmas.Iterator.{YieldsList-from_slice}
use Rattle.std.proofs.lemmas.Iterator.Search.{position_from_yields_List}
use Rattle.std.proofs.lemmas.Iterator.Adapters.{position_from-zero}
use Rattle.rules.specs.Models as model
use Rattle.run.specs.declared.state.Thread.{Thread}
use Rattle.run.specs.Models.{thread_of}
use Rattle.run.proofs.Owing.{position_map, mapped_same}
use Rattle.run.proofs.state.Run.owing.Goals as goal

pub returns-clause-value : goal.returns-clause-value
returns-clause-value g c =
    let run = c.args.self.now in
    let there = take run.scope.threads run.threads in
    let owes = λ (th : Thread g.row.L.Denot). get_or th.owed.marks c.args.k false in
    mapped_same _ _ _ c.map.ensures.cases (λ x y h. search rules)
    ∙ position_from_yields_List owes _ _ c.position-owing.result c.position-owing.ensures.ran (YieldsList-from_slice there (c.iter.ensures.rest ∙ ap (λ n. take n run.threads) c.threads.ensures)) (λ x b q k. search (rules, tests))
    ∙ position_from-zero owes there ∙ position_map (λ (t : model.Thread). get_or t.owed c.args.k false) (thread_of g.L.Language) 0 run.scope.threads run.threads
