use Rattle.std.proofs.Common.{◌≡◌, ℕ, leb, ◌∙◌, arith, rules, tests}
use Rattle.std.specs.List.{list_all, zip}
use Rattle.std.proofs.lemmas.Iterator.{YieldsList-from_slice, YieldsList-from_zip}
use Rattle.std.proofs.lemmas.Iterator.Search.{all_from_yields_List}
use Rattle.stores.specs.Views.{at_most}
use Rattle.stores.proofs.ViewLaws.{at_most_zip, at_most_law}
use Rattle.stores.proofs.view.View.at_most.Goals as goal

pub returns : goal.returns
returns c =
    let a = c.args.self.ends in
    let b = c.args.other.ends in
    let all : c.all.result ≡ list_all (λ (p : ℕ × ℕ). leb p.0 p.1) (zip a b) = all_from_yields_List (λ (p : ℕ × ℕ). leb p.0 p.1) c.all.new.self _ c.all.result c.all.ensures.ran (YieldsList-from_zip (YieldsList-from_slice a cc) (YieldsList-from_slice b cc)) (λ x b q k. search (rules, tests)) in
    let e : c.all.result ≡ at_most c.args.self c.args.other = all ∙ at_most_zip a b (omega arith) in
    record { value = e; order = at_most_law _ _ _ e }
