use Rattle.std.proofs.Common.{◌≡◌, true, false, leb, [], ◌∷◌, map, take, sym, ap, ◌∙◌, arith, rules}
use Rattle.std.proofs.Math.Nat.{min-eq_left}
use Rattle.std.proofs.lemmas.Bool.{leb-true}
use Rattle.std.proofs.lemmas.Result.{err_from_is_err_and}
use Rattle.lines.specs.Scopes.{in_scope}
use Rattle.rules.specs.declared.fault.StepFault.TheVariants.{Store}
use Rattle.rules.specs.Models.{between, fresh}
use Rattle.rules.specs.Rules.{went, refused, initials}
use Rattle.run.specs.Models.{print_of, thread_of, tried}
use Rattle.run.proofs.Makings.{only_full, refused_answer, room_answer, made_full, made_went, four_is}
use Rattle.run.proofs.state.Run.new.Goals as goal

pub returns-in_err-fill : goal.returns-in_err-fill
returns-in_err-fill g c =
    let range : in_scope c.args.n c.args.locations ≡ true = search rules in
    let p = err_from_is_err_and c.from_residual-in_err-fill.result c.from_residual-in_err-fill.ensures.1 in
    let full : leb c.args.locations (g.S.Store.capacity c.args.store) ≡ false =
    refused_answer _ _ (sym c.fill.ensures.value ∙ c.in_err-fill.was) in
    ap (tried g.L.Language g.S.Store) p.1 ∙ ap refused (p.2 ∙ ap Store (only_full _))
    ∙ sym (made_full (map g.L.Language.behaves c.args.threads) c.args.n c.args.locations (g.S.Store.capacity c.args.store) range full)

pub returns : goal.returns
returns g c =
    let range : in_scope c.args.n c.args.locations ≡ true = search rules in
    let count : c.in_ok-scope.scope.threads ≡ c.args.n = search rules in
    let locations : c.in_ok-scope.scope.locations ≡ c.args.locations = search rules in
    let room : leb c.args.locations (g.S.Store.capacity c.args.store) ≡ true =
    room_answer _ _ (sym c.fill.ensures.value ∙ c.in_ok-fill.was) in
    let four = four_is c.args.threads c.index-threads-0.result c.index-threads-1.result c.index-threads-2.result c.index-threads-3.result (omega arith) in
    let threads : map (thread_of g.L.Language) (c.new-2.result ∷ c.new-3.result ∷ c.new-4.result ∷ c.new-5.result ∷ []) ≡ map fresh (map g.L.Language.behaves c.args.threads) =
    (λ i. c.new-2.ensures i ∷ c.new-3.ensures i ∷ c.new-4.ensures i ∷ c.new-5.ensures i ∷ []) ∙ ap (λ xs. map fresh (map g.L.Language.behaves xs)) four in
    let held = c.fill.ensures.after ∙ ap initials (min-eq_left (leb-true c.args.locations (g.S.Store.capacity c.args.store) room)) in
    let same : went _ ≡ went _ = λ i. went (record {
      locations = locations i;
      threads = take (count i) (threads i);
      memory = held i;
      capacity = c.fill.ensures.same i;
      sc = c.zero.ensures.value i;
      log = ap (map print_of) c.new-6.ensures i;
      phase = between;
    }) in
    same ∙ sym (made_went (map g.L.Language.behaves c.args.threads) c.args.n c.args.locations (g.S.Store.capacity c.args.store) range room)
