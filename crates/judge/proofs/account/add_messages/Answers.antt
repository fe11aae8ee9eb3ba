use Rattle.std.proofs.Common.{◌≡◌, ℕ, ◌<◌, ◌≤◌, [], ◌∷◌, length, get_or, IfSome, Some, None, Option, sym, ap, ◌∙◌, subst, arith}
use Rattle.std.proofs.lemmas.Bool.{cond-true, lt-ltb}
use Rattle.lines.specs.Spelling.{spelled}
use Rattle.stores.specs.declared.message.Message.{Message}
use Rattle.stores.specs.declared.kept.Kept.{Kept}
use Rattle.stores.specs.Memory.{zero_message}
use Rattle.run.specs.Models.{run_of}
use Rattle.run.specs.Reports.{owing_thread}
use Rattle.jobs.specs.Texts.{added}
use Rattle.jobs.proofs.Lengths.{fields_within}
use Rattle.jobs.proofs.Texts.{none_yet, one_more, all_there}
use Rattle.judge.specs.Reports.{owner, message_line}
use Rattle.judge.proofs.account.add_messages.Goals as goal

owner_small : (who : Option ℕ) → IfSome who (λ i. i < 4) → owner who < 10
owner_small None h = omega arith
owner_small (Some i) h = omega arith

line_short : (m : Message) (who : Option ℕ) → m.location < 8 → m.span.from < 65536 → m.span.to < 65536 → m.value < 65536 → IfSome who (λ i. i < 4) → length (message_line m who) ≤ 24
line_short m who a b c d few =
    let e = owner_small who few in
    let short = fields_within (1 ∷ 5 ∷ 5 ∷ 5 ∷ 1 ∷ []) (m.location ∷ m.span.from ∷ m.span.to ∷ m.value ∷ owner who ∷ [])
    (omega arith, omega arith, omega arith, (omega arith, omega arith, omega arith, (omega arith, omega arith, omega arith, (omega arith, omega arith, omega arith, (omega arith, omega arith, omega arith, tt))))) in
    omega arith

pub loop-k-init : goal.loop-k-init
loop-k-init g c =
    let r = run_of g.L.Language g.S.Store c.args.run.now in
    none_yet (λ k m. message_line m (owing_thread k r.threads)) r.memory 24 c.args.text.now.bytes c.args.text.now.few

pub loop-k-preserved : goal.loop-k-preserved
loop-k-preserved g c =
    let r = run_of g.L.Language g.S.Store c.args.run.now in
    let k = c.loop-k.k in
    let here : k < length r.memory = omega (arith, c.message_count-k-end.ensures.value) in
    let is : c.message.result.message ≡ get_or r.memory k zero_message = ap (λ (x : Kept). x.message) (c.message.ensures ∙ cond-true _ _ _ (lt-ltb k (length r.memory) here)) in
    let low = subst (λ (x : Message). x.location < 8) (sym is) (c.requires.places k) in
    let line : message_line c.message.result.message c.owing.result ≡ message_line (get_or r.memory k zero_message) (owing_thread k r.threads) =
    λ i. message_line (is i) (c.owing.ensures.value i) in
    let written : c.line.new.self.bytes ≡ added c.loop-k.text.bytes (message_line c.message.result.message c.owing.result) =
    c.line.ensures ∙ ap (λ w. added c.loop-k.text.bytes (spelled 109 (c.message.result.message.location ∷ c.message.result.message.span.from ∷ c.message.result.message.span.to ∷ c.message.result.message.value ∷ w ∷ []))) c.owner.ensures in
    let short = line_short c.message.result.message c.owing.result low (omega arith) (omega arith) (omega arith) c.owing.ensures.few in
    one_more (λ k m. message_line m (owing_thread k r.threads)) r.memory 24 c.args.text.now.bytes k c.loop-k.text.bytes c.loop-k.invariant zero_message _
    here (subst (λ t. length t ≤ 24) line short) (written ∙ ap (added c.loop-k.text.bytes) line)

pub returns : goal.returns
returns g c =
    let r = run_of g.L.Language g.S.Store c.args.run.now in
    let all = all_there (λ k m. message_line m (owing_thread k r.threads)) r.memory 24 c.args.text.now.bytes c.loop-k.k c.loop-k.text.bytes c.loop-k.invariant (omega (arith, c.message_count-k-end.ensures.value)) in
    record { after = all.0; short = omega (arith, all.1, c.message_count-k-end.ensures.few) }
