use Rattle.std.proofs.Common.{◌≡◌, ℕ, ◌+◌, ◌≤◌, List, map, length, get_or, Ok, Err, sym, ap, ◌∙◌, subst, arith}
use Rattle.bounded.specs.Fixed.{elements}
use Rattle.languages.specs.Behaviours.{Behaviour}
use Rattle.rules.specs.Rules.{made}
use Rattle.rules.specs.Models.{Run}
use Rattle.run.specs.Models.{thread_of, run_of, tried}
use Rattle.run.proofs.Moments.{count_is}
use Rattle.jobs.specs.Programs.{cut, nowhere}
use Rattle.judge.specs.Printable.{Printable}
use Rattle.judge.specs.Traces.{followed, run_left, trace_judged, Follows}
use Rattle.judge.proofs.Traced.{followed_printable}
use Rattle.judge.proofs.VerdictSteps.{not_made, trace_refused, trace_accepted, was_followed, cut_within}
use Rattle.judge.proofs.verdict.report_run.Goals as goal

same_made : (threads : List Behaviour) (capacity n n' l l' : ℕ) → n ≡ n' → l ≡ l' → made threads n l capacity ≡ made threads n' l' capacity
same_made threads capacity n n' l l' e f = λ i. made threads (e i) (f i) capacity

pub returns-in-Err : goal.returns-in-Err
returns-in-Err g c =
    let head = c.args.head.now in
    let n = head.job.scope.threads in
    let l = head.job.scope.locations in
    let is = sym (ap (tried g.L.Language g.S.Store) c.in-Err.is) ∙ c.new.ensures ∙ same_made _ _ _ _ _ _ c.threads.ensures c.locations.ensures in
    ap Err c.not_made.ensures ∙ not_made (made (map g.L.Language.behaves c.args.threads) n l (g.S.Store.capacity c.args.store)) (λ r. trace_judged n l r (cut c.args.file.now (get_or (elements head.sections) n nowhere))) (n + 1) c.in-Err.fault is

pub accepted-requires : goal.accepted-requires
accepted-requires g c =
    let head = c.args.head.now in
    let n = head.job.scope.threads in
    let l = head.job.scope.locations in
    let m = run_of g.L.Language g.S.Store in
    let run = c.follow.new.run in
    let first = m c.in-Ok.run' in
    let is = sym (ap (tried g.L.Language g.S.Store) c.in-Ok.is) ∙ c.new.ensures ∙ same_made _ _ _ _ _ _ c.threads.ensures c.locations.ensures in
    let f = was_followed (followed n l first c.trace.result.now) c.in-Ok-follow.count (run_left n l first c.trace.result.now) (m run) c.in-Ok-follow.ensures.value in
    let four : length (m run).threads ≡ run.scope.threads = count_is (thread_of g.L.Language) run.scope.threads run.threads (omega arith) in
    let printable = followed_printable (map g.L.Language.behaves c.args.threads) n l (g.S.Store.capacity c.args.store) (g.met.S.Store.small c.args.store) (omega arith) (omega arith) first (sym is) c.trace.result.now f.0 f.1
    (subst (λ (r : Run). length r.threads ≤ 4) f.2 (omega arith)) in
    let within = cut_within c.args.file.now (get_or (elements head.sections) n nowhere) in
    (c.requires.layout, (omega (arith, c.in-Ok-follow.ensures.few, ap length c.trace.ensures, within, c.requires.small), subst Printable (sym f.2) printable))

pub returns-in-Ok-follow : goal.returns-in-Ok-follow
returns-in-Ok-follow g c =
    let head = c.args.head.now in
    let n = head.job.scope.threads in
    let l = head.job.scope.locations in
    let m = run_of g.L.Language g.S.Store in
    let first = m c.in-Ok.run' in
    let is = sym (ap (tried g.L.Language g.S.Store) c.in-Ok.is) ∙ c.new.ensures ∙ same_made _ _ _ _ _ _ c.threads.ensures c.locations.ensures in
    ap Ok c.accepted.ensures ∙ trace_accepted (made (map g.L.Language.behaves c.args.threads) n l (g.S.Store.capacity c.args.store)) (λ r. trace_judged n l r (cut c.args.file.now (get_or (elements head.sections) n nowhere))) (n + 1)
    first (run_left n l first (cut c.args.file.now (get_or (elements head.sections) n nowhere))) (m c.follow.new.run) is c.in-Ok-follow.count
    (subst (λ xs. Follows (trace_judged n l first xs) (run_left n l first xs) (Ok c.in-Ok-follow.count) (m c.follow.new.run)) c.trace.ensures c.in-Ok-follow.ensures.value)

pub returns : goal.returns
returns g c =
    let head = c.args.head.now in
    let n = head.job.scope.threads in
    let l = head.job.scope.locations in
    let m = run_of g.L.Language g.S.Store in
    let first = m c.in-Ok.run' in
    let is = sym (ap (tried g.L.Language g.S.Store) c.in-Ok.is) ∙ c.new.ensures ∙ same_made _ _ _ _ _ _ c.threads.ensures c.locations.ensures in
    (λ i. Err (record { fault = c.in_section.ensures.fault i; section = c.in_section.ensures.section i; line = c.in_section.ensures.line i }))
    ∙ (λ i. Err (record { fault = c.in-Err-follow.refusal.fault; section = c.threads-in-Err-follow.ensures i + 1; line = c.in-Err-follow.refusal.line }))
    ∙ trace_refused (made (map g.L.Language.behaves c.args.threads) n l (g.S.Store.capacity c.args.store)) (λ r. trace_judged n l r (cut c.args.file.now (get_or (elements head.sections) n nowhere))) (n + 1)
    first (run_left n l first (cut c.args.file.now (get_or (elements head.sections) n nowhere))) (m c.follow.new.run) is c.in-Err-follow.refusal (subst (λ xs. Follows (trace_judged n l first xs) (run_left n l first xs) (Err c.in-Err-follow.refusal) (m c.follow.new.run)) c.trace.ensures c.in-Err-follow.ensures.value)
