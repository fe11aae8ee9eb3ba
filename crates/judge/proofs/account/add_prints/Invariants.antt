use Rattle.std.proofs.Common.{[], ◌∷◌}
use Rattle.lines.specs.Spelling.{spelled}
use Rattle.run.specs.Models.{run_of}
use Rattle.jobs.proofs.Texts.{Added}
use Rattle.judge.proofs.account.add_prints.Given as goal

abbrev pub invariant-loop-k : goal.invariant-loop-k
invariant-loop-k g l = Added (λ _ p. spelled 112 (p.0 ∷ p.1 ∷ [])) (run_of g.L.Language g.S.Store l.run).log 10 l.initial.text.bytes l.k l.text.bytes
