use Rattle.std.proofs.Common.{◌≡◌, ℕ, List, ◌++◌, drop}
use Rattle.languages.proofs.replay.replay.Given as goal

-- given the values that are left, the copy comes to what the thread comes to given all
abbrev pub invariant-loop-value : goal.invariant-loop-value
invariant-loop-value g l =
    (more : List ℕ) →
    g.L.Language.behaves l.copy (drop l.value-index l.values ++ more)
    ≡ g.L.Language.behaves l.thread (l.values ++ more)
