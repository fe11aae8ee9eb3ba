-- What a strip program means: its lines run straight through.
use Rattle.std.specs.Prelude.{ℕ, ◌+◌, ◌%◌, Bool, true, if◌then◌else◌, List, ◌==◌, nat_lt}
use Rattle.languages.specs.Behaviours.{Behaviour}
use Rattle.languages.specs.Meanings.{Meaning, behaviour, acting, reading, line_at, means_at}
use Rattle.languages.specs.declared.action.Action.TheVariants as action
use Rattle.languages.specs.declared.action.Taking.TheVariants.{NotTaken, OnlyRead, Replaced}
use Rattle.languages.specs.declared.strips.StripLine.{StripLine}
use Rattle.languages.specs.declared.strips.StripLine.TheVariants.{Read, Store, FetchAdd, Fence, Print}
use Rattle.languages.specs.declared.strip_thread.StripThread.{StripThread}

-- a thread of a strip program: the program, and the number of the line that it is at
pub record StripState : Type 0 where
  pub program : List StripLine
  pub line : ℕ

-- at the next line
abbrev pub passed : StripState → StripState
passed t = record { program = t.program; line = t.line + 1 }

-- what a thread means at each line
abbrev pub line_means : StripState → StripLine → Meaning StripState
line_means t (Read x v o) = reading (action.Read x o) (λ w. if w == v then OnlyRead else NotTaken) (λ _. passed t)
line_means t (Store x v o) = acting (action.Write x v o) (passed t)
line_means t (FetchAdd x v o p) = reading (action.Update x o p) (λ w. Replaced ((w + v) % 65536)) (λ _. passed t)
line_means t (Fence k) = acting (action.Fence k) (passed t)
line_means t (Print v) = acting (action.Print v) (passed t)

-- a line's location, if it has one, is below 8
abbrev pub in_range : StripLine → Bool
in_range (Read x v o) = nat_lt x 8
in_range (Store x v o) = nat_lt x 8
in_range (FetchAdd x v o p) = nat_lt x 8
in_range (Fence k) = true
in_range (Print v) = true

abbrev pub strip_means : StripState → Meaning StripState
strip_means t = means_at line_means t (line_at in_range t.program t.line)

abbrev pub strip_behaviour : StripThread → Behaviour
strip_behaviour t = behaviour strip_means (record { program = t.program.now; line = t.line })

-- a thread begins at line 0
abbrev pub strip_start : List StripLine → Behaviour
strip_start p = behaviour strip_means (record { program = p; line = 0 })
