-- What a register program means.
use Rattle.std.specs.Prelude.{ℕ, ◌+◌, ◌%◌, Bool, true, if◌then◌else◌, List, replicate, ◌==◌, nat_lt, slice_index, slice_set}
use Rattle.languages.specs.Behaviours.{Behaviour}
use Rattle.languages.specs.Meanings.{Meaning, behaviour, acting, reading, line_at, means_at}
use Rattle.languages.specs.declared.action.Action.TheVariants as action
use Rattle.languages.specs.declared.action.Taking.TheVariants.{OnlyRead, Replaced}
use Rattle.languages.specs.declared.registers.RegisterLine.{RegisterLine}
use Rattle.languages.specs.declared.registers.RegisterLine.TheVariants.{Constant, Add, Equal, Branch, Load, Store, FetchAdd, CompareExchange, Fence, Print}
use Rattle.languages.specs.declared.register_thread.RegisterThread.{RegisterThread}

-- a thread of a register program: the program, the number of the line that it is at, and what its registers hold
pub record RegisterState : Type 0 where
  pub program : List RegisterLine
  pub line : ℕ
  pub registers : List ℕ

-- what register r holds
abbrev pub holds : RegisterState → ℕ → ℕ
holds t r = slice_index t.registers r

-- at line n
abbrev pub jumped : RegisterState → ℕ → RegisterState
jumped t n = record { program = t.program; line = n; registers = t.registers }

-- at the next line
abbrev pub passed : RegisterState → RegisterState
passed t = jumped t (t.line + 1)

-- at the next line, with v in register r
abbrev pub put : RegisterState → ℕ → ℕ → RegisterState
put t r v = record { program = t.program; line = t.line + 1; registers = slice_set t.registers r v }

-- what a thread means at each line
abbrev pub line_means : RegisterState → RegisterLine → Meaning RegisterState
line_means t (Constant r v) = acting action.Silent (put t r v)
line_means t (Add r s u) = acting action.Silent (put t r ((holds t s + holds t u) % 65536))
line_means t (Equal r s u) = acting action.Silent (put t r (if holds t s == holds t u then 1 else 0))
line_means t (Branch r k) = acting action.Silent (if holds t r == 0 then passed t else jumped t k)
line_means t (Load r x o) = reading (action.Read x o) (λ _. OnlyRead) (put t r)
line_means t (Store x s o) = acting (action.Write x (holds t s) o) (passed t)
line_means t (FetchAdd r x s o p) = reading (action.Update x o p) (λ v. Replaced ((v + holds t s) % 65536)) (put t r)
line_means t (CompareExchange r x s u o p) = reading (action.Update x o p) (λ v. if v == holds t s then Replaced (holds t u) else OnlyRead) (put t r)
line_means t (Fence k) = acting (action.Fence k) (passed t)
line_means t (Print s) = acting (action.Print (holds t s)) (passed t)

-- a line's location, if it has one, is below 8
abbrev pub in_range : RegisterLine → Bool
in_range (Constant r v) = true
in_range (Add r s u) = true
in_range (Equal r s u) = true
in_range (Branch r k) = true
in_range (Load r x o) = nat_lt x 8
in_range (Store x s o) = nat_lt x 8
in_range (FetchAdd r x s o p) = nat_lt x 8
in_range (CompareExchange r x s u o p) = nat_lt x 8
in_range (Fence k) = true
in_range (Print s) = true

abbrev pub register_means : RegisterState → Meaning RegisterState
register_means t = means_at line_means t (line_at in_range t.program t.line)

abbrev pub register_state : RegisterThread → RegisterState
register_state t = record { program = t.program.now; line = t.line; registers = t.registers }

abbrev pub register_behaviour : RegisterThread → Behaviour
register_behaviour t = behaviour register_means (register_state t)

-- a thread begins at line 0 with 0 in all eight registers
abbrev pub register_start : List RegisterLine → Behaviour
register_start p = behaviour register_means (record { program = p; line = 0; registers = replicate 8 0 })
