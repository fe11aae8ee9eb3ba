-- Where there is room for one more, it goes in; else nothing changes.
use Rattle.std.specs.Prelude.{ℕ, List, [], ◌∷◌, ◌++◌, length, insert, Ok, Err, Result, if◌then◌else◌, nat_lt}
use Rattle.bounded.specs.declared.Full.{Full}

-- what a call that adds one to xs answers, where there may be at most so many
abbrev pub add_answer : {A : Type 0} → ℕ → List A → Result (Unit {0}) Full
add_answer most xs = if nat_lt (length xs) most then Ok tt else Err (record {})

-- xs with x at its end, if one more fits
abbrev pub push_within : {A : Type 0} → ℕ → List A → A → List A
push_within most xs x = if nat_lt (length xs) most then xs ++ x ∷ [] else xs

-- xs with x before its k-th, if one more fits
abbrev pub insert_within : {A : Type 0} → ℕ → List A → ℕ → A → List A
insert_within most xs k x = if nat_lt (length xs) most then insert xs k x else xs
