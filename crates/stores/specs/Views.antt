-- Views: one end for each of eight locations.
use Rattle.std.specs.Prelude.{ℕ, ◌≤◌, max, Bool, true, ◌&&◌, List, [], ◌∷◌, replicate, nat_le, slice_index, slice_set}
use Rattle.stores.specs.declared.view.View.{View}

-- the end at x
abbrev pub at : View → ℕ → ℕ
at v x = slice_index v.ends x

abbrev pub zero_view : View
zero_view = record { ends = replicate 8 0 }

-- {x@t}: t at x and 0 elsewhere
abbrev pub single : ℕ → ℕ → View
single x t = record { ends = slice_set (replicate 8 0) x t }

abbrev pub greater_ends : List ℕ → List ℕ → List ℕ
greater_ends [] bs = bs
greater_ends (a ∷ as') [] = a ∷ as'
greater_ends (a ∷ as') (b ∷ bs) = max a b ∷ greater_ends as' bs

-- the greater end at each location
abbrev pub join : View → View → View
join a b = record { ends = greater_ends a.ends b.ends }

-- each end of the first is at most the one in its place in the second, 0 past the second's last
abbrev pub ends_at_most : List ℕ → List ℕ → Bool
ends_at_most [] bs = true
ends_at_most (a ∷ as') [] = nat_le a 0 && ends_at_most as' []
ends_at_most (a ∷ as') (b ∷ bs) = nat_le a b && ends_at_most as' bs

abbrev pub at_most : View → View → Bool
at_most a b = ends_at_most a.ends b.ends

-- a is at most b at each location
abbrev pub Below : View → View → Type 0
Below a b = (x : ℕ) → at a x ≤ at b x
