-- What views obey, place by place.
use Rattle.std.specs.Prelude.{◌≡◌, ℕ, ◌<◌, ◌≤◌, max, Bool, true, ◌≢◌}
use Rattle.stores.specs.declared.view.View.{View}
use Rattle.stores.specs.Views.{at, zero_view, Below}

-- an answer that is true exactly when the statement holds
unfoldable pub Decides : Bool → Type 0 → Type 0
Decides answer P = (answer ≡ true → P) × (P → answer ≡ true)

-- r has the greater end of a and b at each location
unfoldable pub GreaterAtEach : View → View → View → Type 0
GreaterAtEach a b r = (x : ℕ) → at r x ≡ max (at a x) (at b x)

-- a and b are below r, and r is below whatever both are below
unfoldable pub LeastUpperBound : View → View → View → Type 0
LeastUpperBound a b r = Below a r × Below b r × ((v : View) → Below a v → Below b v → Below r v)

-- r is below every view
unfoldable pub Least : View → Type 0
Least r = (v : View) → Below r v

-- r has t at x, if x is a location, and 0 at each other place
unfoldable pub OnlyAt : ℕ → ℕ → View → Type 0
OnlyAt x t r = (x < 8 → at r x ≡ t) × ((y : ℕ) → (y ≢ x) → at r y ≡ 0) × (8 ≤ x → r ≡ zero_view)
