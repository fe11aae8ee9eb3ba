-- What the parts of a run keep.
use Rattle.std.specs.Prelude.{ℕ, List, slice_index_or}
use Rattle.languages.specs.declared.action.ReadMode.{ReadMode}
use Rattle.languages.specs.declared.action.ReadMode.TheVariants.{Relaxed, Acquire}
use Rattle.stores.specs.declared.view.View.{View}
use Rattle.stores.specs.Views.{zero_view, join, Below}

-- each of the views is at most the other at each location
abbrev pub AllBelow : List View → View → Type 0
AllBelow vs v = (x : ℕ) → Below (slice_index_or vs x zero_view) v

-- cur after a read: an acquire takes in the view of the message read
abbrev pub acquired : ReadMode → View → View → View
acquired Relaxed cur m = cur
acquired Acquire cur m = join cur m
