-- The order of a thread's views under reads and writes.
use Rattle.std.proofs.Common.{◌≡◌, refl, ℕ, zero, suc, List, [], ◌∷◌, get_or, set}
use Rattle.languages.specs.declared.action.ReadMode.{ReadMode}
use Rattle.languages.specs.declared.action.ReadMode.TheVariants.{Relaxed as RelaxedRead, Acquire}
use Rattle.languages.specs.declared.action.WriteMode.{WriteMode}
use Rattle.languages.specs.declared.action.WriteMode.TheVariants.{Relaxed, Release}
use Rattle.stores.specs.declared.view.View.{View}
use Rattle.stores.specs.Views.{zero_view, single, join, Below}
use Rattle.stores.proofs.ViewLaws.{join_left, join_right, join_least, below_refl, below_trans}
use Rattle.rules.specs.Threads.{read_cur, write_rel}
use Rattle.run.specs.Orders.{AllBelow, acquired}

-- a join with one view keeps the order
pub join_keeps : (a b v : View) → Below a b → Below (join a v) (join b v)
join_keeps a b v h = join_least a v (join b v) (below_trans a b (join b v) h (join_left b v)) (join_right b v)

pub cur_after : (o : ReadMode) (x t : ℕ) (m c : View) → read_cur o x t m c ≡ acquired o (join c (single x t)) m
cur_after RelaxedRead x t m c = refl
cur_after Acquire x t m c = refl

acquired_above : (o : ReadMode) (c m : View) → Below c (acquired o c m)
acquired_above RelaxedRead c m = below_refl c
acquired_above Acquire c m = join_left c m

acquired_below : (o : ReadMode) (c a m : View) → Below c a → Below (acquired o c m) (join a m)
acquired_below RelaxedRead c a m h = below_trans c a (join a m) h (join_left a m)
acquired_below Acquire c a m h = join_keeps c a m h

-- cur and acq after a read
pub read_ordered : (o : ReadMode) (c a one m : View) → Below c a → Below (acquired o (join c one) m) (join (join a one) m)
read_ordered o c a one m h = acquired_below o (join c one) (join a one) m (join_keeps c a one h)

pub read_above : (o : ReadMode) (c one m : View) → Below c (acquired o (join c one) m)
read_above o c one m = below_trans c (join c one) (acquired o (join c one) m) (join_left c one) (acquired_above o (join c one) m)

pub all_below_trans : (vs : List View) (a b : View) → AllBelow vs a → Below a b → AllBelow vs b
all_below_trans vs a b h k x = below_trans (get_or vs x zero_view) a b (h x) k

-- rel of the location after a write
pub rel_below : (o : WriteMode) (r c one : View) → Below r c → Below (write_rel o (join r one) (join c one)) (join c one)
rel_below Relaxed r c one h = join_keeps r c one h
rel_below Release r c one h = join_least (join r one) (join c one) (join c one) (join_keeps r c one h) (below_refl (join c one))

pub all_below_set : (vs : List View) (x : ℕ) (v b : View) → AllBelow vs b → Below v b → AllBelow (set vs x v) b
all_below_set [] x v b h u y = h y
all_below_set (a ∷ vs) zero v b h u zero = u
all_below_set (a ∷ vs) zero v b h u (suc y) = h (suc y)
all_below_set (a ∷ vs) (suc x) v b h u zero = h zero
all_below_set (a ∷ vs) (suc x) v b h u (suc y) = all_below_set vs x v b (λ z. h (suc z)) u y
