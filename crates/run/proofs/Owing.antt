-- The first of the threads that are there that owes a message.
use Rattle.std.proofs.Common.{◌≡◌, ℕ, zero, suc, ◌+◌, Bool, cond, List, [], ◌∷◌, map, take, Some, None, Option, refl, ap}
use Rattle.std.specs.Option.{MatchOption, IsSomeAnd}
use Rattle.std.specs.List.{position_from}

pub position_map : {A B : Type 0} (p : B → Bool) (f : A → B) (a n : ℕ) (xs : List A) → position_from (λ x. p (f x)) a (take n xs) ≡ position_from p a (take n (map f xs))
position_map p f a zero xs = refl
position_map p f a (suc n) [] = refl
position_map p f a (suc n) (x ∷ xs) = ap (cond (p (f x)) (Some a)) (position_map p f (a + 1) n xs)

-- a number as it was found
pub mapped_same : (r s : Option ℕ) (P : ℕ → ℕ → Type 0) → MatchOption r (s ≡ None) (λ x. IsSomeAnd s (P x)) → ((x y : ℕ) → P x y → y ≡ x) → s ≡ r
mapped_same None s P h k = h
mapped_same (Some x) None P h k = absurd h
mapped_same (Some x) (Some y) P h k = ap Some (k x y h)
