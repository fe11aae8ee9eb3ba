-- Views by place: joins, single views and the order.
use Rattle.std.proofs.Common.{◌≡◌, ℕ, zero, suc, ◌<◌, ◌≤◌, max, Bool, true, cond, ◌&&◌, eqb, leb, inl, inr, set, length-set, List, [], ◌∷◌, length, get_or, replicate, sym, refl, ap, ◌∙◌, subst, arith, le-leb}
use Rattle.std.proofs.lemmas.List.{ext_get_or, get_or-set_same, get_or-set_other, set_past}
use Rattle.std.proofs.lemmas.Bool.{and_parts, and_from, leb-true, eq-eqb, ne_eqb, cases_eq, cond-true, cond-false}
use Rattle.std.specs.List.{list_all, zip}
use Rattle.stores.specs.declared.view.View.{View}
use Rattle.stores.specs.Views.{at, zero_view, single, greater_ends, join, ends_at_most, at_most, Below}
use Rattle.stores.specs.ViewLaws.{Decides, GreaterAtEach, LeastUpperBound, Least, OnlyAt}

pub greater_at : (as' bs : List ℕ) (x : ℕ) → get_or (greater_ends as' bs) x 0 ≡ max (get_or as' x 0) (get_or bs x 0)
greater_at [] bs x = omega arith
greater_at (a ∷ as') [] x = omega arith
greater_at (a ∷ as') (b ∷ bs) zero = refl
greater_at (a ∷ as') (b ∷ bs) (suc x) = greater_at as' bs x

pub greater_length : (as' bs : List ℕ) → length (greater_ends as' bs) ≡ max (length as') (length bs)
greater_length [] bs = omega arith
greater_length (a ∷ as') [] = omega arith
greater_length (a ∷ as') (b ∷ bs) = let h = greater_length as' bs in omega arith

-- eight ends, each the greater of two
pub is_greater : (cs as' bs : List ℕ) → length cs ≡ 8 → length as' ≡ 8 → length bs ≡ 8 → ((x : ℕ) → x < 8 → get_or cs x 0 ≡ max (get_or as' x 0) (get_or bs x 0)) → cs ≡ greater_ends as' bs
is_greater cs as' bs lc la lb h =
    ext_get_or 0 cs (greater_ends as' bs) (let l = greater_length as' bs in omega arith) (λ x less. h x (omega arith) ∙ sym (greater_at as' bs x))

pub at_join : (a b : View) (x : ℕ) → at (join a b) x ≡ max (at a x) (at b x)
at_join a b = greater_at a.ends b.ends

-- the join is the least upper bound
pub join_left : (a b : View) → Below a (join a b)
join_left a b x = let e = at_join a b x in omega arith

pub join_right : (a b : View) → Below b (join a b)
join_right a b x = let e = at_join a b x in omega arith

pub join_least : (a b c : View) → Below a c → Below b c → Below (join a b) c
join_least a b c p q x =
    let e = at_join a b x in
    let l = p x in
    let r = q x in
    omega arith

pub below_refl : (a : View) → Below a a
below_refl a x = omega arith

pub below_trans : (a b c : View) → Below a b → Below b c → Below a c
below_trans a b c p q x =
    let l = p x in
    let r = q x in
    omega arith

pub at_zero : (x : ℕ) → at zero_view x ≡ 0
at_zero x = zeros 8 x
  where
    zeros : (n x : ℕ) → get_or {A = ℕ} (replicate n 0) x 0 ≡ 0
    zeros zero x = refl
    zeros (suc n) zero = refl
    zeros (suc n) (suc x) = zeros n x

pub zero_below : (a : View) → Below zero_view a
zero_below a x = let e = at_zero x in omega arith

pub at_single : (x t : ℕ) → x < 8 → at (single x t) x ≡ t
at_single x t h = get_or-set_same (replicate 8 0) x t 0 h

pub at_single_other : (x t y : ℕ) → (y ≡ x → ⊥) → at (single x t) y ≡ 0
at_single_other x t y h = get_or-set_other (replicate 8 0) x y t 0 h ∙ at_zero y

pub single_outside : (x t : ℕ) → 8 ≤ x → single x t ≡ zero_view
single_outside x t h = ap (λ (l : List ℕ). record { ends = l }) (set_past (replicate 8 0) x t h)

-- eight ends, t at x and else 0
pub is_single : (x t : ℕ) (r : View) → length r.ends ≡ 8 → ((y : ℕ) → y < 8 → at r y ≡ cond (eqb y x) t 0) → r ≡ single x t
is_single x t r l h =
    ap (λ (l : List ℕ). record { ends = l }) (ext_get_or 0 r.ends (set (replicate 8 0) x t) (l ∙ sym (length-set (replicate 8 0) x t)) (λ y less. h y (omega arith) ∙ elim (cases_eq y x) as (λ _. cond (eqb y x) t 0 ≡ at (single x t) y) [
      | inl e ↦ cond-true _ t 0 (eq-eqb y x e) ∙ sym (ap (at (single x t)) e ∙ at_single x t (omega arith))
      | inr n ↦ cond-false _ t 0 (ne_eqb y x n) ∙ sym (at_single_other x t y n)
    ]))

-- the comparison in pairs, of lists of one length
pub at_most_zip : (as' bs : List ℕ) → length as' ≡ length bs → list_all (λ (p : ℕ × ℕ). leb p.0 p.1) (zip as' bs) ≡ ends_at_most as' bs
at_most_zip [] bs h = refl
at_most_zip (a ∷ as') [] h = absurd (omega arith)
at_most_zip (a ∷ as') (b ∷ bs) h = ap (λ t. leb a b && t) (at_most_zip as' bs (omega arith))

ends_sound : (as' bs : List ℕ) → ends_at_most as' bs ≡ true → (x : ℕ) → get_or as' x 0 ≤ get_or bs x 0
ends_sound [] bs e x = omega arith
ends_sound (a ∷ as') [] e zero = leb-true a 0 (and_parts _ _ e).0
ends_sound (a ∷ as') [] e (suc x) = ends_sound as' [] (and_parts _ _ e).1 x
ends_sound (a ∷ as') (b ∷ bs) e zero = leb-true a b (and_parts _ _ e).0
ends_sound (a ∷ as') (b ∷ bs) e (suc x) = ends_sound as' bs (and_parts _ _ e).1 x

ends_complete : (as' bs : List ℕ) → ((x : ℕ) → get_or as' x 0 ≤ get_or bs x 0) → ends_at_most as' bs ≡ true
ends_complete [] bs h = refl
ends_complete (a ∷ as') [] h = and_from _ _ (le-leb a 0 (h 0)) (ends_complete as' [] (λ x. h (suc x)))
ends_complete (a ∷ as') (b ∷ bs) h = and_from _ _ (le-leb a b (h 0)) (ends_complete as' bs (λ x. h (suc x)))

pub at_most_sound : (a b : View) → at_most a b ≡ true → Below a b
at_most_sound a b = ends_sound a.ends b.ends

pub at_most_complete : (a b : View) → Below a b → at_most a b ≡ true
at_most_complete a b = ends_complete a.ends b.ends

-- the laws of whatever equals a definition
pub zero_law : (r : View) → r ≡ zero_view → Least r
unfolding Least
zero_law r e v = subst (λ (w : View). Below w v) (sym e) (zero_below v)

pub single_law : (x t : ℕ) (r : View) → r ≡ single x t → OnlyAt x t r
unfolding OnlyAt
single_law x t r e =
    (λ h. ap (λ (v : View). at v x) e ∙ at_single x t h, λ y h. ap (λ (v : View). at v y) e ∙ at_single_other x t y h, λ h. e ∙ single_outside x t h)

pub join_places : (a b r : View) → r ≡ join a b → GreaterAtEach a b r
unfolding GreaterAtEach
join_places a b r e x = ap (λ (v : View). at v x) e ∙ at_join a b x

pub join_law : (a b r : View) → r ≡ join a b → LeastUpperBound a b r
unfolding LeastUpperBound
join_law a b r e =
    let Bound : View → Type 0 = λ v. Below a v × Below b v × ((c : View) → Below a c → Below b c → Below v c) in
    subst Bound (sym e) (join_left a b, join_right a b, join_least a b)

pub at_most_law : (a b : View) (r : Bool) → r ≡ at_most a b → Decides r (Below a b)
unfolding Decides
at_most_law a b r e = (λ h. at_most_sound a b (sym e ∙ h), λ h. e ∙ at_most_complete a b h)
