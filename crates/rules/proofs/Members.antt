-- Messages in a list, and those that stand apart. Assumes nothing.
use Rattle.std.proofs.Common.{◌≡◌, ℕ, ◌<◌, ◌⊎◌, List, [], ◌∷◌, ◌++◌, map, take, drop, sym, refl, ap, ◌∙◌, subst, inl, inr, arith}
use Rattle.std.proofs.lemmas.List.{take-append-drop}
use Rattle.stores.specs.declared.view.View.{View}
use Rattle.stores.specs.declared.message.Message.{Message}
use Rattle.stores.specs.StoreLaws.{In, Overlaps, Free}
use Rattle.rules.specs.Laws.{WellFormed, Apart, Known}

pub in_left : (m : Message) (xs ys : List Message) → In m xs → In m (xs ++ ys)
in_left m [] ys h = absurd h
in_left m (x ∷ xs) ys (inl e) = inl e
in_left m (x ∷ xs) ys (inr h) = inr (in_left m xs ys h)

pub in_right : (m : Message) (xs ys : List Message) → In m ys → In m (xs ++ ys)
in_right m [] ys h = h
in_right m (x ∷ xs) ys h = inr (in_right m xs ys h)

pub in_last : (m : Message) (xs : List Message) → In m (xs ++ (m ∷ []))
in_last m xs = in_right m xs (m ∷ []) (inl refl)

pub in_split : (m : Message) (xs ys : List Message) → In m (xs ++ ys) → In m xs ⊎ In m ys
in_split m [] ys h = inr h
in_split m (x ∷ xs) ys (inl e) = inl (inl e)
in_split m (x ∷ xs) ys (inr h) = elim (in_split m xs ys h) [ inl a ↦ inl (inr a) | inr b ↦ inr b ]

pub in_take : (n : ℕ) (m : Message) (xs : List Message) → In m (take n xs) → In m xs
in_take n m xs h = subst (In m) (take-append-drop n xs) (in_left m (take n xs) (drop n xs) h)

-- what holds of the messages of a list and of one more
pub in_push : (F : Message → Type 0) (xs : List Message) (y : Message) → ((m : Message) → In m xs → F m) → F y → (m : Message) → In m (xs ++ (y ∷ [])) → F m
in_push F xs y h hy m i = elim (in_split m xs (y ∷ []) i) [ inl a ↦ h m a | inr b ↦ one b ]
  where
    one : In m (y ∷ []) → F m
    one (inl e) = subst F (sym e) hy
    one (inr e) = absurd e

pub in_map : (f : Message → Message) (m : Message) (xs : List Message) → In m xs → In (f m) (map f xs)
in_map f m [] h = absurd h
in_map f m (x ∷ xs) (inl e) = inl (ap f e)
in_map f m (x ∷ xs) (inr h) = inr (in_map f m xs h)

pub in_map_back : (f : Message → Message) (n : Message) (xs : List Message) → In n (map f xs) → (m : Message) × In m xs × (n ≡ f m)
in_map_back f n [] h = absurd h
in_map_back f n (x ∷ xs) (inl e) = (x, inl refl, e)
in_map_back f n (x ∷ xs) (inr h) = let r = in_map_back f n xs h in (r.0, inr r.1, r.2)

-- of messages that stand apart only one has an end at a location
pub unique : (ms : List Message) → Apart ms → (m n : Message) → In m ms → In n ms → m.location ≡ n.location → m.span.to ≡ n.span.to → m ≡ n
unique [] a m n i j l t = absurd i
unique (p ∷ ps) a m n (inl i) (inl j) l t = i ∙ sym j
unique (p ∷ ps) a m n (inl i) (inr j) l t =
    absurd ((a.0 n j (sym l ∙ ap (λ (q : Message). q.location) i)).1 (sym t ∙ ap (λ (q : Message). q.span.to) i))
unique (p ∷ ps) a m n (inr i) (inl j) l t =
    absurd ((a.0 m i (l ∙ ap (λ (q : Message). q.location) j)).1 (t ∙ ap (λ (q : Message). q.span.to) j))
unique (p ∷ ps) a m n (inr i) (inr j) l t = unique ps a.1 m n i j l t

-- the second neither overlaps the first nor ends where it ends
abbrev pub Off : Message → Message → Type 0
Off n m = m.location ≡ n.location → (Overlaps n.location n.span m → ⊥) × (m.span.to ≡ n.span.to → ⊥)

pub apart_push : (m : Message) (ms : List Message) → Apart ms → ((n : Message) → In n ms → Off n m) → Apart (ms ++ (m ∷ []))
apart_push m [] a h = (λ n i. absurd i, tt)
apart_push m (n ∷ ns) a h = (in_push (Off n) ns m a.0 (h n (inl refl)), apart_push m ns a.1 (λ p i. h p (inr i)))

-- a free span stands apart from what is there
pub free_off : (m : Message) → m.span.from < m.span.to → (ms : List Message) → ((n : Message) → In n ms → WellFormed n) → Free m.location m.span ms
    → (n : Message) → In n ms → Off n m
free_off m span ms w f n i l = (λ o. f n i (sym l, o.2, o.1), λ e. ends (w n i) e)
  where
    ends : WellFormed n → m.span.to ≡ n.span.to → ⊥
    ends (inl z) e = let t : n.span.to ≡ 0 = ap (λ (q : Message). q.span.to) z in omega arith
    ends (inr s) e = f n i (sym l, omega arith, omega (arith, s.0))

pub known_more : (ms xs : List Message) (v : View) → Known ms v → Known (ms ++ xs) v
known_more ms xs v h x = elim (h x) [ inl z ↦ inl z | inr m ↦ inr (m.0, in_left m.0 ms xs m.1, m.2, m.3) ]
