-- A walk over a section's lines, step by step.
use Rattle.std.proofs.Common.{◌≡◌, ℕ, zero, suc, ◌+◌, ◌<◌, ◌≤◌, List, [], ◌∷◌, length, Ok, Err, Result, refl, ap, ◌∙◌, arith}
use Rattle.lines.specs.declared.refusal.LineRefusal.{LineRefusal}
use Rattle.lines.specs.Walks.{goes_on, walk, stays_or, reach, reached}

module _ {S F : Type 0} (step : S → List ℕ → Result (S × List ℕ) F) (shorter : (s t : S) (bs rest : List ℕ) → step s bs ≡ Ok (t, rest) → length rest < length bs) where
  same_on : (o : Result (S × List ℕ) F) (n : ℕ) (f g : S → List ℕ → Result S (LineRefusal F)) → ((t : S) (rest : List ℕ) → o ≡ Ok (t, rest) → f t rest ≡ g t rest) → goes_on o n f ≡ goes_on o n g
  same_on (Err e) n f g same = refl
  same_on (Ok p) n f g same = same p.0 p.1 refl

  -- any number that is large enough serves
  same_walk : (a b : ℕ) (s : S) (n : ℕ) (bs : List ℕ) → length bs ≤ a → length bs ≤ b → walk step a s n bs ≡ walk step b s n bs
  same_walk a b s n [] h k = refl
  same_walk zero b s n (c ∷ bs) h k = absurd (omega arith)
  same_walk (suc a) zero s n (c ∷ bs) h k = absurd (omega arith)
  same_walk (suc a) (suc b) s n (c ∷ bs) h k =
      same_on (step s (c ∷ bs)) n _ _ (λ t rest e. let l : length rest < suc (length bs) = shorter s t (c ∷ bs) rest e in same_walk a b t (n + 1) rest (omega arith) (omega arith))

  pub walk_end : (s : S) (n : ℕ) (bs : List ℕ) → length bs ≡ 0 → walk step (length bs) s n bs ≡ Ok s
  walk_end s n [] h = refl
  walk_end s n (b ∷ bs) h = absurd (omega arith)

  pub walk_stop : (s : S) (n : ℕ) (bs : List ℕ) (f : F) → 0 < length bs → step s bs ≡ Err f → walk step (length bs) s n bs ≡ Err (record { fault = f; line = n })
  walk_stop s n [] f h e = absurd (omega arith)
  walk_stop s n (b ∷ bs) f h e = ap (λ o. goes_on o n (λ t rest. walk step (length bs) t (n + 1) rest)) e

  pub walk_more : (s t : S) (n : ℕ) (bs rest : List ℕ) → 0 < length bs → step s bs ≡ Ok (t, rest) → walk step (length bs) s n bs ≡ walk step (length rest) t (n + 1) rest
  walk_more s t n [] rest h e = absurd (omega arith)
  walk_more s t n (b ∷ bs) rest h e =
      let l : length rest < suc (length bs) = shorter s t (b ∷ bs) rest e in
      ap (λ o. goes_on o n (λ u xs. walk step (length bs) u (n + 1) xs)) e ∙ same_walk (length bs) (length rest) t (n + 1) rest (omega arith) (omega arith)

  same_stay : (s : S) (o : Result (S × List ℕ) F) (f g : S → List ℕ → S) → ((t : S) (rest : List ℕ) → o ≡ Ok (t, rest) → f t rest ≡ g t rest) → stays_or s o f ≡ stays_or s o g
  same_stay s (Err e) f g same = refl
  same_stay s (Ok p) f g same = same p.0 p.1 refl

  same_reach : (a b : ℕ) (s : S) (bs : List ℕ) → length bs ≤ a → length bs ≤ b → reach step a s bs ≡ reach step b s bs
  same_reach a b s [] h k = refl
  same_reach zero b s (c ∷ bs) h k = absurd (omega arith)
  same_reach (suc a) zero s (c ∷ bs) h k = absurd (omega arith)
  same_reach (suc a) (suc b) s (c ∷ bs) h k =
      same_stay s (step s (c ∷ bs)) _ _ (λ t rest e. let l : length rest < suc (length bs) = shorter s t (c ∷ bs) rest e in same_reach a b t rest (omega arith) (omega arith))

  pub reached_end : (s : S) (bs : List ℕ) → length bs ≡ 0 → reached step s bs ≡ s
  reached_end s [] h = refl
  reached_end s (b ∷ bs) h = absurd (omega arith)

  pub reached_stop : (s : S) (bs : List ℕ) (f : F) → step s bs ≡ Err f → reached step s bs ≡ s
  reached_stop s [] f e = refl
  reached_stop s (b ∷ bs) f e = ap (λ o. stays_or s o (λ t rest. reach step (length bs) t rest)) e

  pub reached_more : (s t : S) (bs rest : List ℕ) → 0 < length bs → step s bs ≡ Ok (t, rest) → reached step s bs ≡ reached step t rest
  reached_more s t [] rest h e = absurd (omega arith)
  reached_more s t (b ∷ bs) rest h e =
      let l : length rest < suc (length bs) = shorter s t (b ∷ bs) rest e in
      ap (λ o. stays_or s o (λ u xs. reach step (length bs) u xs)) e ∙ same_reach (length bs) (length rest) t rest (omega arith) (omega arith)
