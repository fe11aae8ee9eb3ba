-- A chain of tests, each of which refuses for a reason, and what it says of all the reasons. Assumes nothing.
use Rattle.std.proofs.Common.{◌≡◌, ◌<◌, ◌≤◌, Bool, true, false, cond, ltb, ◌&&◌, ◌⊎◌, List, [], ◌∷◌, Some, Option, sym, refl, ap, ◌∙◌, subst, inl, inr, arith}
use Rattle.std.specs.List.{list_all}
use Rattle.std.proofs.lemmas.Bool.{and_parts, ltb-true}
use Rattle.rules.specs.declared.fault.StepFault.{StepFault}
use Rattle.rules.specs.Rules.{Tried, went, refused, unless}
use Rattle.rules.specs.Reasons.{row}

-- the fault is one of these
abbrev pub Among : StepFault → List StepFault → Type 0
Among e [] = ⊥
Among e (f ∷ fs) = (e ≡ f) ⊎ Among e fs

-- the rows rise
abbrev pub rising : List StepFault → Bool
rising [] = true
rising (e ∷ es) = list_all (λ f. ltb (row e) (row f)) es && rising es

above_all : (e f : StepFault) (es : List StepFault) → list_all (λ g. ltb (row e) (row g)) es ≡ true → Among f es → row e < row f
above_all e f [] h i = absurd i
above_all e f (g ∷ gs) h (inl s) = subst (λ (x : StepFault). row e < row x) (sym s) (ltb-true (row e) (row g) (and_parts _ _ h).0)
above_all e f (g ∷ gs) h (inr i) = above_all e f gs (and_parts _ _ h).1 i

-- of faults in rising rows, two in one row are the same
pub one_row : (e f : StepFault) (es : List StepFault) → rising es ≡ true → Among e es → Among f es → row e ≡ row f → e ≡ f
one_row e f [] h i j s = absurd i
one_row e f (g ∷ gs) h (inl a) (inl b) s = a ∙ sym b
one_row e f (g ∷ gs) h (inl a) (inr j) s =
    let l = above_all g f gs (and_parts _ _ h).0 j in let q = ap row a in absurd (omega arith)
one_row e f (g ∷ gs) h (inr i) (inl b) s =
    let l = above_all g e gs (and_parts _ _ h).0 i in let q = ap row b in absurd (omega arith)
one_row e f (g ∷ gs) h (inr i) (inr j) s = one_row e f gs (and_parts _ _ h).1 i j s

-- e is a reason, and no reason stands in a row above it
abbrev pub First : (StepFault → Type 0) → StepFault → Type 0
First B e = B e × ((f : StepFault) → B f → row e ≤ row f)

-- what an answer says of the reasons
pub data Verdict (B : StepFault → Type 0) {Y : Type 0} : Tried Y → Type 0 where
  no_reason : {y : Y} → ((e : StepFault) → B e → ⊥) → Verdict B (went y)
  first_reason : {e : StepFault} → First B e → Verdict B (refused e)

-- the reasons that are left are among these, whose rows rise
pub record Left (B : StepFault → Type 0) (es : List StepFault) : Type 0 where
  pub among : (e : StepFault) → B e → Among e es
  pub rows : rising es ≡ true

module _ {B : StepFault → Type 0} {e : StepFault} {es : List StepFault} (left : Left B (e ∷ es)) where
  pub skip : (B e → ⊥) → Left B es
  skip fails = record {
    among = λ f b. elim (left.among f b) [ inl s ↦ absurd (fails (subst B s b)) | inr i ↦ i ];
    rows = (and_parts _ _ left.rows).1;
  }

  pub stop : {Y : Type 0} → B e → Verdict B {Y = Y} (refused e)
  stop b = first_reason (
    b,
    λ f c. elim (left.among f c) [
      | inl s ↦ let q = ap row s in omega arith
      | inr i ↦ let l = above_all e f es (and_parts _ _ left.rows).0 i in omega arith
    ],
  )

  -- a test that refuses where it holds
  pub tested : {Y : Type 0} {t : Tried Y} (b : Bool) → (b ≡ true → B e) → (b ≡ false → B e → ⊥)
      → (b ≡ false → Left B es → Verdict B t) → Verdict B (cond b (refused e) t)
  tested true holds fails rest = stop (holds refl)
  tested false holds fails rest = rest refl (skip (fails refl))

  -- a test that refuses where it does not hold
  pub needed : {Y : Type 0} {t : Tried Y} (b : Bool) → (b ≡ false → B e) → (b ≡ true → B e → ⊥)
      → (b ≡ true → Left B es → Verdict B t) → Verdict B (cond b t (refused e))
  needed true holds fails rest = rest refl (skip (fails refl))
  needed false holds fails rest = stop (holds refl)

  -- the same two, inside `unless`
  pub tested_first : {Y : Type 0} (b : Bool) (o : Option StepFault) (t : Tried Y)
      → (b ≡ true → B e) → (b ≡ false → B e → ⊥) → (b ≡ false → Left B es → Verdict B (unless o t))
      → Verdict B (unless (cond b (Some e) o) t)
  tested_first true o t holds fails rest = stop (holds refl)
  tested_first false o t holds fails rest = rest refl (skip (fails refl))

  pub needed_first : {Y : Type 0} (b : Bool) (o : Option StepFault) (t : Tried Y)
      → (b ≡ false → B e) → (b ≡ true → B e → ⊥) → (b ≡ true → Left B es → Verdict B (unless o t))
      → Verdict B (unless (cond b o (Some e)) t)
  needed_first true o t holds fails rest = rest refl (skip (fails refl))
  needed_first false o t holds fails rest = stop (holds refl)

pub nothing_left : {B : StepFault → Type 0} {Y : Type 0} {y : Y} → Left B [] → Verdict B (went y)
nothing_left left = no_reason left.among
