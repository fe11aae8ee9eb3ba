-- Making a run.
use Rattle.std.proofs.Common.{◌≡◌, ℕ, ◌<◌, ◌≤◌, Bool, true, false, cond, leb, min, List, [], ◌∷◌, length, get_or, Ok, Err, Result, sym, refl, ap, ◌∙◌, arith}
use Rattle.std.proofs.lemmas.Bool.{le-leb, lt-leb, ltb-false, cond-true, cond-false}
use Rattle.lines.specs.Scopes.{in_scope}
use Rattle.stores.specs.declared.kept.StoreFault.{StoreFault}
use Rattle.stores.specs.declared.kept.StoreFault.TheVariants.{Full}
use Rattle.stores.specs.declared.message.Message.{Message}
use Rattle.stores.specs.Memory.{add_answer, added}
use Rattle.languages.specs.Behaviours.{Behaviour}
use Rattle.rules.specs.declared.fault.StepFault.TheVariants.{Store}
use Rattle.rules.specs.Rules.{went, refused, initials, new_run, made}
use Rattle.rules.proofs.Lawfulness.{initials_length}

-- the one fault of a store
pub only_full : (f : StoreFault) → f ≡ Full
only_full Full = refl

pub refused_answer : (b : Bool) (e : StoreFault) → ◌≡◌ {A = Result Unit StoreFault} (cond b (Ok tt) (Err Full)) (Err e) → b ≡ false
refused_answer true e h = cc
refused_answer false e h = refl

pub room_answer : (b : Bool) (u : Unit {0}) → ◌≡◌ {A = Result Unit StoreFault} (cond b (Ok tt) (Err Full)) (Ok u) → b ≡ true
room_answer true u h = refl
room_answer false u h = cc

module _ (capacity x : ℕ) (ms : List Message) (a : Result Unit StoreFault) (held : ms ≡ initials x) (asked : a ≡ add_answer capacity ms) where
  -- the store is full too early
  pub fill_full : (l : ℕ) (e : StoreFault) → x < l → a ≡ Err e → leb l capacity ≡ false
  fill_full l e h ea =
      let n = ap length held ∙ initials_length x in
      let q = ltb-false (length ms) capacity (refused_answer _ e (sym asked ∙ ea)) in
      lt-leb l capacity (omega arith)

  -- and is left with the messages that it had
  pub fill_left : (l : ℕ) (m : Message) (e : StoreFault) → x < l → a ≡ Err e → length ms ≤ capacity → added capacity m ms ≡ initials (min l capacity)
  fill_left l m e h ea bound =
      let n = ap length held ∙ initials_length x in
      let full = refused_answer _ e (sym asked ∙ ea) in
      let q = ltb-false (length ms) capacity full in
      let all : x ≡ min l capacity = omega arith in
      cond-false _ _ _ full ∙ held ∙ ap initials all

pub fill_done : (capacity x l : ℕ) (ms : List Message) → ms ≡ initials x → x ≡ l → length ms ≤ capacity → leb l capacity ≡ true
fill_done capacity x l ms held e h = let n = ap length held ∙ initials_length x in le-leb l capacity (omega arith)

module _ (bs : List Behaviour) (n l capacity : ℕ) (range : in_scope n l ≡ true) where
  pub made_full : leb l capacity ≡ false → made bs n l capacity ≡ refused (Store Full)
  made_full h = cond-true _ _ _ range ∙ cond-false _ _ _ h

  pub made_went : leb l capacity ≡ true → made bs n l capacity ≡ went (new_run bs n l capacity)
  made_went h = cond-true _ _ _ range ∙ cond-true _ _ _ h

-- a list of four, by its elements
pub four_is : {A : Type 0} (xs : List A) (a b c d : A) → length xs ≡ 4 → get_or xs 0 a ∷ get_or xs 1 b ∷ get_or xs 2 c ∷ get_or xs 3 d ∷ [] ≡ xs
four_is [] a b c d l = absurd (omega arith)
four_is (w ∷ []) a b c d l = absurd (omega arith)
four_is (w ∷ x ∷ []) a b c d l = absurd (omega arith)
four_is (w ∷ x ∷ y ∷ []) a b c d l = absurd (omega arith)
four_is (w ∷ x ∷ y ∷ z ∷ []) a b c d l = refl
four_is (w ∷ x ∷ y ∷ z ∷ v ∷ vs) a b c d l = absurd (omega arith)
