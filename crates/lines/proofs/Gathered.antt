-- What one turn of the fields' reader keeps.
use Rattle.std.specs.Bool.{then_some}
use Rattle.bounded.specs.Bounds.{push_within}
use Rattle.std.proofs.lemmas.Bool.{lt-ltb}
use Rattle.std.proofs.Common.{◌≡◌, ℕ, ◌+◌, ◌<◌, ◌≤◌, Bool, true, false, List, [], ◌∷◌, ◌++◌, length, get_or, drop, Some, None, Option, sym, refl, ap, ◌∙◌, append_assoc, arith}
use Rattle.std.proofs.lemmas.List.{at_drop_more, at_drop_all, append-nil, length_push}
use Rattle.lines.specs.Fields.{field, fields, with_first, and_then}

abbrev pub both : Option (List ℕ) → Option (List ℕ) → Option (List ℕ)
both None b = None
both (Some a) None = None
both (Some a) (Some b) = Some (a ++ b)

abbrev pub alone : Option ℕ → Option (List ℕ)
alone None = None
alone (Some v) = Some (v ∷ [])

-- fields that are read, after numbers that were
abbrev pub prepend : Option (List ℕ) → Option (Option (List ℕ) × List ℕ) → Option (Option (List ℕ) × List ℕ)
prepend a None = None
prepend a (Some g) = Some (both a g.0, g.1)

both_first : (a : Option (List ℕ)) (v : Option ℕ) (b : Option (List ℕ)) → both a (with_first v b) ≡ both (both a (alone v)) b
both_first None v b = refl
both_first (Some a) None b = refl
both_first (Some a) (Some v) None = refl
both_first (Some a) (Some v) (Some b) = ap Some (sym (append_assoc a (v ∷ []) b))

both_nil : (a : Option (List ℕ)) → both a (Some []) ≡ a
both_nil None = refl
both_nil (Some a) = ap Some (append-nil a)

prepend_more : (a : Option (List ℕ)) (v : Option ℕ) (f : Option (Option (List ℕ) × List ℕ)) → prepend a (and_then f (λ g. Some (with_first v g.0, g.1))) ≡ prepend (both a (alone v)) f
prepend_more a v None = refl
prepend_more a v (Some g) = ap (λ b. Some (b, g.1)) (both_first a v g.0)

module _ (ms : List ℕ) (k : ℕ) (h : k < length ms) (a : Option (List ℕ)) (bs : List ℕ) where
  fields_step : prepend a (fields (drop k ms) bs) ≡ prepend a (and_then (field (get_or ms k 0) bs) (λ f. and_then (fields (drop (k + 1) ms) f.1) (λ g. Some (with_first f.0 g.0, g.1))))
  fields_step = at_drop_more (λ xs. prepend a (fields xs bs)) ms k 0 h

  pub fields_more : (v : Option ℕ) (rest : List ℕ) → field (get_or ms k 0) bs ≡ Some (v, rest) → prepend a (fields (drop k ms) bs) ≡ prepend (both a (alone v)) (fields (drop (k + 1) ms) rest)
  fields_more v rest e = fields_step ∙ rw e (prepend_more a v (fields (drop (k + 1) ms) rest))

  pub fields_stop : field (get_or ms k 0) bs ≡ None → prepend a (fields (drop k ms) bs) ≡ None
  fields_stop e = fields_step ∙ rw e

pub fields_end : (ms : List ℕ) (k : ℕ) → length ms ≤ k → (a : Option (List ℕ)) (bs : List ℕ) → prepend a (fields (drop k ms) bs) ≡ Some (a, bs)
fields_end ms k h a bs = at_drop_all (λ xs. prepend a (fields xs bs)) ms k h ∙ ap (λ b. Some (b, bs)) (both_nil a)

more_in_range : (within : Bool) (vs : List ℕ) (v : ℕ) → then_some within (vs ++ v ∷ []) ≡ both (then_some within vs) (alone (Some v))
more_in_range true vs v = refl
more_in_range false vs v = refl

-- one number more, where there is room for it
pub more_gathered : (k : ℕ) (within : Bool) (vs : List ℕ) (v : ℕ) → length vs ≤ k → k < 6 → (length (push_within 6 vs v) ≤ k + 1) × (then_some within (push_within 6 vs v) ≡ both (then_some within vs) (alone (Some v)))
more_gathered k within vs v few room =
    let fits = lt-ltb (length vs) 6 (omega arith) in
    rw fits (omega (arith, length_push vs v), more_in_range within vs v)

pub out_of_range : (a : Option (List ℕ)) → None ≡ both a None
out_of_range None = refl
out_of_range (Some vs) = refl
