-- What one turn of the head's loops keeps.
use Rattle.std.proofs.Common.{◌≡◌, ℕ, zero, suc, ◌+◌, ◌-◌, ◌<◌, ◌≤◌, Bool, true, false, cond, eqb, List, [], ◌∷◌, ◌++◌, length, get_or, drop, Some, Ok, Err, sym, ap, ◌∙◌, inl, inr, arith, eq-eqb, ne_eqb}
use Rattle.std.proofs.lemmas.List.{at_drop_more, length-drop}
use Rattle.std.proofs.lemmas.Bool.{cases_eq, and_parts, eqb-true, leb-true}
use Rattle.lines.specs.declared.reader.LineFault.{LineFault}
use Rattle.lines.specs.Families.{reads}
use Rattle.jobs.specs.declared.section.Section.{Section}
use Rattle.jobs.specs.Sections.{section_lines, lies, none_left, first_wrong}
use Rattle.jobs.specs.Heads.{and_section, sections_from}

sections_step : (c n : ℕ) (ss : List Section) (bs : List ℕ) → 0 < c → sections_from c n ss bs ≡ and_section (reads section_lines bs) n (λ s rest. sections_from (c - 1) (n + 1) (ss ++ (s ∷ [])) rest)
sections_step zero n ss bs h = absurd (omega arith)
sections_step (suc c) n ss bs h = let less : suc c - 1 ≡ c = omega arith in ap (λ m. and_section (reads section_lines bs) n (λ s rest. sections_from m (n + 1) (ss ++ (s ∷ [])) rest)) (sym less)

pub sections_stop : (c n : ℕ) (ss : List Section) (bs : List ℕ) (f : LineFault) → 0 < c → reads section_lines bs ≡ Err f → sections_from c n ss bs ≡ Err (record { fault = f; line = n })
sections_stop c n ss bs f h e = sections_step c n ss bs h ∙ rw e

pub sections_more : (c n : ℕ) (ss : List Section) (bs : List ℕ) (s : Section) (rest : List ℕ) → 0 < c → reads section_lines bs ≡ Ok (s, rest) → sections_from c n ss bs ≡ sections_from (c - 1) (n + 1) (ss ++ (s ∷ [])) rest
sections_more c n ss bs s rest h e = sections_step c n ss bs h ∙ rw e

pub sections_end : (c n : ℕ) (ss : List Section) (bs : List ℕ) → c ≡ 0 → sections_from c n ss bs ≡ Ok (ss, bs)
sections_end c n ss bs e = ap (λ m. sections_from m n ss bs) e

-- whether none is left, by the count
none_by : (ss : List Section) (n : ℕ) → length ss ≡ n → none_left ss ≡ eqb n 0
none_by [] n e = sym (eq-eqb n 0 (omega arith))
none_by (s ∷ ss) n e = sym (ne_eqb n 0 (λ z. omega arith))

module _ (ss : List Section) (k at end : ℕ) (d : Section) (h : k < length ss) (room : at ≤ end) where
  abbrev here : Section
  here = get_or ss k d

  wrong_step : first_wrong k at (drop k ss) end ≡ cond (lies at here (none_left (drop (k + 1) ss)) end) (first_wrong (k + 1) (at + here.length) (drop (k + 1) ss) end) (Some k)
  wrong_step = at_drop_more (λ xs. first_wrong k at xs end) ss k d h

  is_last : k + 1 ≡ length ss → none_left (drop (k + 1) ss) ≡ true
  is_last e = none_by (drop (k + 1) ss) 0 (length-drop (k + 1) ss ∙ (omega arith))

  not_last : (k + 1 ≡ length ss → ⊥) → none_left (drop (k + 1) ss) ≡ false
  not_last e = none_by (drop (k + 1) ss) (length ss - (k + 1)) (length-drop (k + 1) ss) ∙ ne_eqb (length ss - (k + 1)) 0 (λ z. e (omega arith))

  same_last : (last : Bool) → last ≡ eqb (k + 1) (length ss) → none_left (drop (k + 1) ss) ≡ last
  same_last last l = elim (cases_eq (k + 1) (length ss)) [
    | inl e ↦ is_last e ∙ sym (l ∙ eq-eqb (k + 1) (length ss) e)
    | inr e ↦ not_last e ∙ sym (l ∙ ne_eqb (k + 1) (length ss) e)
  ]

  pub wrong_stop : (last : Bool) → last ≡ eqb (k + 1) (length ss) → lies at here last end ≡ false → first_wrong k at (drop k ss) end ≡ Some k
  wrong_stop last l e = wrong_step ∙ rw (same_last last l, e)

  pub wrong_more : (last : Bool) → last ≡ eqb (k + 1) (length ss) → lies at here last end ≡ true → first_wrong k at (drop k ss) end ≡ first_wrong (k + 1) (at + here.length) (drop (k + 1) ss) end
  wrong_more last l e = wrong_step ∙ rw (same_last last l, e)

pub lies_within : (at : ℕ) (s : Section) (last : Bool) (end : ℕ) → lies at s last end ≡ true → at + s.length ≤ end
lies_within at s true end e = omega (arith, eqb-true (at + s.length) end (and_parts _ _ e).1)
lies_within at s false end e = leb-true (at + s.length) end (and_parts _ _ e).1
