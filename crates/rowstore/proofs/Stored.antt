-- An index that has each row of the messages, and how it goes on.
use Rattle.std.proofs.Common.{◌≡◌, ℕ, zero, suc, ◌<◌, Bool, true, false, cond, eqb, List, [], ◌∷◌, ◌++◌, length, replicate, get_or, set, take, drop, Ok, Err, Result, sym, refl, ap, ◌∙◌, inl, inr, arith}
use Rattle.std.specs.Prelude.{nat_lt}
use Rattle.std.proofs.lemmas.List.{get_or-set_same, get_or-set_other, get_or-replicate, ext_get_or, set-get_or}
use Rattle.std.proofs.lemmas.Bool.{cond-true, cond-false, eq-eqb, ne_eqb, le-ltb, cases_Bool, cases_eq, cases_lt}
use Rattle.stores.specs.declared.kept.StoreFault.{StoreFault}
use Rattle.stores.specs.declared.kept.StoreFault.TheVariants.{Full}
use Rattle.stores.specs.declared.message.Message.{Message}
use Rattle.stores.specs.Memory.{add_answer}
use Rattle.rowstore.specs.declared.entry.Entry.{Entry}
use Rattle.rowstore.specs.declared.index.Index.{Index}
use Rattle.rowstore.specs.Entries.{placed, earlier}
use Rattle.rowstore.specs.Tables.{row_of, row_at, entry_of, empty, with_message, only_earlier_in, only_earlier}
use Rattle.rowstore.specs.Ordered.{ordered, Indexed}
use Rattle.rowstore.proofs.Orders.{length_ordered, ordered_push, kept, kept_drop}

kept_here : (n : ℕ) (rows : List (List Entry)) (r : ℕ) → get_or (set rows r (earlier n (get_or rows r []))) r [] ≡ earlier n (get_or rows r [])
kept_here n [] r = refl
kept_here n (es ∷ rows) zero = refl
kept_here n (es ∷ rows) (suc r) = kept_here n rows r

row_kept_in : (n y r : ℕ) (b : Index) → row_at (only_earlier_in r n b) y ≡ cond (eqb r y) (earlier n (row_at b y)) (row_at b y)
row_kept_in n y r b = elim (cases_eq r y) [
  | inl e ↦
      ap (row_at (only_earlier_in r n b)) (sym e) ∙ kept_here n b.table.rows r ∙ ap (λ z. earlier n (row_at b z)) e ∙ sym (cond-true _ _ _ (eq-eqb r y e))
  | inr ne ↦
      get_or-set_other b.table.rows r y (earlier n (row_at b r)) [] (λ e. ne (sym e)) ∙ sym (cond-false _ _ _ (ne_eqb r y ne))
]

earlier_twice : (n : ℕ) (es : List Entry) → earlier n (earlier n es) ≡ earlier n es
earlier_twice n [] = refl
earlier_twice n (e ∷ es) = elim (cases_Bool (nat_lt e.number n)) [
  | inl y ↦
      let here : earlier n (e ∷ es) ≡ e ∷ earlier n es = cond-true (nat_lt e.number n) _ _ y in
      ap (earlier n) here ∙ cond-true (nat_lt e.number n) _ _ y ∙ ap (λ (l : List Entry). e ∷ l) (earlier_twice n es) ∙ sym here
  | inr f ↦
      let here : earlier n (e ∷ es) ≡ earlier n es = cond-false (nat_lt e.number n) _ _ f in
      ap (earlier n) here ∙ earlier_twice n es ∙ sym here
]

-- the rows that are marked hold only entries that arrived before n
abbrev pub Done : ℕ → List Bool → Index → Type 0
Done n done b = (y : ℕ) → get_or done y false ≡ true → earlier n (row_at b y) ≡ row_at b y

abbrev index_of : List (List Entry) → Index
index_of w = record { table = record { rows = w } }

-- such a row need not be gone through
pub done_once : (n y : ℕ) (b : Index) → earlier n (row_at b y) ≡ row_at b y → only_earlier_in y n b ≡ b
done_once n y b h =
    ap index_of (ap (set b.table.rows y) h ∙ set-get_or b.table.rows y [])

-- and one that was gone through is such a row, as are those that were
pub done_more : (n r : ℕ) (done : List Bool) (b : Index) → Done n done b → Done n (set done r true) (only_earlier_in r n b)
done_more n r done b h y e = elim (cases_eq r y) [
  | inl same ↦
      let here : row_at (only_earlier_in r n b) y ≡ earlier n (row_at b y) = row_kept_in n y r b ∙ cond-true _ _ _ (eq-eqb r y same) in
      ap (earlier n) here ∙ earlier_twice n (row_at b y) ∙ sym here
  | inr other ↦
      let here : row_at (only_earlier_in r n b) y ≡ row_at b y = row_kept_in n y r b ∙ cond-false _ _ _ (ne_eqb r y other) in
      let marked : get_or done y false ≡ true = sym (get_or-set_other done r y true false (λ q. other (sym q))) ∙ e in
      ap (earlier n) here ∙ h y marked ∙ sym here
]

row_kept : (n y : ℕ) (ms : List Message) (b : Index) → row_at (only_earlier n ms b) y ≡ kept y n ms (row_at b y)
row_kept n y [] b = refl
row_kept n y (m ∷ ms) b =
    row_kept n y ms (only_earlier_in (row_of m.location) n b) ∙ ap (kept y n ms) (row_kept_in n y (row_of m.location) b)

module _ (ms : List Message) (b : Index) (indexed : Indexed ms b) where
  -- a row has room while the list is shorter than it
  pub row_room : length ms < 64 → (x : ℕ) → length (row_at b (row_of x)) < 64
  row_room less x =
      let l = ap length (indexed (row_of x) (omega arith)) in
      let k = length_ordered (row_of x) ms in
      omega arith

  module _ (m : Message) (nine : length b.table.rows ≡ 9) where
    abbrev r : ℕ
    r = row_of m.location

    abbrev more : List Entry
    more = placed (entry_of m (length ms)) (row_at b r)

    pub indexed_after : Indexed (ms ++ m ∷ []) (with_message b m (length ms))
    indexed_after y h = elim (cases_eq r y) [
      | inl e ↦
          ap (row_at (with_message b m (length ms))) (sym e) ∙ get_or-set_same b.table.rows r more [] (omega arith) ∙ ap (placed (entry_of m (length ms))) (indexed r (omega arith)) ∙ ap (λ z. placed (entry_of m (length ms)) (ordered z ms)) e ∙ sym (cond-true _ _ _ (eq-eqb r y e)) ∙ sym (ordered_push y ms m)
      | inr ne ↦
          get_or-set_other b.table.rows r y more [] (λ e. ne (sym e)) ∙ indexed y h ∙ sym (cond-false _ _ _ (ne_eqb r y ne)) ∙ sym (ordered_push y ms m)
    ]

  pub indexed_kept : (n : ℕ) → Indexed (take n ms) (only_earlier n (drop n ms) b)
  indexed_kept n y h = row_kept n y (drop n ms) b ∙ ap (kept y n (drop n ms)) (indexed y h) ∙ kept_drop y n ms

-- an arrival that is answered by Ok had room
pub had_room : (ms : List Message) (r : Result Unit StoreFault) → r ≡ Ok tt → r ≡ add_answer 64 ms → length ms < 64
had_room ms r ok is = elim (cases_lt (length ms) 64) [
  | inl h ↦ h
  | inr h ↦ let full : add_answer 64 ms ≡ Err Full = cond-false _ _ _ (le-ltb (length ms) 64 h) in absurd (cc)
]

-- nine rows with nothing in them
pub is_empty : (rows : List (List Entry)) → length rows ≡ 9 → ((y : ℕ) → y < 9 → get_or rows y [] ≡ []) → ◌≡◌ {A = Index} (record { table = record { rows = rows } }) empty
is_empty rows l h =
    ap (λ (w : List (List Entry)). record { table = record { rows = w } }) (ext_get_or [] rows (replicate 9 []) l (λ y k. h y (omega arith) ∙ sym (get_or-replicate 9 y [] [] (omega arith))))
