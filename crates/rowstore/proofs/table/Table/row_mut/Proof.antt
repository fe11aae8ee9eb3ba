-- `row_mut` lends one row, and the whole follows it, for every R and N. Assumes `Logic`.
use Rattle.std.proofs.Common.{◌≡◌, ℕ, zero, ◌+◌, ◌*◌, ◌^◌, ◌<◌, ◌≤◌, List, [], ◌∷◌, length, get_or, set, sym, refl, ap, ◌∙◌, subst, not-suc-le-zero, mul-le-mul_right, one-mul, arith, length-set, w64, MutBor}
use seplogic.Ra.Ura.{Ura}
use base.Fraction.{full_share}
use mir.Syntax.{Fn, Args, ty_array, a_type, a_number, named}
use mir.MapTy.{inst_fn}
use mir.Val.{Val, vint, vptr}
use base.Logic.{SProp, ent, emp, sep, wand, all_e, apply∗, via, fst∗, snd∗, guard_i}
use base.Fml.{Lft, GName, Share, ftrue, flft}
use prog.Memory.{Memory, size, align}
use prog.Routine.{Routine}
use prog.Wp.{Calls, Loops, WpFn, Tables}
use types.Logic.{Logic, sem}
use contract.Lifetimes.{AllOutlive}
use contract.BorrowLft.{◌⊑◌}
use contract.Monad.{Fun, fact, fact_use}
use contract.Running.{tables, tables_of}
use sound.WpLaws.{WpFn-mono}
use types.Kit.{Goal, Item, Step, ‵, raw, given, use0, ◌⊛◌, later, some, ◌$◌, ◌∵◌, !, qed, by, move, keep, use1, use2, split, split3, join, group, await, pick, rewrite, fsplit, fsplit3, fjoin, feq_l, feq_i, suffices, frame, done}
use types.Mut.{open_ref}
use types.Share.{arr_parts}
use types.Run.{stop, fld, addr, size_lit, bin, returns, enter}
use types.ByLocal.{alloc_all, pass_all, free_all, look_at, get, through, sets, is}
use denote.Exit.{yes, no}
use denote.RattleType.{RattleType, owns}
use denote.Memory.{part_at, part_of, mem, shares}
use denote.Array.{Array, Array-Lawful}
use denote.ArrayMemory.{Array-apart, Array-whole}
use denote.Index.{row, place, place_is, others, takes, puts}
use denote.Plain.{uint_vals, uint_Tells}
use denote.Ref.{MutRef, mut_vals, mut_Tells}
use denote.Builtin.{usize}
use denote.Signature.{plain, mut_ref_to}
use denote.Steps.{nothing}
use denote.Param.{param, layout, layouts, number, ArrayAt}
use denote.Param.Laws.{Laws, param_laws}
use denote.Follow.{follows, lends_Part}
use denote.Struct.Members.{Member}
use denote.Struct.CellSteps.{first_at, only_out, BackTo}
use denote.Triple.Clauses.{Clauses, closing}
use denote.Triple.Entry.{on_entry}
use denote.Triple.Spec.{Meets, triple_of}
use denote.Triple.Table.{entered}
use denote.Triple.Walked.{Stays, stay_dropped, walk_of, ends_at, walked, Goes-dropped, Goes-spent_ref, walk_Meets}
use Rattle.std.proofs.lemmas.List.{get_or_default, set-get_or}
use Rattle.rowstore.specs.declared.table.Table.{Table}
use Rattle.rowstore.specs.contracts.table.Table as T·type
use Rattle.rowstore.specs.contracts.table.Table.row_mut as F
use Rattle.rowstore.specs.contracts.table.Table.row_mut.Key.{name as #self}
use Rattle.rowstore.proofs.table.Table.row_mut.Statement as stated
use Rattle.rowstore.proofs.table.Table.row_mut.Code as code

head : {X : Type 0} (xs : List X) → 0 < length xs → X
head [] h = absurd (not-suc-le-zero h)
head (x ∷ xs) h = x

-- the padding around the array is no part of it
inner : (p e q : ℕ) → zero + p + e + q < 2 ^ 63 → e < 2 ^ 63
inner p e q h = omega arith

asked : {M : Type 1} (𝓤 : Ura M) (φ ψ : Type 0) (P F F' : SProp 𝓤) {Q : SProp 𝓤} → (φ → ψ → ent 𝓤 P Q) → ent 𝓤 (sep 𝓤 P (sep 𝓤 F (sep 𝓤 F' (sep 𝓤 (fact 𝓤 φ) (fact 𝓤 ψ))))) Q
asked 𝓤 φ ψ P F F' k =
    let Both : SProp 𝓤 = sep 𝓤 (fact 𝓤 φ) (fact 𝓤 ψ) in
    let All : SProp 𝓤 = sep 𝓤 F (sep 𝓤 F' Both) in
    let both = via 𝓤 (sep 𝓤 F' Both) (via 𝓤 All (snd∗ 𝓤 P All) (snd∗ 𝓤 F (sep 𝓤 F' Both))) (snd∗ 𝓤 F' Both) in
    fact_use 𝓤 φ (via 𝓤 Both both (fst∗ 𝓤 (fact 𝓤 φ) (fact 𝓤 ψ))) (λ x. fact_use 𝓤 ψ (via 𝓤 Both both (snd∗ 𝓤 (fact 𝓤 φ) (fact 𝓤 ψ))) (λ y. via 𝓤 P (fst∗ 𝓤 P All) (k x y)))

-- a fact is an item
told : {M : Type 1} {𝓤 : Ura M} {𝓛 : Logic 𝓤} {K : Type 0} {Γ : List (Item 𝓤)} {G : Goal 𝓤 𝓛.H} → K → {φ : Type 0} → φ → Step K 𝓛 (given φ (‵ ftrue) ∷ Γ) G Γ G
told {𝓤 = 𝓤} {𝓛 = 𝓛} t {φ} x = use0 𝓛 (given φ (‵ ftrue)) (guard_i 𝓤 φ (emp 𝓤) x)

module _ (X : RattleType) (n : ℕ) where
  abbrev args : Args
  args = layouts (a_type ∷ a_number ∷ []) (X, (number n, tt))

  abbrev fn' : Fn
  fn' = inst_fn args code.function

  abbrev R : RattleType
  R = param 0 X

  abbrev T : RattleType
  T = T·type.the_row R (param 1 (number n))

  abbrev D : Type 0
  D = Table X.Denot n

  abbrev s : ℕ
  s = size (layout X)

  abbrev cell : Member
  cell = record { row = ArrayAt R (param 1 (number n)); ty = ty_array (layout X) n }

  abbrev stayed : Stays (F.ended X (number n)).signature.params (F.ended X (number n)).kept
  stayed = (stay_dropped (mut_ref_to (0 ∷ []) tt (plain (λ _. T))) no, (stay_dropped (plain (λ _. usize)) yes, tt))

module _ (X : RattleType) (n : ℕ) (L : Laws X) {M : Type 1} {𝓤 : Ura M} (𝓛 : Logic 𝓤) (b o : ℕ) where
  -- the table again, of any array in the place of its own
  abbrev Back : SProp 𝓤
  Back = BackTo 𝓛 (T·type.the_type (R X n) (param 1 (number n))).name [] (R X n ∷ param 1 (number n) ∷ []) (cell X n) (λ ys. sem 𝓛 (part_at (T X n) full_share (record { rows = ys }) b o)) b o

  opened : (h : D X n) → ent 𝓤 (sem 𝓛 (part_at (T X n) full_share h b o)) (sep 𝓤 (sem 𝓛 (part_at (Array (R X n) n) full_share h.rows b o)) Back)
  unfolding part_of
  opened h = only_out 𝓛 (T·type.the_type (R X n) (param 1 (number n))).name [] (R X n ∷ param 1 (number n) ∷ []) (cell X n) (record { typed = (Array-Lawful 𝓛 (R X n) ((param_laws 0 X L).lawful 𝓛) n).typed }) b o h.rows

  module _ (xs : List X.Denot) (i : ℕ) (lt : i < n) (long : length xs ≡ n) where
    abbrev Rest : SProp 𝓤
    Rest = sep 𝓤 (sem 𝓛 (others (shares (R X n)) full_share xs i b o)) Back

    closed : (w : X.Denot) → ent 𝓤 (sep 𝓤 (sem 𝓛 ((mem (R X n)).own_at w b (i * s X n + o))) Rest) (sem 𝓛 ((mem (T X n)).own_at (record { rows = set xs i w }) b o))
    closed w =
        let ys : List X.Denot = set xs i w in
        qed 𝓛 (‵ (part_at (R X n) full_share w b (i * s X n + o)) ∷ (‵ (others (shares (R X n)) full_share xs i b o) ⊛ raw Back) ∷ []) ∵
        rewrite ! 0 (λ (k : ℕ). ‵ (part_at (R X n) full_share w b k)) (sym (place_is (s X n) o i)) refl $ move ! (1 ∷ []) $ split ! $ move ! (2 ∷ 0 ∷ []) $
        use2 𝓛 (‵ (row (R X n) full_share ys b o)) (puts (shares (R X n)) full_share 𝓛 xs i w b o (subst (λ (k : ℕ). i < k) (sym long) lt)) $
        feq_i ! ℕ (length ys) n (length-set xs i w ∙ long) $ fjoin ! $
        use1 𝓛 (‵ (part_at (Array (R X n) n) full_share ys b o)) (Array-whole 𝓛 (R X n) full_share n ys b o) $ move ! (1 ∷ []) $
        use1 𝓛 (raw (wand 𝓤 (sem 𝓛 (part_at (Array (R X n) n) full_share ys b o)) (sem 𝓛 (part_at (T X n) full_share (record { rows = ys }) b o))))
        (all_e 𝓤 (λ (zs : List X.Denot). wand 𝓤 (sem 𝓛 (part_at (Array (R X n) n) full_share zs b o)) (sem 𝓛 (part_at (T X n) full_share (record { rows = zs }) b o))) ys) $ move ! (1 ∷ 0 ∷ []) $
        by ! (apply∗ 𝓤 (sem 𝓛 (part_at (Array (R X n) n) full_share ys b o)) (sem 𝓛 (part_at (T X n) full_share (record { rows = ys }) b o)))

module _ (X : RattleType) (n : ℕ) (L : Laws X) {M : Type 1} {𝓤 : Ura M} (𝓛 : Logic 𝓤) (at_mem : Memory → SProp 𝓤) (run : Routine → Fun 𝓤) where
  open 𝓛 use {H, A}

  abbrev clauses : Clauses 𝓤 (F.ended X (number n))
  clauses = F.clauses X (number n) 𝓛 at_mem run

  module _ (C : Calls 𝓤 H) (Λ : Loops 𝓤 H) (κ κT κN : Lft) (q qT qN : Share) (bd : AllOutlive 3 (F.ended X (number n)).signature.outlives (κ, (κT, (κN, tt)))) (b o : ℕ) (γ : GName) (h : D X n) (i : ℕ) (fi : i < 2 ^ 64) where
    abbrev self : MutBor (D X n)
    self = record { ref_ptr = (b, o); ghost_name = γ; now = h }

    abbrev bound : (walk_of 𝓛 (F.ended X (number n)) (stayed X n) clauses).Ghost
    bound = (((κ, (κT, (κN, tt))), (q, (qT, (qN, tt))), bd, (self, (i, tt)), (vptr b o ∷ [], (vint w64 i ∷ [], tt))), tt)

    abbrev Post : Val → SProp 𝓤
    Post = (walk_of 𝓛 (F.ended X (number n)) (stayed X n) clauses).post bound

    abbrev p : ℕ
    p = i * s X n + o

    abbrev put : X.Denot → D X n
    put w = record { rows = set h.rows i w }

    exits : (x : X.Denot) → ((d : X.Denot) → x ≡ get_or h.rows i d) → set h.rows i x ≡ h.rows → length h.rows ≡ n → (γ' : GName)
        → ent 𝓤 (sep 𝓤 (sem 𝓛 ((MutRef (named 0) κ (R X n)).own_val (record { ref_ptr = (b, p); ghost_name = γ'; now = x }) (vptr b p ∷ []))) (sep 𝓤 (A.lft κ q) (sep 𝓤 (A.lft κT qT) (sep 𝓤 (A.lft κN qN) (sem 𝓛 (follows (T X n) (R X n) γ γ' put)))))) (Post (vptr b p))
    exits x e f long γ' =
        qed 𝓛 (‵ ((MutRef (named 0) κ (R X n)).own_val (record { ref_ptr = (b, p); ghost_name = γ'; now = x }) (vptr b p ∷ [])) ∷ ‵ (flft κ q) ∷ ‵ (flft κT qT) ∷ ‵ (flft κN qN) ∷ ‵ (follows (T X n) (R X n) γ γ' put) ∷ []) ∵
        suffices ! _ (ends_at 𝓛 (F.ended X (number n)) (stayed X n) clauses bound (vptr b p) (record { ref_ptr = (b, p); ghost_name = γ'; now = x }) (tt, (tt, tt)) (tt, (tt, tt))) $
        nothing ! $ nothing ! $ fjoin ! $ nothing ! $ fjoin ! $ join ! $ nothing ! $ move ! (4 ∷ 0 ∷ []) $ join ! $ move ! (3 ∷ 0 ∷ []) $ join ! $ move ! (2 ∷ 0 ∷ []) $ join ! $ join ! $ frame ! $
        told ! long $ told ! f $ told ! e $ move ! (3 ∷ []) $ done !

    walk : size (layout (T X n)) < 2 ^ 63 → i < n
        → ent 𝓤 (on_entry 𝓛 (F.ended X (number n)).signature (κ, (κT, (κN, tt))) (q, (qT, (qN, tt))) (self, (i, tt)) (vptr b o ∷ [], (vint w64 i ∷ [], tt))) (WpFn 𝓤 H C Λ (fn' X n) (vptr b o ∷ vint w64 i ∷ []) Post)
    walk fit lt =
        let all : n * s X n < 2 ^ 63 = inner _ (n * s X n) _ fit in
        let part : i * s X n ≤ n * s X n = mul-le-mul_right (s X n) (omega arith) in
        let once : 1 * s X n ≤ n * s X n = mul-le-mul_right (s X n) (omega arith) in
        let one : 1 * s X n ≡ s X n = one-mul (s X n) in
        let tiny : s X n < 2 ^ 64 = omega arith in
        let fm : i * s X n < 2 ^ 64 = omega arith in
        qed 𝓛 ((‵ (flft κ q) ⊛ ‵ (flft κT qT) ⊛ ‵ (flft κN qN) ⊛ ‵ ftrue) ∷ ‵ (owns (MutRef (named 0) κ (T X n) ∷ usize ∷ []) (self, (i, tt)) (vptr b o ∷ [], (vint w64 i ∷ [], tt))) ∷ []) ∵
        split3 ! $ move ! (2 ∷ []) $ split ! $ move ! (4 ∷ []) $ fsplit ! $ fsplit3 ! $ keep ! (1 ∷ 2 ∷ 6 ∷ 7 ∷ 4 ∷ []) $
        enter ! C Λ (fn' X n) (vptr b o ∷ vint w64 i ∷ []) _ $
        alloc_all ! (λ l. pass_all ! refl ((tt, tt), ((tt, record { fits = fi }), tt)) $
        sets ! (bin ! (get ! refl) (size_lit ! (record { fits = tiny })) (record { fits = fm })) refl (tt, record { fits = fm }) $
        sets ! (is ! (addr ! (through ! refl (fld ! refl (stop !)))) (ap (vptr b) (first_at (align (cell X n).ty) o))) refl (tt, tt) $
        sets ! (bin ! (get ! refl) (get ! refl) tt) refl (tt, tt) $
        sets ! (addr ! (through ! refl (stop !))) refl (tt, tt) $
        open_ref ! tt (mem (T X n)) {b = b} {o = o} $
        use1 𝓛 (‵ (part_at (Array (R X n) n) full_share h.rows b o) ⊛ raw (Back X n L 𝓛 b o)) (opened X n L 𝓛 b o h) $ split ! $
        use1 𝓛 (‵ ((arr_parts (shares (R X n)) n).part full_share h.rows b o)) (Array-apart 𝓛 (R X n) full_share tt n h.rows b o) $ fsplit ! $ feq_l ! (λ long.
        let d : X.Denot = head h.rows (omega arith) in
        let x : X.Denot = get_or h.rows i d in
        use1 𝓛 (‵ (part_at (R X n) full_share x b (place (s X n) o i)) ⊛ ‵ (others (shares (R X n)) full_share h.rows i b o)) (takes (shares (R X n)) full_share 𝓛 h.rows i d b o (omega arith)) $ split ! $
        rewrite ! 0 (λ (k : ℕ). ‵ (part_at (R X n) full_share x b k)) (place_is (s X n) o i) refl $
        -- [x; the others; the way back; the open borrow; obs; auth; the token of R's lifetime]
        move ! (1 ∷ 2 ∷ []) $ join ! $ move ! (2 ∷ 3 ∷ 4 ∷ 1 ∷ 0 ∷ []) $ group ! 5 $
        use1 𝓛 (later (some (λ (γ' : GName). ‵ ((MutRef (named 0) κ (R X n)).own_val (record { ref_ptr = (b, p); ghost_name = γ'; now = x }) (vptr b p ∷ [])) ⊛ ‵ (flft κ q) ⊛ ‵ (follows (T X n) (R X n) γ γ' put))))
        (lends_Part 𝓛 (T X n) (R X n) put (named 0) κ q b o b p γ (Rest X n L 𝓛 b o h.rows i lt long) (closed X n L 𝓛 b o h.rows i lt long) ((T X n).coded.code h) ((T X n).coded.code h) x) $ await ! tt $ pick ! (λ γ'. split3 ! $
        returns ! (look_at ! 0 refl) $ free_all ! refl $
        keep ! (0 ∷ 1 ∷ 3 ∷ 4 ∷ 2 ∷ []) $ by ! (exits x (λ e. get_or_default h.rows i d e (omega arith)) (set-get_or h.rows i d) long γ'))))

  meets : (𝓣 : Tables 𝓤 H) → Meets 𝓛 (F.ended X (number n)).signature (WpFn 𝓤 H 𝓣.C 𝓣.Λ (fn' X n)) (closing 𝓛 (F.ended X (number n)) clauses)
  meets 𝓣 =
      walk_Meets 𝓛 (F.ended X (number n)) (stayed X n) (Goes-spent_ref 𝓛 3 (0 ∷ []) tt (plain (λ _. T X n)), (Goes-dropped 𝓛 3 (plain (λ _. usize)) yes (λ κs x f. refl), tt)) clauses (WpFn 𝓤 H 𝓣.C 𝓣.Λ (fn' X n)) (WpFn-mono 𝓤 H 𝓛.laws 𝓣 (fn' X n))
      (walked 𝓛 (F.ended X (number n)) (stayed X n) clauses (WpFn 𝓤 H 𝓣.C 𝓣.Λ (fn' X n)) (λ κs. (mut_vals, (uint_vals w64, tt))) (λ κs. (mut_Tells (named 0) κs.0 (T X n), (uint_Tells w64, tt)))
      (λ κs qs bounds a g are.
      asked 𝓤 (size (layout (T X n)) < 2 ^ 63) (a.1.0 < n) (on_entry 𝓛 (F.ended X (number n)).signature κs qs a (mut_vals a.0, (uint_vals w64 a.1.0, tt))) (fact 𝓤 (κs.1.0 ⊑ X.lives)) (fact 𝓤 (κs.1.1.0 ⊑ []))
      (walk 𝓣.C 𝓣.Λ κs.0 κs.1.0 κs.1.1.0 qs.0 qs.1.0 qs.1.1.0 bounds a.0.ref_ptr.0 a.0.ref_ptr.1 a.0.ghost_name a.0.now a.1.0 are.1.0.1)))

pub row_mut_spec : {M : Type 1} → stated.statement M
unfolding tables_of
row_mut_spec 𝓤 𝓛 𝓜 𝓡 wired X n L fits =
    let A = 𝓛.A in
    let 𝓣 : Tables 𝓤 𝓛.H = tables_of 𝓤 𝓛.H 𝓜 (tables 𝓤 𝓛.H 𝓜 𝓡 𝓡.env) in
    entered 𝓤 𝓛.H (triple_of 𝓛 (F.ended X (number n)).signature (F.spec X (number n) 𝓛 𝓜.mem 𝓡.returns)) 𝓣.C 𝓣.Λ (#self (args X n)) (fn' X n) (code.unfolded 𝓤 𝓛.H 𝓜 𝓡 wired (X, (number n, tt)))
    (meets X n L 𝓛 𝓜.mem 𝓡.returns 𝓣)
