-- The marks of a thread and the messages that they mark. Assumes nothing.
use Rattle.std.proofs.Common.{◌≡◌, ℕ, zero, suc, ◌+◌, ◌<◌, ◌≤◌, Bool, true, false, not, ◌&&◌, eqb, List, [], ◌∷◌, ◌++◌, length, get_or, set, Some, None, sym, refl, ap, ◌∙◌, subst, inl, inr, arith, length-set}
use Rattle.std.proofs.lemmas.List.{get_or-set_other, length-append, length_push}
use Rattle.std.proofs.lemmas.Option.{none-some}
use Rattle.std.proofs.lemmas.Bool.{and_parts, and_from, or_parts, or_from, both_ways, eq-eqb, ne_eqb, cases_Bool, cases_eq, cond-true, cond-false, true≢false}
use Rattle.stores.specs.declared.message.Message.{Message}
use Rattle.stores.specs.Memory.{zero_message, ends_at}
use Rattle.stores.specs.StoreLaws.{In, EndsAt}
use Rattle.stores.proofs.StoreLaws.{in_at, ends_at_sound, ends_at_complete}
use Rattle.rules.specs.Threads.{none_owed, marked, owes_at, find_owed_from, find_owed}
use Rattle.rules.specs.Steps.{Marks}
use Rattle.rules.specs.Histories.{without}
use Rattle.rules.specs.Laws.{Apart}
use Rattle.rules.proofs.Members.{in_right}

-- no mark is set past the messages
abbrev pub Bare : List Bool → List Message → Type 0
Bare bs ms = (j : ℕ) → length ms ≤ j → get_or bs j false ≡ false

rest_bare : (b : Bool) (bs : List Bool) (m : Message) (ms : List Message) → Bare (b ∷ bs) (m ∷ ms) → Bare bs ms
rest_bare b bs m ms h j l = h (suc j) (omega arith)

marked_nil : (bs : List Bool) → marked bs [] ≡ []
marked_nil [] = refl
marked_nil (b ∷ bs) = refl

pub marked_in : (bs : List Bool) (ms : List Message) (m : Message) → In m (marked bs ms) → In m ms
marked_in [] ms m i = absurd i
marked_in (b ∷ bs) [] m i = absurd i
marked_in (true ∷ bs) (n ∷ ns) m (inl e) = inl e
marked_in (true ∷ bs) (n ∷ ns) m (inr i) = inr (marked_in bs ns m i)
marked_in (false ∷ bs) (n ∷ ns) m i = inr (marked_in bs ns m i)

pub none_marked : (bs : List Bool) (ms : List Message) → ((j : ℕ) → get_or bs j false ≡ false) → marked bs ms ≡ []
none_marked [] ms h = refl
none_marked (b ∷ bs) [] h = refl
none_marked (true ∷ bs) (m ∷ ms) h = absurd (true≢false (h 0))
none_marked (false ∷ bs) (m ∷ ms) h = none_marked bs ms (λ j. h (suc j))

-- messages that arrive later are not marked
pub marked_more : (bs : List Bool) (ms xs : List Message) → Bare bs ms → marked bs (ms ++ xs) ≡ marked bs ms
marked_more [] ms xs h = refl
marked_more (b ∷ bs) [] xs h = none_marked (b ∷ bs) xs (λ j. h j (omega arith))
marked_more (true ∷ bs) (m ∷ ms) xs h = ap (λ (l : List Message). m ∷ l) (marked_more bs ms xs (rest_bare true bs m ms h))
marked_more (false ∷ bs) (m ∷ ms) xs h = marked_more bs ms xs (rest_bare false bs m ms h)

pub bare_more : (bs : List Bool) (ms xs : List Message) → Bare bs ms → Bare bs (ms ++ xs)
bare_more bs ms xs h j l = h j (let e = length-append ms xs in omega arith)

-- the mark of a promise that arrives
pub marked_promise : (bs : List Bool) (ms : List Message) (m : Message) → length ms < length bs → Bare bs ms
    → marked (set bs (length ms) true) (ms ++ (m ∷ [])) ≡ marked bs ms ++ (m ∷ [])
marked_promise [] ms m l h = absurd (omega arith)
marked_promise (b ∷ bs) [] m l h = ap (λ (r : List Message). m ∷ r) (marked_nil bs)
marked_promise (true ∷ bs) (n ∷ ns) m l h = ap (λ (r : List Message). n ∷ r) (marked_promise bs ns m (omega arith) (rest_bare true bs n ns h))
marked_promise (false ∷ bs) (n ∷ ns) m l h = marked_promise bs ns m (omega arith) (rest_bare false bs n ns h)

pub marks_promise : (bs : List Bool) (ms : List Message) (m : Message) → Marks bs ms → Marks (set bs (length ms) true) (ms ++ (m ∷ []))
marks_promise bs ms m h = (
  length-set bs (length ms) true ∙ h.0,
  λ j l. get_or-set_other bs (length ms) j true false (let e = length_push ms m in omega arith) ∙ h.1 j (let e = length_push ms m in omega arith),
)

-- the mark of a promise that is kept
pub marks_keep : (bs : List Bool) (ms : List Message) (i : ℕ) → Marks bs ms → Marks (set bs i false) ms
marks_keep bs ms i h = (
  length-set bs i false ∙ h.0,
  λ j l. elim (cases_eq j i) [ inl e ↦ cleared j e (h.1 j l) | inr ne ↦ get_or-set_other bs i j false false ne ∙ h.1 j l ],
)
  where
    clear : (cs : List Bool) (j : ℕ) → get_or (set cs j false) j false ≡ false
    clear [] j = refl
    clear (c ∷ cs) zero = refl
    clear (c ∷ cs) (suc j) = clear cs j

    cleared : (j : ℕ) → j ≡ i → get_or bs j false ≡ false → get_or (set bs i false) j false ≡ false
    cleared j e f = ap (λ (n : ℕ). get_or (set bs n false) j false) (sym e) ∙ clear bs j

-- a marked message, and the marks without it
pub marked_split : (bs : List Bool) (ms : List Message) (j : ℕ) → j < length ms → get_or bs j false ≡ true
    → (before : List Message) × (later : List Message) × (marked bs ms ≡ before ++ (get_or ms j zero_message ∷ later)) × (marked (set bs j false) ms ≡ before ++ later)
marked_split [] ms j l h = absurd (true≢false (sym h))
marked_split (b ∷ bs) [] j l h = absurd (omega arith)
marked_split (true ∷ bs) (m ∷ ms) zero l h = ([], marked bs ms, refl, refl)
marked_split (false ∷ bs) (m ∷ ms) zero l h = absurd (true≢false (sym h))
marked_split (true ∷ bs) (m ∷ ms) (suc j) l h =
    let r = marked_split bs ms j (omega arith) h in
    (m ∷ r.0, r.1, ap (λ (k : List Message). m ∷ k) r.2, ap (λ (k : List Message). m ∷ k) r.3)
marked_split (false ∷ bs) (m ∷ ms) (suc j) l h = marked_split bs ms j (omega arith) h

without_none : (x t : ℕ) (ns : List Message) → ((n : Message) → In n ns → EndsAt x t n → ⊥) → without x t ns ≡ ns
without_none x t [] h = refl
without_none x t (n ∷ ns) h =
    elim (cases_Bool (ends_at x t n)) [
      | inl b ↦ absurd (h n (inl refl) (ends_at_sound x t n b))
      | inr b ↦ cond-false _ _ _ b ∙ ap (λ (k : List Message). n ∷ k) (without_none x t ns (λ p i. h p (inr i)))
    ]

-- clearing the mark of the message of x that ends at t leaves the others
pub marked_without : (x t : ℕ) (bs : List Bool) (ms : List Message) (j : ℕ) → Apart ms → j < length ms → get_or bs j false ≡ true → EndsAt x t (get_or ms j zero_message)
    → marked (set bs j false) ms ≡ without x t (marked bs ms)
marked_without x t [] ms j a l h e = absurd (true≢false (sym h))
marked_without x t (b ∷ bs) [] j a l h e = absurd (omega arith)
marked_without x t (true ∷ bs) (m ∷ ms) zero a l h e =
    sym (cond-true _ _ _ (ends_at_complete x t m e)
    ∙ without_none x t (marked bs ms) (λ n i f. (a.0 n (marked_in bs ms n i) (f.0 ∙ sym e.0)).1 (f.1 ∙ sym e.1)))
marked_without x t (false ∷ bs) (m ∷ ms) zero a l h e = absurd (true≢false (sym h))
marked_without x t (true ∷ bs) (m ∷ ms) (suc j) a l h e =
    elim (cases_Bool (ends_at x t m)) [
      | inl b ↦
          let n : Message = get_or ms j zero_message in
          let f = ends_at_sound x t m b in
          absurd ((a.0 n (in_at ms j zero_message (omega arith)) (e.0 ∙ sym f.0)).1 (e.1 ∙ sym f.1))
      | inr b ↦
          ap (λ (k : List Message). m ∷ k) (marked_without x t bs ms j a.1 (omega arith) h e)
          ∙ sym (cond-false _ _ _ b)
    ]
marked_without x t (false ∷ bs) (m ∷ ms) (suc j) a l h e = marked_without x t bs ms j a.1 (omega arith) h e

-- whether anything is owed
none_at : (bs : List Bool) → none_owed bs ≡ true → (j : ℕ) → get_or bs j false ≡ false
none_at [] e j = refl
none_at (true ∷ bs) e j = absurd (true≢false (sym e))
none_at (false ∷ bs) e zero = refl
none_at (false ∷ bs) e (suc j) = none_at bs e j

pub nothing : (bs : List Bool) (ms : List Message) → none_owed bs ≡ true → marked bs ms ≡ []
nothing bs ms e = none_marked bs ms (none_at bs e)

pub owes_none : (bs : List Bool) (ms : List Message) → Bare bs ms → marked bs ms ≡ [] → none_owed bs ≡ true
owes_none [] ms h e = refl
owes_none (b ∷ bs) [] h e = and_from (not b) (none_owed bs) (unset b (h 0 (omega arith))) (owes_none bs [] (λ j l. h (suc j) (omega arith)) (marked_nil bs))
  where
    unset : (c : Bool) → c ≡ false → not c ≡ true
    unset true f = absurd (true≢false f)
    unset false f = refl
owes_none (true ∷ bs) (m ∷ ms) h e = cc
owes_none (false ∷ bs) (m ∷ ms) h e = owes_none bs ms (rest_bare false bs m ms h) e

pub something : (bs : List Bool) (ms : List Message) → Bare bs ms → none_owed bs ≡ false → marked bs ms ≡ [] → ⊥
something bs ms h e z = both_ways (none_owed bs) e (owes_none bs ms h z)

-- whether anything is owed at a location
pub owes_at_sound : (x : ℕ) (bs : List Bool) (ms : List Message) → owes_at x bs ms ≡ false → (m : Message) → In m (marked bs ms) → m.location ≡ x → ⊥
owes_at_sound x [] ms e m i l = absurd i
owes_at_sound x (b ∷ bs) [] e m i l = absurd i
owes_at_sound x (true ∷ bs) (n ∷ ns) e m (inl i) l =
    both_ways (eqb n.location x) (or_parts (eqb n.location x) (owes_at x bs ns) e).0 (eq-eqb n.location x (sym (ap (λ (q : Message). q.location) i) ∙ l))
owes_at_sound x (true ∷ bs) (n ∷ ns) e m (inr i) l = owes_at_sound x bs ns (or_parts (eqb n.location x) (owes_at x bs ns) e).1 m i l
owes_at_sound x (false ∷ bs) (n ∷ ns) e m i l = owes_at_sound x bs ns e m i l

pub owes_at_complete : (x : ℕ) (bs : List Bool) (ms : List Message) → ((m : Message) → In m (marked bs ms) → m.location ≡ x → ⊥) → owes_at x bs ms ≡ false
owes_at_complete x [] ms h = refl
owes_at_complete x (b ∷ bs) [] h = refl
owes_at_complete x (true ∷ bs) (n ∷ ns) h =
    or_from (eqb n.location x) (owes_at x bs ns) (ne_eqb n.location x (h n (inl refl))) (owes_at_complete x bs ns (λ m i. h m (inr i)))
owes_at_complete x (false ∷ bs) (n ∷ ns) h = owes_at_complete x bs ns h

-- the promise that is found
abbrev OwedAt : ℕ → ℕ → List Bool → List Message → ℕ → Type 0
OwedAt x t bs ms i = (i < length ms) × (get_or bs i false ≡ true) × EndsAt x t (get_or ms i zero_message)

find_owed_from_some : (k x t : ℕ) (bs : List Bool) (ms : List Message) (j : ℕ) → find_owed_from k x t bs ms ≡ Some j
    → (i : ℕ) × (j ≡ k + i) × OwedAt x t bs ms i
find_owed_from_some k x t [] ms j e = cc
find_owed_from_some k x t (b ∷ bs) [] j e = cc
find_owed_from_some k x t (b ∷ bs) (m ∷ ms) j e =
    elim (cases_Bool (b && ends_at x t m)) [
      | inl h ↦
          let s : Some k ≡ Some j = sym (cond-true _ _ _ h) ∙ e in
          let same : k ≡ j = cc in
          let p = and_parts b (ends_at x t m) h in
          (0, omega arith, (omega arith, p.0, ends_at_sound x t m p.1))
      | inr h ↦
          let r = find_owed_from_some (k + 1) x t bs ms j (sym (cond-false _ _ _ h) ∙ e) in
          let q = r.2 in
          (suc r.0, omega arith, (omega arith, q.1, q.2))
    ]

pub find_owed_some : (x t : ℕ) (bs : List Bool) (ms : List Message) (j : ℕ) → find_owed x t bs ms ≡ Some j → OwedAt x t bs ms j
find_owed_some x t bs ms j e =
    let r = find_owed_from_some 0 x t bs ms j e in
    let same : r.0 ≡ j = omega arith in
    subst (OwedAt x t bs ms) same r.2

find_owed_from_none : (k x t : ℕ) (bs : List Bool) (ms : List Message) → find_owed_from k x t bs ms ≡ None → (m : Message) → In m (marked bs ms) → EndsAt x t m → ⊥
find_owed_from_none k x t [] ms e m i h = absurd i
find_owed_from_none k x t (b ∷ bs) [] e m i h = absurd i
find_owed_from_none k x t (true ∷ bs) (n ∷ ns) e m (inl i) h =
    none-some k (sym e ∙ cond-true _ _ _ (ends_at_complete x t n (subst (EndsAt x t) i h)))
find_owed_from_none k x t (true ∷ bs) (n ∷ ns) e m (inr i) h =
    elim (cases_Bool (ends_at x t n)) [
      | inl b ↦ none-some k (sym e ∙ cond-true _ _ _ b)
      | inr b ↦ find_owed_from_none (k + 1) x t bs ns (sym (cond-false _ _ _ b) ∙ e) m i h
    ]
find_owed_from_none k x t (false ∷ bs) (n ∷ ns) e m i h = find_owed_from_none (k + 1) x t bs ns e m i h

pub find_owed_none : (x t : ℕ) (bs : List Bool) (ms : List Message) → find_owed x t bs ms ≡ None → (m : Message) → In m (marked bs ms) → EndsAt x t m → ⊥
find_owed_none x t bs ms e = find_owed_from_none 0 x t bs ms e

-- of messages that stand apart, the marks are known from what they mark
pub marks_same : (bs cs : List Bool) (ms : List Message) → length bs ≡ length cs → Bare bs ms → Bare cs ms → Apart ms → marked bs ms ≡ marked cs ms → bs ≡ cs
marks_same [] [] ms l h g a e = refl
marks_same [] (c ∷ cs) ms l h g a e = absurd (omega arith)
marks_same (b ∷ bs) [] ms l h g a e = absurd (omega arith)
marks_same (b ∷ bs) (c ∷ cs) [] l h g a e =
    let first : b ≡ c = h 0 (omega arith) ∙ sym (g 0 (omega arith)) in
    let rest : bs ≡ cs = marks_same bs cs [] (omega arith) (λ j k. h (suc j) (omega arith)) (λ j k. g (suc j) (omega arith)) a (marked_nil bs ∙ sym (marked_nil cs)) in
    λ i. first i ∷ rest i
marks_same (true ∷ bs) (true ∷ cs) (m ∷ ms) l h g a e =
    let t : marked bs ms ≡ marked cs ms = cc in
    ap (λ (k : List Bool). true ∷ k) (marks_same bs cs ms (omega arith) (rest_bare true bs m ms h) (rest_bare true cs m ms g) a.1 t)
marks_same (true ∷ bs) (false ∷ cs) (m ∷ ms) l h g a e =
    absurd ((a.0 m (marked_in cs ms m (subst (In m) e (inl refl))) refl).1 refl)
marks_same (false ∷ bs) (true ∷ cs) (m ∷ ms) l h g a e =
    absurd ((a.0 m (marked_in bs ms m (subst (In m) (sym e) (inl refl))) refl).1 refl)
marks_same (false ∷ bs) (false ∷ cs) (m ∷ ms) l h g a e =
    ap (λ (k : List Bool). false ∷ k) (marks_same bs cs ms (omega arith) (rest_bare false bs m ms h) (rest_bare false cs m ms g) a.1 e)

pub apart_marked : (bs : List Bool) (ms : List Message) → Apart ms → Apart (marked bs ms)
apart_marked [] ms a = tt
apart_marked (b ∷ bs) [] a = tt
apart_marked (true ∷ bs) (m ∷ ms) a = (λ n i. a.0 n (marked_in bs ms n i), apart_marked bs ms a.1)
apart_marked (false ∷ bs) (m ∷ ms) a = apart_marked bs ms a.1

pub without_one : (m : Message) (before later : List Message) → Apart (before ++ (m ∷ later)) → without m.location m.span.to (before ++ (m ∷ later)) ≡ before ++ later
without_one m [] later a =
    cond-true _ _ _ (ends_at_complete m.location m.span.to m (refl, refl))
    ∙ without_none m.location m.span.to later (λ n i e. (a.0 n i e.0).1 e.1)
without_one m (b ∷ before) later a =
    elim (cases_Bool (ends_at m.location m.span.to b)) [
      | inl h ↦
          let e = ends_at_sound m.location m.span.to b h in
          absurd ((a.0 m (in_right m before (m ∷ later) (inl refl)) (sym e.0)).1 (sym e.1))
      | inr h ↦
          cond-false _ _ _ h
          ∙ ap (λ (k : List Message). b ∷ k) (without_one m before later a.1)
    ]
