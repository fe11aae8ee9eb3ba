-- The E of a showing puts back the run at its X. Assumes nothing.
use Rattle.std.proofs.Common.{◌≡◌, ℕ, List, [], ◌∷◌, ◌++◌, Some, None, Option, sym, refl, ap, ◌∙◌, subst}
use Rattle.lines.specs.declared.trace.Line.{Line}
use Rattle.lines.specs.declared.trace.Line.TheVariants.{EndTurn as E}
use Rattle.stores.specs.declared.view.View.{View}
use Rattle.rules.specs.Models.{Part, Phase, between, turn, showing, Run, thread_at, part_at, with_part, in_phase, closing_line, saved, put_back}
use Rattle.rules.specs.Threads.{next_of}
use Rattle.rules.specs.Steps.{printed, Acting, in_turn, in_showing, Step, begins, acts, promises, shows, ends_turn, ends_showing}
use Rattle.rules.specs.Histories.{Move, Given, nothing_given, goes, stays, shown_after, shown_from, undone_in}
use Rattle.rules.specs.Laws.{PutsBack}
use Rattle.rules.proofs.Accepts.{Acted}
use Rattle.rules.proofs.Sound.{SoundAt, Sound, acted_changed, same_back, shown_back}
use Rattle.rules.proofs.Agrees.{by_acting}
use Rattle.rules.proofs.Led.{step_sound}

-- the run at the X of the showing that is open is the one that would be put back
abbrev BackAt : Run → Phase → Option Run → Type 0
BackAt r between x = x ≡ None
BackAt r (turn i) x = x ≡ None
BackAt r (showing i s cl) x = x ≡ Some (put_back r i s)

abbrev Back : Run → Option Run → Type 0
Back r x = BackAt r r.phase x

back_undone : (r x : Run) (ph : Phase) → BackAt r ph (Some x) → undone_in r ph ≡ x
back_undone r x between b = cc
back_undone r x (turn i) b = cc
back_undone r x (showing i s cl) b = cc

-- a thread's step leaves it as it was
act_back : {r : Run} {i : ℕ} {closing : Option View} {line : Line} (p : Part) (x : Option Run) → Acting r i closing → Acted r.locations i closing line (part_at r i) p → Sound r
    → Back r x → Back (with_part r i p) x
act_back {r = r} p x (in_turn i e) a sound b = subst (λ (ph : Phase). BackAt (with_part r i p) ph x) (sym e) (subst (λ (ph : Phase). BackAt r ph x) e b)
act_back {r = r} {line = line} p x (in_showing i s cl e n) a sound b =
    let h = subst (SoundAt r) e sound in
    let back = same_back r i p s h.messages h.prints (acted_changed r i (Some cl) line p h.good a) in
    subst (λ (ph : Phase). BackAt (with_part r i p) ph x) (sym e) (subst (λ (ph : Phase). BackAt r ph x) e b ∙ ap Some (sym back))

step_back : {r : Run} {line : Line} {r' : Run} → Step r line r' → Sound r → (x : Option Run) → Back r x → Back r' (shown_after x r line)
step_back {r = r} (begins i lt e) sound x b = subst (λ (ph : Phase). BackAt r ph x) e b
step_back {r = r} (acts {line = line} i closing k S M act s marks room prints) sound x b =
    let p : Part = record { thread = k; memory = M; capacity = r.capacity; sc = S; log = r.log ++ printed i (next_of r.locations (thread_at r i).does) } in
    subst (Back (with_part r i p)) (by_acting (λ line. x ≡ shown_after x r line) refl (λ t. refl) (λ s. refl) (λ s. refl) (λ t. refl) s)
    (act_back p x act (record { step = s; marks = marks; capacity = refl; room = room; log = refl; prints = prints }) sound b)
step_back {r = r} {r' = r'} (promises i x v s e lt less span free room) sound y b =
    subst (λ (ph : Phase). BackAt r' ph y) (sym e) (subst (λ (ph : Phase). BackAt r ph y) e b)
step_back {r = r} (shows i e n) sound x b =
    ap Some (ap (in_phase r) e ∙ sym (shown_back r i (showing i (saved r i) (closing_line r.memory))))
step_back (ends_turn i e n) sound x b = refl
step_back (ends_showing i s cl e n) sound x b = refl

end_back : {r : Run} {line : Line} {r' : Run} → Step r line r' → line ≡ E → (x : Run) → Back r (Some x) → r' ≡ in_phase x between
end_back (begins i lt e) h x b = cc
end_back (acts i closing k S M act s marks room prints) h x b = absurd (by_acting (λ line. line ≡ E → ⊥) (λ q. cc) (λ t q. cc) (λ s q. cc) (λ s q. cc) (λ t q. cc) s h)
end_back (promises i x v s e lt less span free room) h y b = cc
end_back (shows i e n) h x b = cc
end_back {r = r} (ends_turn i e n) h x b = let c = subst (λ (ph : Phase). BackAt r ph (Some x)) e b in cc
end_back {r = r} (ends_showing i s cl e n) h x b =
    ap (λ (q : Run). in_phase q between) (back_undone r x (showing i s cl) (subst (λ (ph : Phase). BackAt r ph (Some x)) e b))

given_back : {first : Run} {lines : List Line} {ms : List Move} {r : Run} → Given first lines ms r → Sound first → (x : Option Run) → Back first x → Back r (shown_from x ms)
given_back nothing_given s x b = b
given_back (goes {r = r} {line = line} st g) s x b = given_back g (step_sound st s) (shown_after x r line) (step_back st s x b)
given_back (stays never g) s x b = given_back g s x b

given_ended : {first : Run} {lines : List Line} {ms : List Move} {r : Run} → Given first lines ms r → Sound first → (y : Option Run) → Back first y
    → (before later : List Move) (e : Move) (x : Run) → ms ≡ before ++ (e ∷ later) → e.line ≡ E → shown_from y before ≡ Some x → e.after ≡ in_phase x between
given_ended nothing_given s y b [] later e x q end shown = cc
given_ended nothing_given s y b (m ∷ before) later e x q end shown = cc
given_ended (goes {r = r} {r₁ = r₁} {line = line} st g) s y b [] later e x q end shown =
    let m : Move = record { before = r; line = line; after = r₁ } in
    let same : m ≡ e = cc in
    ap (λ (n : Move). n.after) (sym same) ∙ end_back st (ap (λ (n : Move). n.line) same ∙ end) x (subst (Back r) shown b)
given_ended (goes {r = r} {r₁ = r₁} {line = line} {ms = ms} st g) s y b (n ∷ before) later e x q end shown =
    let m : Move = record { before = r; line = line; after = r₁ } in
    let same : m ≡ n = cc in
    let rest : ms ≡ before ++ (e ∷ later) = cc in
    given_ended g (step_sound st s) (shown_after y r line) (step_back st s y b) before later e x rest end
    (subst (λ (n : Move). shown_from (shown_after y n.before n.line) before ≡ Some x) (sym same) shown)
given_ended (stays never g) s y b before later e x q end shown = given_ended g s y b before later e x q end shown

pub puts_back : {first : Run} {lines : List Line} {ms : List Move} {r : Run} → Given first lines ms r → Sound first → first.phase ≡ between → PutsBack ms r
puts_back {first = first} {ms = ms} {r = r} g s e =
    let b : Back first None = subst (λ (ph : Phase). BackAt first ph None) (sym e) refl in
    record {
      ended = given_ended g s None b;
      not_ended = λ x shown. back_undone r x r.phase (subst (Back r) shown (given_back g s None b));
    }
