-- Every run is lawful. Assumes nothing.
use Rattle.std.proofs.Common.{◌≡◌, ℕ, zero, suc, ◌<◌, ◌≤◌, false, cond, leb, List, [], ◌∷◌, ◌++◌, map, length, get_or, take, replicate, sym, refl, ap, ◌∙◌, subst, inl, arith}
use lib.ListN.{length-replicate}
use Rattle.std.proofs.lemmas.List.{length_push}
use Rattle.std.proofs.lemmas.Bool.{and_parts, leb-true}
use Rattle.lines.specs.Scopes.{in_scope}
use Rattle.lines.specs.declared.trace.Line.{Line}
use Rattle.languages.specs.Behaviours.{Behaviour}
use Rattle.stores.specs.declared.message.Message.{Message}
use Rattle.stores.specs.declared.kept.StoreFault.TheVariants.{Full}
use Rattle.stores.specs.Views.{at, zero_view}
use Rattle.stores.specs.StoreLaws.{In}
use Rattle.rules.specs.declared.fault.StepFault.TheVariants.{Range, Store}
use Rattle.rules.specs.Models.{Thread, Phase, between, turn, showing, Run, fresh, nobody, thread_at}
use Rattle.rules.specs.Threads.{marked}
use Rattle.rules.specs.Rules.{went, refused, initial, initials, new_run, made}
use Rattle.rules.specs.Alone.{Within, done}
use Rattle.rules.specs.Steps.{lone_at, Marks}
use Rattle.rules.specs.Histories.{Event, no_turn, Move, Given, Did, messages, present, owes_after, undone_in, place_of}
use Rattle.rules.specs.Laws.{WellFormed, Apart, Lawful, OneHistory, RunsAreLawful}
use Rattle.rules.proofs.Refused.{refusals, acceptances}
use Rattle.rules.proofs.Members.{in_push, apart_push}
use Rattle.rules.proofs.Marked.{none_marked}
use Rattle.rules.proofs.Accepts.{When, when_passed}
use Rattle.rules.proofs.Preserved.{Fit, all_fit, known_zero}
use Rattle.rules.proofs.Sound.{Good, Calm, Sound, SoundAt}
use Rattle.rules.proofs.Agrees.{sound_good, agreement}
use Rattle.rules.proofs.Led.{given_sound, given_place, given_some, given_one, given_computed}
use Rattle.rules.proofs.Past.{Past, past, did_one}
use Rattle.rules.proofs.Places.{given_inside}
use Rattle.rules.proofs.Backs.{puts_back}

-- a run that was just made

pub initials_length : (l : ℕ) → length (initials l) ≡ l
initials_length zero = refl
initials_length (suc l) = let e = length_push (initials l) (initial l) in let h = initials_length l in omega arith

initials_all : (F : Message → Type 0) → ((x : ℕ) → F (initial x)) → (l : ℕ) (m : Message) → In m (initials l) → F m
initials_all F h zero m i = absurd i
initials_all F h (suc l) m i = in_push F (initials l) (initial l) (initials_all F h l) (h l) m i

initials_below : (l : ℕ) (m : Message) → In m (initials l) → m.location < l
initials_below zero m i = absurd i
initials_below (suc l) m i = in_push (λ n. n.location < suc l) (initials l) (initial l) (λ n j. let h = initials_below l n j in omega arith) (omega arith) m i

initials_apart : (l : ℕ) → Apart (initials l)
initials_apart zero = tt
initials_apart (suc l) = apart_push (initial l) (initials l) (initials_apart l) (λ n i e. absurd (let h = initials_below l n i in omega arith))

all_fresh : (F : Thread → Type 0) → ((b : Behaviour) → F (fresh b)) → (n : ℕ) (bs : List Behaviour) (j : ℕ) → F (get_or (take n (map fresh bs)) j nobody)
all_fresh F h zero bs j = h nobody.does
all_fresh F h (suc n) [] j = h nobody.does
all_fresh F h (suc n) (b ∷ bs) zero = h b
all_fresh F h (suc n) (b ∷ bs) (suc j) = all_fresh F h n bs j

unset : (n j : ℕ) → get_or (replicate n false) j false ≡ false
unset zero j = refl
unset (suc n) zero = refl
unset (suc n) (suc j) = unset n j

module _ (bs : List Behaviour) (n l capacity : ℕ) (few : l ≤ 8) (room : l ≤ capacity) (small : capacity ≤ 64) where
  abbrev first : Run
  first = new_run bs n l capacity

  new_good : Good (new_run bs n l capacity)
  new_good = record {
    few = few;
    small = small;
    room = let e = initials_length l in omega arith;
    prints = omega arith;
    marks = all_fresh (λ k. Marks k.owed (initials l)) (λ b. (length-replicate 64 false, λ j h. unset 64 j)) n bs;
    fit = all_fresh (λ k. Fit (initials l) k.views) (λ b. all_fit (initials l) zero_view (known_zero (initials l))) n bs;
    sc = known_zero (initials l);
    sane = record {
      placed = λ m i. let h = initials_below l m i in omega arith;
      formed = initials_all WellFormed (λ x. inl refl) l;
      apart = initials_apart l;
      known = initials_all (λ m. Rattle.rules.specs.Laws.Known (initials l) m.view) (λ x. known_zero (initials l)) l;
    };
  }

  owes_none : (j : ℕ) → (lone_at first j).owed ≡ []
  owes_none j = all_fresh (λ k. marked k.owed (initials l) ≡ []) (λ b. none_marked (replicate 64 false) (initials l) (unset 64)) n bs j

  new_sound : Sound (new_run bs n l capacity)
  new_sound = (new_good, λ j _ big w S. (lone_at first j, S, big, done, owes_none j))

  zero_cur : (j x : ℕ) → 0 ≤ at (thread_at first j).views.cur x
  zero_cur j x = omega arith

  new_history : (lines : List Line) → OneHistory (new_run bs n l capacity) lines
  new_history lines =
      let m = given_some lines first new_sound in
      let p = past m.2 no_turn refl new_sound in
      record {
        run = m.0;
        moves = m.1;
        events = p.0;
        given = m.2;
        did = p.1;
        one_given = λ r ms g. given_one new_sound m.2 g;
        one_did = λ es d. did_one d p.1;
      }

  new_lawful : (lines : List Line) (r : Run) (ms : List Move) (es : List Event) → Given (new_run bs n l capacity) lines ms r → Did no_turn ms es → Lawful l r ms es
  new_lawful lines r ms es given did =
      let p = past given no_turn refl new_sound in
      let b = subst (Past first r) (did_one p.1 did) p.2 in
      let s = given_sound given new_sound in
      let g = sound_good r s in
      let place = given_place given no_turn refl in
      let inside = given_inside given new_sound (initials_below l, λ p i. absurd i) in
      record {
        locations = b.locations;
        agreement = agreement r g;
        refusals = refusals r g.sane.apart g.marks;
        acceptances = acceptances r g.sane.apart g.marks;
        phase = place;
        memory = b.memory;
        owed = λ i. b.owed i ∙ ap (λ (ms : List Message). owes_after i ms es) (owes_none i);
        back = puts_back given new_sound refl;
        promises = λ e. kept r es s (place ∙ e) b;
        updates = b.distinct;
        times = λ i x. b.rising i x 0 (zero_cur i x);
        well_formed = g.sane.formed;
        apart = g.sane.apart;
        message_views = g.sane.known;
        thread_views = λ i. (g.fit i).known;
        sc = g.sc;
        ordered = λ i. (g.fit i).ordered;
        places = λ m i. subst (λ (n : ℕ). m.location < n) b.locations (inside.0 m i);
        printers = inside.1;
      }
    where
      calm : (r : Run) (ph : Phase) → SoundAt r ph → place_of ph ≡ no_turn → Calm (λ j. ⊥) r × (undone_in r ph ≡ r)
      calm r between h e = (h.1, refl)
      calm r (turn i) h e = cc
      calm r (showing i s cl) h e = cc

      kept : (r : Run) (es : List Event) → Sound r → place_of r.phase ≡ no_turn → Past first r es
          → (i : ℕ) (M : List Message) → Within (present r.locations es) M → Rattle.rules.specs.Alone.CanKeep r.locations (lone_at r i) r.sc M
      kept r es s e b i M w =
          let c = calm r r.phase s e in
          let memory : r.memory ≡ present r.locations es =
          ap (λ (q : Run). q.memory) (sym c.1) ∙ b.memory ∙ ap (λ (x : ℕ). initials x ++ messages es) (sym b.locations) in
          c.0 i (λ z. z) M (λ m j. w m (subst (In m) memory j)) r.sc

-- what making accepts
abbrev MadeIs : List Behaviour → ℕ → ℕ → ℕ → Run → Type 0
MadeIs bs n l capacity r = (r ≡ new_run bs n l capacity) × (l ≤ 8) × (l ≤ capacity)

made_is : (bs : List Behaviour) (n l capacity : ℕ) (r : Run) → made bs n l capacity ≡ went r → MadeIs bs n l capacity r
made_is bs n l capacity r e =
    subst (When (MadeIs bs n l capacity)) e
    (when_passed (MadeIs bs n l capacity) (in_scope n l) (cond (leb l capacity) (went (new_run bs n l capacity)) (refused (Store Full))) Range
    (λ ok. when_passed (MadeIs bs n l capacity) (leb l capacity) (went (new_run bs n l capacity)) (Store Full)
    (λ room. (refl, leb-true l 8 (and_parts _ _ (and_parts _ _ ok).1).1, leb-true l capacity room))))

pub made_sound : (bs : List Behaviour) (n l capacity : ℕ) → capacity ≤ 64 → (r : Run) → made bs n l capacity ≡ went r → Sound r
made_sound bs n l capacity small r e = let h = made_is bs n l capacity r e in subst Sound (sym h.0) (new_sound bs n l capacity h.1 h.2 small)

-- of every history of lines, and so of the one that they have
pub lawful_after : (bs : List Behaviour) (n l capacity : ℕ) → capacity ≤ 64 → (first : Run) → made bs n l capacity ≡ went first
    → (lines : List Line) (r : Run) (ms : List Move) (es : List Event) → Given first lines ms r → Did no_turn ms es → Lawful l r ms es
lawful_after bs n l capacity small first e lines =
    let h = made_is bs n l capacity first e in
    subst (λ (q : Run). (r : Run) (ms : List Move) (es : List Event) → Given q lines ms r → Did no_turn ms es → Lawful l r ms es) (sym h.0)
    (new_lawful bs n l capacity h.1 h.2 small lines)

pub lawful : RunsAreLawful
lawful bs n l capacity small first e lines =
    let h = made_is bs n l capacity first e in
    let one : OneHistory first lines = subst (λ (q : Run). OneHistory q lines) (sym h.0) (new_history bs n l capacity h.1 h.2 small lines) in
    let computed = given_computed one.given (made_sound bs n l capacity small first e) in
    (one, lawful_after bs n l capacity small first e lines one.run one.moves one.events one.given one.did, computed.0, sym computed.1)
