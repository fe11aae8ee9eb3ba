-- One turn of a loop over messages in order of arrival.
use Rattle.std.proofs.Common.{◌≡◌, ℕ, ◌+◌, ◌<◌, ◌≤◌, max, true, false, List, length, get_or, drop, Some, None, ap, ◌∙◌}
use Rattle.std.proofs.lemmas.List.{at_drop_more, at_drop_all}
use Rattle.std.proofs.lemmas.Bool.{cond-true, cond-false, eq-eqb, ne_eqb}
use Rattle.lines.specs.declared.span.Span.{Span}
use Rattle.stores.specs.declared.message.Message.{Message}
use Rattle.stores.specs.Memory.{ends_at, overlaps, find_from, overlap_from, greatest_end}

module _ (ms : List Message) (i : ℕ) (d : Message) (h : i < length ms) where
  pub find_here : (k x t : ℕ) → ends_at x t (get_or ms i d) ≡ true → find_from k x t (drop i ms) ≡ Some k
  find_here k x t e = at_drop_more (find_from k x t) ms i d h ∙ cond-true _ _ _ e

  pub find_more : (k x t : ℕ) → ends_at x t (get_or ms i d) ≡ false → find_from k x t (drop i ms) ≡ find_from (k + 1) x t (drop (i + 1) ms)
  find_more k x t e = at_drop_more (find_from k x t) ms i d h ∙ cond-false _ _ _ e

  pub overlap_here : (k x : ℕ) (s : Span) → overlaps x s (get_or ms i d) ≡ true → overlap_from k x s (drop i ms) ≡ Some k
  overlap_here k x s e = at_drop_more (overlap_from k x s) ms i d h ∙ cond-true _ _ _ e

  pub overlap_more : (k x : ℕ) (s : Span) → overlaps x s (get_or ms i d) ≡ false → overlap_from k x s (drop i ms) ≡ overlap_from (k + 1) x s (drop (i + 1) ms)
  overlap_more k x s e = at_drop_more (overlap_from k x s) ms i d h ∙ cond-false _ _ _ e

  pub greatest_here : (x : ℕ) → (get_or ms i d).location ≡ x → greatest_end x (drop i ms) ≡ max (get_or ms i d).span.to (greatest_end x (drop (i + 1) ms))
  greatest_here x e =
      at_drop_more (greatest_end x) ms i d h ∙ ap (λ (n : ℕ). max n (greatest_end x (drop (i + 1) ms))) (cond-true _ _ _ (eq-eqb _ _ e))

  pub greatest_more : (x : ℕ) → ((get_or ms i d).location ≡ x → ⊥) → greatest_end x (drop i ms) ≡ max 0 (greatest_end x (drop (i + 1) ms))
  greatest_more x e =
      at_drop_more (greatest_end x) ms i d h ∙ ap (λ (n : ℕ). max n (greatest_end x (drop (i + 1) ms))) (cond-false _ _ _ (ne_eqb _ _ e))

pub find_past : (ms : List Message) (i k x t : ℕ) → length ms ≤ i → find_from k x t (drop i ms) ≡ None
find_past ms i k x t h = at_drop_all (find_from k x t) ms i h

pub overlap_past : (ms : List Message) (i k x : ℕ) (s : Span) → length ms ≤ i → overlap_from k x s (drop i ms) ≡ None
overlap_past ms i k x s h = at_drop_all (overlap_from k x s) ms i h

pub greatest_past : (ms : List Message) (i x : ℕ) → length ms ≤ i → greatest_end x (drop i ms) ≡ 0
greatest_past ms i x h = at_drop_all (greatest_end x) ms i h
