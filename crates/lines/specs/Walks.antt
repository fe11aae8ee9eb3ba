-- The lines of a section, one after another.
use Rattle.std.specs.Prelude.{ℕ, zero, suc, ◌+◌, List, [], ◌∷◌, length, Ok, Err, Result}
use Rattle.lines.specs.declared.refusal.LineRefusal.{LineRefusal}

-- going on after line n, or its refusal
abbrev pub goes_on : {S F : Type 0} → Result (S × List ℕ) F → ℕ → (S → List ℕ → Result S (LineRefusal F)) → Result S (LineRefusal F)
goes_on (Err f) n on = Err (record { fault = f; line = n })
goes_on (Ok p) n on = on p.0 p.1

-- going on with what the line made, or staying where it is refused
abbrev pub stays_or : {S F : Type 0} → S → Result (S × List ℕ) F → (S → List ℕ → S) → S
stays_or s (Err f) on = s
stays_or s (Ok p) on = on p.0 p.1

module _ {S F : Type 0} (step : S → List ℕ → Result (S × List ℕ) F) where
  -- from line n on; the first argument is at least the number of bytes, so that these run out first
  abbrev pub walk : ℕ → S → ℕ → List ℕ → Result S (LineRefusal F)
  walk most s n [] = Ok s
  walk zero s n (b ∷ bs) = Ok s
  walk (suc most) s n (b ∷ bs) = goes_on (step s (b ∷ bs)) n (λ s' rest. walk most s' (n + 1) rest)

  -- each line is taken on what the lines before it made, to the end or to the first refused
  abbrev pub walked : S → List ℕ → Result S (LineRefusal F)
  walked s bs = walk (length bs) s 1 bs

  -- the same walk, to what it made where it ends
  abbrev pub reach : ℕ → S → List ℕ → S
  reach most s [] = s
  reach zero s (b ∷ bs) = s
  reach (suc most) s (b ∷ bs) = stays_or s (step s (b ∷ bs)) (λ s' rest. reach most s' rest)

  -- what the lines make, to the end or to the first refused
  abbrev pub reached : S → List ℕ → S
  reached s bs = reach (length bs) s bs
