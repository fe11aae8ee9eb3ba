-- What the reader's calls answer, and what they leave to be read.
use Rattle.std.specs.Prelude.{◌≡◌, ℕ, Bool, true, false, List, Some, None, Ok, Err, Option, Result}
use Rattle.lines.specs.declared.reader.LineFault.{LineFault}

-- the byte was next, and was passed
abbrev pub Passes : Option (List ℕ) → Bool → List ℕ → List ℕ → Type 0
Passes None r before after = (r ≡ false) × (after ≡ before)
Passes (Some rest) r before after = (r ≡ true) × (after ≡ rest)

abbrev pub Reads : {A : Type 0} → Option (A × List ℕ) → Option A → List ℕ → Type 0
Reads None r after = r ≡ None
Reads (Some f) r after = (r ≡ Some f.0) × (after ≡ f.1)

-- what was read
abbrev pub read : {A : Type 0} → Result (A × List ℕ) LineFault → Result A LineFault
read (Ok p) = Ok p.0
read (Err f) = Err f

-- what is left to be read: where the line is refused, all of it
abbrev pub unread : {A : Type 0} → Result (A × List ℕ) LineFault → List ℕ → List ℕ
unread (Ok p) bs = p.1
unread (Err f) bs = bs
