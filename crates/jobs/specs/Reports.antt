-- The report on a file, by what was found of it.
use Rattle.std.specs.Prelude.{ℕ, List, Ok, Err, Result}
use Rattle.lines.specs.declared.layer.Layer.{Layer}
use Rattle.jobs.specs.declared.fault.Refusal.{Refusal}
use Rattle.jobs.specs.declared.text.Text.{Text}
use Rattle.jobs.specs.Faults.{refused_text}

-- what the code found, as a list of bytes where the file is accepted
abbrev pub told_by : {F : Type 0} → Result Text (Refusal F) → Result (List ℕ) (Refusal F)
told_by (Ok text) = Ok text.bytes
told_by (Err r) = Err r

abbrev pub said : {F : Type 0} → (F → ℕ) → (F → Layer) → Result (List ℕ) (Refusal F) → List ℕ
said number layer (Ok text) = text
said number layer (Err r) = refused_text number layer r
