-- The number and the layer of each fault of a file, and where it stands.
use Rattle.std.specs.Prelude.{ℕ, List, [], ◌∷◌, Ok, Err, Result}
use Rattle.lines.specs.declared.layer.Layer.{Layer}
use Rattle.lines.specs.declared.layer.Layer.TheVariants as part
use Rattle.lines.specs.Layers.{layer_number}
use Rattle.lines.specs.declared.reader.LineFault.TheVariants.{Form, Range}
use Rattle.lines.specs.declared.refusal.LineRefusal.{LineRefusal}
use Rattle.lines.specs.Spelling.{spelled}
use Rattle.languages.specs.declared.read_program.ProgramFault.{ProgramFault}
use Rattle.languages.specs.declared.read_program.ProgramFault.TheVariants as program
use Rattle.jobs.specs.declared.fault.FileFault.{FileFault}
use Rattle.jobs.specs.declared.fault.FileFault.TheVariants.{FileSize, Line, Sections, TooManyLines}
use Rattle.jobs.specs.declared.fault.Refusal.{Refusal}

abbrev pub fault_number : FileFault → ℕ
fault_number FileSize = 2
fault_number (Line Form) = 3
fault_number (Line Range) = 4
fault_number Sections = 5
fault_number TooManyLines = 6

abbrev pub fault_layer : FileFault → Layer
fault_layer FileSize = part.File
fault_layer (Line f) = part.Line
fault_layer Sections = part.File
fault_layer TooManyLines = part.File

abbrev pub program_fault : ProgramFault → FileFault
program_fault (program.Line f) = Line f
program_fault program.TooMany = TooManyLines

-- the refusal of a line, in a section
abbrev pub in_section : {A E F : Type 0} → (E → F) → ℕ → Result A (LineRefusal E) → Result A (Refusal F)
in_section fault s (Ok a) = Ok a
in_section fault s (Err e) = Err (record { fault = fault e.fault; section = s; line = e.line })

-- the same refusal, where there are more kinds of faults
abbrev pub widened : {A F G : Type 0} → (F → G) → Result A (Refusal F) → Result A (Refusal G)
widened fault (Ok a) = Ok a
widened fault (Err r) = Err (record { fault = fault r.fault; section = r.section; line = r.line })

-- NO with number, layer, section and line
abbrev pub refused_text : {F : Type 0} → (F → ℕ) → (F → Layer) → Refusal F → List ℕ
refused_text number layer r = 78 ∷ spelled 79 (number r.fault ∷ layer_number (layer r.fault) ∷ r.section ∷ r.line ∷ [])
