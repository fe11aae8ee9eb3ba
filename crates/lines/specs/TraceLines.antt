-- The lines of a trace, of n threads and l locations.
use Rattle.std.specs.Prelude.{ℕ, ◌+◌, ◌-◌, List, [], ◌∷◌, Some, slice_index}
use Rattle.lines.specs.declared.trace.Kind.{Kind}
use Rattle.lines.specs.declared.trace.Kind.TheVariants as kind
use Rattle.lines.specs.declared.trace.Line.{Line}
use Rattle.lines.specs.declared.trace.Line.TheVariants as line
use Rattle.lines.specs.declared.span.Span.{Span}
use Rattle.lines.specs.Families.{Family}
use Rattle.lines.specs.Spelling.{InRange}

-- T N R W U G H X E
abbrev pub trace_letters : List (ℕ × Kind)
trace_letters = (84, kind.Turn) ∷ (78, kind.Next) ∷ (82, kind.Read) ∷ (87, kind.Write) ∷ (85, kind.Update) ∷ (71, kind.Promise) ∷ (72, kind.Keep) ∷ (88, kind.Show) ∷ (69, kind.EndTurn) ∷ []

abbrev pub trace_letter : Kind → ℕ
trace_letter kind.Turn = 84
trace_letter kind.Next = 78
trace_letter kind.Read = 82
trace_letter kind.Write = 87
trace_letter kind.Update = 85
trace_letter kind.Promise = 71
trace_letter kind.Keep = 72
trace_letter kind.Show = 88
trace_letter kind.EndTurn = 69

-- the largest end
abbrev pub most_end : ℕ
most_end = 65535

abbrev pub trace_limits : ℕ → ℕ → Kind → List ℕ
trace_limits n l kind.Turn = (n - 1) ∷ []
trace_limits n l kind.Next = []
trace_limits n l kind.Read = most_end ∷ []
trace_limits n l kind.Write = most_end ∷ most_end ∷ []
trace_limits n l kind.Update = most_end ∷ most_end ∷ []
trace_limits n l kind.Promise = (l - 1) ∷ 65535 ∷ most_end ∷ most_end ∷ []
trace_limits n l kind.Keep = most_end ∷ []
trace_limits n l kind.Show = []
trace_limits n l kind.EndTurn = []

-- the span of the two numbers from place k on
abbrev pub span_of : List ℕ → ℕ → Span
span_of vs k = record { from = slice_index vs k; to = slice_index vs (k + 1) }

abbrev pub trace_make : Kind → List ℕ → Line
trace_make kind.Turn vs = line.Turn (slice_index vs 0)
trace_make kind.Next vs = line.Next
trace_make kind.Read vs = line.Read (slice_index vs 0)
trace_make kind.Write vs = line.Write (span_of vs 0)
trace_make kind.Update vs = line.Update (span_of vs 0)
trace_make kind.Promise vs = line.Promise (slice_index vs 0) (slice_index vs 1) (span_of vs 2)
trace_make kind.Keep vs = line.Keep (slice_index vs 0)
trace_make kind.Show vs = line.Show
trace_make kind.EndTurn vs = line.EndTurn

abbrev pub trace_kind : Line → Kind
trace_kind (line.Turn i) = kind.Turn
trace_kind line.Next = kind.Next
trace_kind (line.Read t) = kind.Read
trace_kind (line.Write s) = kind.Write
trace_kind (line.Update s) = kind.Update
trace_kind (line.Promise x v s) = kind.Promise
trace_kind (line.Keep t) = kind.Keep
trace_kind line.Show = kind.Show
trace_kind line.EndTurn = kind.EndTurn

abbrev pub trace_numbers : Line → List ℕ
trace_numbers (line.Turn i) = i ∷ []
trace_numbers line.Next = []
trace_numbers (line.Read t) = t ∷ []
trace_numbers (line.Write s) = s.from ∷ s.to ∷ []
trace_numbers (line.Update s) = s.from ∷ s.to ∷ []
trace_numbers (line.Promise x v s) = x ∷ v ∷ s.from ∷ s.to ∷ []
trace_numbers (line.Keep t) = t ∷ []
trace_numbers line.Show = []
trace_numbers line.EndTurn = []

abbrev pub trace_lines : ℕ → ℕ → Family Kind Line
trace_lines n l =
    record {
      letters = trace_letters;
      limits = trace_limits n l;
      make = λ k vs. Some (trace_make k vs);
      letter_of = trace_letter;
      kind_of = trace_kind;
      numbers = trace_numbers;
    }

-- each number of the line is in range
abbrev pub TraceFits : ℕ → ℕ → Line → Type 0
TraceFits n l a = InRange (trace_limits n l (trace_kind a)) (trace_numbers a)
