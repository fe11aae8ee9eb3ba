-- Trace lines are such a family.
use Rattle.std.proofs.Common.{◌≡◌, ℕ, ◌≤◌, List, Some, refl, arith}
use Rattle.lines.specs.declared.trace.Kind.{Kind}
use Rattle.lines.specs.declared.trace.Kind.TheVariants as kind
use Rattle.lines.specs.declared.trace.Line.{Line}
use Rattle.lines.specs.declared.trace.Line.TheVariants as line
use Rattle.lines.specs.Families.{lookup}
use Rattle.lines.specs.Spelling.{InRange}
use Rattle.lines.specs.TraceLines.{trace_letters, trace_letter, trace_limits, trace_make, trace_kind, trace_numbers, trace_lines, TraceFits}
use Rattle.lines.specs.Codecs.{Codec, Writable, gets_all, whole_codec}

module _ (n l : ℕ) (few : n ≤ 4) (small : l ≤ 8) where
  trace_writable : (k : Kind) → Writable (trace_limits n l k)
  trace_writable kind.Turn = (omega arith, tt)
  trace_writable kind.Next = tt
  trace_writable kind.Read = (omega arith, tt)
  trace_writable kind.Write = (omega arith, (omega arith, tt))
  trace_writable kind.Update = (omega arith, (omega arith, tt))
  trace_writable kind.Promise = (omega arith, (omega arith, (omega arith, (omega arith, tt))))
  trace_writable kind.Keep = (omega arith, tt)
  trace_writable kind.Show = tt
  trace_writable kind.EndTurn = tt

  trace_found : (k : Kind) → lookup trace_letters (trace_letter k) ≡ Some k
  trace_found kind.Turn = refl
  trace_found kind.Next = refl
  trace_found kind.Read = refl
  trace_found kind.Write = refl
  trace_found kind.Update = refl
  trace_found kind.Promise = refl
  trace_found kind.Keep = refl
  trace_found kind.Show = refl
  trace_found kind.EndTurn = refl

  trace_written : (a : Line) → trace_make (trace_kind a) (trace_numbers a) ≡ a
  trace_written (line.Turn i) = refl
  trace_written line.Next = refl
  trace_written (line.Read t) = refl
  trace_written (line.Write s) = refl
  trace_written (line.Update s) = refl
  trace_written (line.Promise x v s) = refl
  trace_written (line.Keep t) = refl
  trace_written line.Show = refl
  trace_written line.EndTurn = refl

  trace_made_kind : (k : Kind) (vs : List ℕ) → trace_kind (trace_make k vs) ≡ k
  trace_made_kind kind.Turn vs = refl
  trace_made_kind kind.Next vs = refl
  trace_made_kind kind.Read vs = refl
  trace_made_kind kind.Write vs = refl
  trace_made_kind kind.Update vs = refl
  trace_made_kind kind.Promise vs = refl
  trace_made_kind kind.Keep vs = refl
  trace_made_kind kind.Show vs = refl
  trace_made_kind kind.EndTurn vs = refl

  trace_made_numbers : (k : Kind) (vs : List ℕ) → InRange (trace_limits n l k) vs → trace_numbers (trace_make k vs) ≡ vs
  trace_made_numbers kind.Turn vs h = gets_all (trace_limits n l kind.Turn) vs h
  trace_made_numbers kind.Next vs h = gets_all (trace_limits n l kind.Next) vs h
  trace_made_numbers kind.Read vs h = gets_all (trace_limits n l kind.Read) vs h
  trace_made_numbers kind.Write vs h = gets_all (trace_limits n l kind.Write) vs h
  trace_made_numbers kind.Update vs h = gets_all (trace_limits n l kind.Update) vs h
  trace_made_numbers kind.Promise vs h = gets_all (trace_limits n l kind.Promise) vs h
  trace_made_numbers kind.Keep vs h = gets_all (trace_limits n l kind.Keep) vs h
  trace_made_numbers kind.Show vs h = gets_all (trace_limits n l kind.Show) vs h
  trace_made_numbers kind.EndTurn vs h = gets_all (trace_limits n l kind.EndTurn) vs h

  pub trace_codec : Codec (trace_lines n l) (TraceFits n l)
  trace_codec =
      whole_codec trace_letters (trace_limits n l) trace_make trace_letter trace_kind trace_numbers trace_writable trace_found (refl, (refl, (refl, (refl, (refl, (refl, (refl, (refl, (refl, tt))))))))) trace_written trace_made_kind trace_made_numbers
