-- What one turn of the program's reader keeps.
use Rattle.std.proofs.Common.{◌≡◌, ℕ, ◌+◌, ◌<◌, List, length, Ok, Err, Result, sym, ap, ◌∙◌}
use Rattle.std.proofs.lemmas.List.{length_push}
use Rattle.lines.specs.declared.reader.LineFault.{LineFault}
use Rattle.lines.specs.Walks.{walk}
use Rattle.lines.proofs.Options.{err_ok}
use Rattle.lines.proofs.Sections.{taken}
use Rattle.lines.proofs.Walked.{walk_more}
use Rattle.languages.specs.declared.read_program.ProgramFault.{ProgramFault}
use Rattle.languages.specs.Programs.{with_line, Adds}
use Rattle.languages.proofs.ProgramSpelled.{program_takes}

pub added : {I : Type 0} (o : Result (List I × List ℕ) ProgramFault) (lines : List I) (rest : List ℕ) → Adds o (Ok tt) lines rest → o ≡ Ok (lines, rest)
added (Err f) lines rest h = absurd (err_ok (sym h))
added (Ok p) lines rest h = ap (λ xs. Ok (xs, p.1)) (sym h.1) ∙ ap (λ xs. Ok (lines, xs)) (sym h.2)

module _ {I : Type 0} (reads : List ℕ → Result (I × List ℕ) LineFault) where
  abbrev pub program_step : List I → List ℕ → Result (List I × List ℕ) ProgramFault
  program_step lines bs = with_line lines (reads bs)

  module _ (shortens : (bs : List ℕ) (line : I) (rest : List ℕ) → reads bs ≡ Ok (line, rest) → length rest < length bs) where
    pub program_shorter : (lines more : List I) (bs rest : List ℕ) → program_step lines bs ≡ Ok (more, rest) → length rest < length bs
    program_shorter lines more bs rest e = let t = taken program_takes (reads bs) lines more rest e in shortens bs t.0 rest t.1

    pub step_more : (lines more : List I) (bs rest : List ℕ) → 0 < length bs → program_step lines bs ≡ Ok (more, rest) → walk program_step (length rest) more (length more + 1) rest ≡ walk program_step (length bs) lines (length lines + 1) bs
    step_more lines more bs rest some e =
        let t = taken program_takes (reads bs) lines more rest e in
        let long : length more ≡ length lines + 1 = ap length t.2.1 ∙ length_push lines t.0 in
        ap (λ n. walk program_step (length rest) more (n + 1) rest) long ∙ sym (walk_more program_step program_shorter lines more (length lines + 1) bs rest some e)
