-- What one turn of the programs' reader keeps.
use Rattle.std.proofs.Common.{◌≡◌, ℕ, ◌+◌, ◌<◌, ◌≤◌, List, [], ◌∷◌, ◌++◌, map, length, get_or, take, drop, set, Ok, Err, Result, ap, ◌∙◌}
use Rattle.std.proofs.lemmas.List.{at_drop_more, at_drop_all, take_more_set, map_push}
use Rattle.lines.specs.declared.reader.LineFault.{LineFault}
use Rattle.lines.specs.declared.refusal.LineRefusal.{LineRefusal}
use Rattle.languages.specs.declared.read_program.Program.{Program}
use Rattle.languages.specs.declared.read_program.ProgramFault.{ProgramFault}
use Rattle.languages.specs.Programs.{program, program_lines}
use Rattle.jobs.specs.declared.section.Section.{Section}
use Rattle.jobs.specs.Faults.{in_section, program_fault}
use Rattle.jobs.specs.Programs.{cut, programs_after}
use Rattle.jobs.specs.Heads.{and_then}

module _ {I : Type 0} (reads : List ℕ → Result (I × List ℕ) LineFault) (file : List ℕ) (ds : List Section) (i : ℕ) (d : Section) where
  programs_step : i < length ds → (s : ℕ) (ps : List (List I)) → programs_after reads file s ps (drop i ds) ≡ and_then (in_section program_fault s (program reads (cut file (get_or ds i d)))) (λ p. programs_after reads file (s + 1) (ps ++ (p ∷ [])) (drop (i + 1) ds))
  programs_step h s ps = at_drop_more (programs_after reads file s ps) ds i d h

  pub programs_stop : i < length ds → (s : ℕ) (ps : List (List I)) (e : LineRefusal ProgramFault) → program reads (cut file (get_or ds i d)) ≡ Err e → programs_after reads file s ps (drop i ds) ≡ Err (record { fault = program_fault e.fault; section = s; line = e.line })
  programs_stop h s ps e r = programs_step h s ps ∙ ap (λ o. and_then (in_section program_fault s o) (λ p. programs_after reads file (s + 1) (ps ++ (p ∷ [])) (drop (i + 1) ds))) r

  pub programs_more : i < length ds → (s : ℕ) (ps : List (List I)) (p : List I) → program reads (cut file (get_or ds i d)) ≡ Ok p → programs_after reads file s ps (drop i ds) ≡ programs_after reads file (s + 1) (ps ++ (p ∷ [])) (drop (i + 1) ds)
  programs_more h s ps p r = programs_step h s ps ∙ ap (λ o. and_then (in_section program_fault s o) (λ q. programs_after reads file (s + 1) (ps ++ (q ∷ [])) (drop (i + 1) ds))) r

  pub programs_end : length ds ≤ i → (s : ℕ) (ps : List (List I)) → programs_after reads file s ps (drop i ds) ≡ Ok ps
  programs_end h s ps = at_drop_all (programs_after reads file s ps) ds i h

pub one_program : {I : Type 0} (ps : List (Program I)) (i : ℕ) (p : Program I) → i < length ps → map program_lines (take (i + 1) (set ps i p)) ≡ map program_lines (take i ps) ++ (program_lines p ∷ [])
one_program ps i p h = ap (map program_lines) (take_more_set ps i p h) ∙ map_push program_lines (take i ps) p
