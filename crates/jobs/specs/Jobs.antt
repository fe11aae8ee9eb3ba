-- J g n l: language 0 or 1, 1 to 4 threads, 1 to 8 locations.
use Rattle.std.specs.Prelude.{◌≡◌, ℕ, true, if◌then◌else◌, List, [], ◌∷◌, Some, None, Option, ◌==◌, slice_index}
use Rattle.lines.specs.Families.{Family}
use Rattle.lines.specs.Scopes.{in_scope}
use Rattle.jobs.specs.declared.job.LanguageChoice.{LanguageChoice}
use Rattle.jobs.specs.declared.job.LanguageChoice.TheVariants.{Registers, Strips}
use Rattle.jobs.specs.declared.job.JobLine.{JobLine}

pub record Job : Type 0 where
  pub language : LanguageChoice
  pub threads : ℕ
  pub locations : ℕ

abbrev pub language_of : ℕ → LanguageChoice
language_of g = if g == 0 then Registers else Strips

abbrev pub language_number : LanguageChoice → ℕ
language_number Registers = 0
language_number Strips = 1

abbrev pub job_make : List ℕ → Option Job
job_make vs =
    if in_scope (slice_index vs 1) (slice_index vs 2) then Some (record { language = language_of (slice_index vs 0); threads = slice_index vs 1; locations = slice_index vs 2 }) else None

abbrev pub job_lines : Family (Unit {0}) Job
job_lines =
    record {
      letters = (74, tt) ∷ [];
      limits = λ _. 1 ∷ 4 ∷ 8 ∷ [];
      make = λ _ vs. job_make vs;
      letter_of = λ _. 74;
      kind_of = λ _. tt;
      numbers = λ j. language_number j.language ∷ j.threads ∷ j.locations ∷ [];
    }

abbrev pub JobFits : Job → Type 0
JobFits j = in_scope j.threads j.locations ≡ true

abbrev pub job_of : JobLine → Job
job_of j = record { language = j.language; threads = j.scope.threads; locations = j.scope.locations }
