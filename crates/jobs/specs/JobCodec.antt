-- J lines are a family with one spelling.
use Rattle.std.proofs.Common.{◌≡◌, ℕ, ◌≤◌, true, List, [], ◌∷◌, get_or, Some, sym, refl, ap, ◌∙◌, inl, inr, arith, eq-eqb, ne_eqb}
use Rattle.std.proofs.lemmas.Bool.{and_parts, cases_Bool, cases_eq, leb-true}
use Rattle.lines.specs.Scopes.{in_scope}
use Rattle.lines.specs.Spelling.{InRange}
use Rattle.std.proofs.lemmas.Option.{none-some}
use Rattle.lines.proofs.Options.{some_same}
use Rattle.lines.specs.Codecs.{Codec, gets_all}
use Rattle.lines.proofs.Spelled.{range_at}
use Rattle.jobs.specs.declared.job.LanguageChoice.{LanguageChoice}
use Rattle.jobs.specs.declared.job.LanguageChoice.TheVariants.{Registers, Strips}
use Rattle.jobs.specs.Jobs.{Job, language_of, language_number, job_make, job_lines, JobFits}

language_small : (g : LanguageChoice) → language_number g ≤ 1
language_small Registers = omega arith
language_small Strips = omega arith

same_language : (g : LanguageChoice) → language_of (language_number g) ≡ g
same_language Registers = refl
same_language Strips = refl

language_back : (v : ℕ) → v ≤ 1 → language_number (language_of v) ≡ v
language_back v h = elim (cases_eq v 0) [ inl z ↦ rw (eq-eqb v 0 z) (sym z) | inr n ↦ rw (ne_eqb v 0 n) (omega arith) ]

pub scope_tells : (n l : ℕ) → in_scope n l ≡ true → (n ≤ 4) × (l ≤ 8)
scope_tells n l e =
    let p = and_parts _ _ e in
    (leb-true n 4 (and_parts _ _ p.0).1, leb-true l 8 (and_parts _ _ p.1).1)

job_writes : (j : Job) → JobFits j → InRange (1 ∷ 4 ∷ 8 ∷ []) (language_number j.language ∷ j.threads ∷ j.locations ∷ []) × (job_make (language_number j.language ∷ j.threads ∷ j.locations ∷ []) ≡ Some j)
job_writes j fits =
    let t = scope_tells j.threads j.locations fits in
    ((language_small j.language, (t.0, (t.1, tt))), rw (fits, same_language j.language))

job_makes : (vs : List ℕ) (j : Job) → InRange (1 ∷ 4 ∷ 8 ∷ []) vs → job_make vs ≡ Some j → (language_number j.language ∷ j.threads ∷ j.locations ∷ [] ≡ vs) × JobFits j
job_makes vs j h e = elim (cases_Bool (in_scope (get_or vs 1 0) (get_or vs 2 0))) [
  | inl t ↦ let same = some_same (rw t at e) in
      (ap (λ (x : Job). language_number x.language ∷ x.threads ∷ x.locations ∷ []) (sym same) ∙ ap (λ g. g ∷ get_or vs 1 0 ∷ get_or vs 2 0 ∷ []) (language_back (get_or vs 0 0) (range_at (1 ∷ 4 ∷ 8 ∷ []) vs h 0 (omega arith))) ∙ gets_all (1 ∷ 4 ∷ 8 ∷ []) vs h, ap (λ (x : Job). in_scope x.threads x.locations) (sym same) ∙ t)
  | inr f ↦ absurd (none-some _ (rw f at e))
]

pub job_codec : Codec job_lines JobFits
job_codec =
    record {
      writable = λ _. (omega arith, (omega arith, (omega arith, tt)));
      found = λ _. refl;
      right = (refl, tt);
      writes = λ j fits. job_writes j fits;
      makes = λ k vs j h e. let m = job_makes vs j h e in (refl, m.0, m.1);
    }
