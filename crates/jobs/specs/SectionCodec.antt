-- D lines are a family with one spelling.
use Rattle.std.proofs.Common.{◌≡◌, ℕ, List, [], ◌∷◌, get_or, sym, refl, ap, ◌∙◌, arith}
use Rattle.lines.specs.Spelling.{InRange}
use Rattle.lines.proofs.Options.{some_same}
use Rattle.lines.specs.Codecs.{Codec, gets_all}
use Rattle.lines.proofs.Spelled.{range_at}
use Rattle.jobs.specs.declared.section.Section.{Section}
use Rattle.jobs.specs.Sections.{section_lines, SectionFits}

abbrev section_limits : List ℕ
section_limits = 65535 ∷ 65535 ∷ []

section_makes : (vs : List ℕ) (s : Section) → InRange section_limits vs → record { offset = get_or vs 0 0; length = get_or vs 1 0 } ≡ s → (s.offset ∷ s.length ∷ [] ≡ vs) × SectionFits s
section_makes vs s h e =
    let first : s.offset ≡ get_or vs 0 0 = ap (λ (x : Section). x.offset) (sym e) in
    let second : s.length ≡ get_or vs 1 0 = ap (λ (x : Section). x.length) (sym e) in
    (ap (λ (x : Section). x.offset ∷ x.length ∷ []) (sym e) ∙ gets_all section_limits vs h, (omega (arith, range_at section_limits vs h 0 (omega arith)), omega (arith, range_at section_limits vs h 1 (omega arith))))

pub section_codec : Codec section_lines SectionFits
section_codec =
    record {
      writable = λ _. (omega arith, (omega arith, tt));
      found = λ _. refl;
      right = (refl, tt);
      writes = λ s fits. ((fits.0, (fits.1, tt)), refl);
      makes = λ k vs s h e. let m = section_makes vs s h (some_same e) in (refl, m.0, m.1);
    }
