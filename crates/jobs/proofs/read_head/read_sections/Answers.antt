use Rattle.std.proofs.Common.{◌≡◌, ◌+◌, ◌-◌, [], ◌∷◌, ◌++◌, length, sym, refl, ap, ◌∙◌, arith}
use Rattle.std.proofs.lemmas.Bool.{cond-true, lt-ltb}
use Rattle.std.proofs.lemmas.List.{length_push}
use Rattle.lines.specs.Families.{reads}
use Rattle.lines.proofs.Familiar.{was_read, was_refused}
use Rattle.jobs.specs.Sections.{section_lines}
use Rattle.jobs.specs.Heads.{sections_from}
use Rattle.jobs.proofs.HeadSteps.{sections_stop, sections_more, sections_end}
use Rattle.jobs.proofs.read_head.read_sections.Goals as goal

pub returns-in-Err : goal.returns-in-Err
returns-in-Err c =
    let bs = c.loop-k.reader.rest.now in
    let k = c.loop-k.k in
    let e = was_refused (reads section_lines bs) c.in-Err.fault c.in-Err.ensures.value in
    let stop = sections_stop (c.args.count - k) (k + 2) c.loop-k.sections bs c.in-Err.fault (omega arith) e in
    record { value = rw (sym c.loop-k.invariant.1 ∙ stop) refl; many = tt }

pub loop-k-preserved : goal.loop-k-preserved
loop-k-preserved c =
    let bs = c.loop-k.reader.rest.now in
    let rest = c.read.new.reader.rest.now in
    let k = c.loop-k.k in
    let so_far = c.loop-k.sections in
    let s = c.in-Ok.section in
    let e = was_read (reads section_lines bs) s bs rest c.in-Ok.ensures.value c.in-Ok.ensures.left in
    let more = sections_more (c.args.count - k) (k + 2) so_far bs s rest (omega arith) e in
    let new : c.push.new.self ≡ so_far ++ (s ∷ []) = c.push.ensures.after ∙ cond-true _ _ _ (lt-ltb (length so_far) 5 (omega (arith, c.loop-k.invariant.0))) in
    let less : c.args.count - k - 1 ≡ c.args.count - (k + 1) = omega arith in
    let up : k + 2 + 1 ≡ k + 1 + 2 = omega arith in
    (ap length new ∙ length_push so_far s ∙ ap (λ n. n + 1) c.loop-k.invariant.0, ap (λ xs. sections_from (c.args.count - (k + 1)) (k + 1 + 2) xs rest) new ∙ ap (λ m. sections_from m (k + 1 + 2) (so_far ++ (s ∷ [])) rest) (sym less) ∙ ap (λ m. sections_from (c.args.count - k - 1) m (so_far ++ (s ∷ [])) rest) (sym up) ∙ sym more ∙ c.loop-k.invariant.1)

pub returns : goal.returns
returns c =
    record {
      value = rw (sym c.loop-k.invariant.1 ∙ sections_end (c.args.count - c.loop-k.k) (c.loop-k.k + 2) c.loop-k.sections c.loop-k.reader.rest.now (omega arith)) (refl, refl);
      many = omega (arith, c.loop-k.invariant.0);
    }

pub loop-k-init : goal.loop-k-init
loop-k-init c =
    let none : c.args.count - 0 ≡ c.args.count = omega arith in
    (ap length c.new-sections.ensures, ap (λ ss. sections_from (c.args.count - 0) 2 ss c.args.reader.now.rest.now) c.new-sections.ensures ∙ ap (λ n. sections_from n 2 [] c.args.reader.now.rest.now) none)
