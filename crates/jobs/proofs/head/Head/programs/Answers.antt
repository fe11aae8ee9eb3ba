use Rattle.std.proofs.Common.{◌≡◌, ◌+◌, ◌<◌, [], map, length, take, drop, Ok, Err, sym, ap, ◌∙◌, arith}
use Rattle.bounded.specs.Fixed.{elements}
use Rattle.std.proofs.lemmas.List.{length-set, length-take, length-take-le}
use Rattle.languages.specs.Programs.{program, program_lines}
use Rattle.jobs.specs.Programs.{nowhere, programs_after}
use Rattle.jobs.proofs.ProgramsRead.{programs_stop, programs_more, programs_end, one_program}
use Rattle.jobs.proofs.head.Head.programs.Goals as goal

pub returns-in-Err : goal.returns-in-Err
returns-in-Err g c =
    let reads = g.I.ProgramLine.reads c.args.self.now.job.scope.locations in
    let file = c.args.file.now in
    let ds = take c.threads-threads.result c.as_slice-sections.result.now in
    let i = c.loop-i.i in
    let r = ap (program reads) (sym c.cut.ensures) ∙ sym c.in-Err.ensures in
    let stop = programs_stop reads file ds i nowhere c.loop-i-test.true (i + 1) (map program_lines (take i c.loop-i.programs)) c.in-Err.refusal r in
    let same : ds ≡ take c.args.self.now.job.scope.threads (elements c.args.self.now.sections) = λ j. take (c.threads-threads.ensures j) (c.as_slice-sections.ensures.value j) in
    (λ j. Err (record { fault = c.in_section.ensures.fault j; section = c.in_section.ensures.section j; line = c.in_section.ensures.line j })) ∙ sym stop ∙ c.loop-i.invariant.1 ∙ ap (programs_after reads file 1 []) same

pub loop-i-preserved : goal.loop-i-preserved
loop-i-preserved g c =
    let reads = g.I.ProgramLine.reads c.args.self.now.job.scope.locations in
    let file = c.args.file.now in
    let ds = take c.threads-threads.result c.as_slice-sections.result.now in
    let i = c.loop-i.i in
    let p = c.in-Ok.program in
    let so_far = map program_lines (take i c.loop-i.programs) in
    let r = ap (program reads) (sym c.cut.ensures) ∙ sym c.in-Ok.ensures in
    let more = programs_more reads file ds i nowhere c.loop-i-test.true (i + 1) so_far (program_lines p) r in
    let few : i < 4 = omega (arith, c.threads-threads.ensures, length-take c.threads-threads.result c.as_slice-sections.result.now) in
    (length-set c.loop-i.programs i p ∙ c.loop-i.invariant.0, ap (λ ps. programs_after reads file (i + 1 + 1) ps (drop (i + 1) ds)) (one_program c.loop-i.programs i p (omega (arith, c.loop-i.invariant.0))) ∙ sym more ∙ c.loop-i.invariant.1)

pub returns : goal.returns
returns g c =
    let reads = g.I.ProgramLine.reads c.args.self.now.job.scope.locations in
    let file = c.args.file.now in
    let ds = take c.threads-threads.result c.as_slice-sections.result.now in
    let i = c.loop-i.i in
    let end = programs_end reads file ds i nowhere c.loop-i-test.false (i + 1) (map program_lines (take i c.loop-i.programs)) in
    let same : ds ≡ take c.args.self.now.job.scope.threads (elements c.args.self.now.sections) = λ j. take (c.threads-threads.ensures j) (c.as_slice-sections.ensures.value j) in
    let long : length ds ≡ c.threads-threads.result = length-take-le c.threads-threads.result c.as_slice-sections.result.now (omega (arith, ap length c.as_slice-sections.ensures.value)) in
    let at_end : c.args.self.now.job.scope.threads ≡ i = omega arith in
    ap (λ k. Ok (map program_lines (take k c.loop-i.programs))) at_end ∙ sym end ∙ c.loop-i.invariant.1 ∙ ap (programs_after reads file 1 []) same
