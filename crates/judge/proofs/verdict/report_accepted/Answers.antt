use Rattle.std.proofs.Common.{[], sym, ap, ◌∙◌, lit<}
use Rattle.bounded.specs.Fixed.{elements}
use mir.Syntax.{erased}
use Rattle.lines.specs.Families.{reads}
use Rattle.languages.specs.RegisterLines.{register_lines}
use Rattle.languages.specs.Registers.{register_start}
use Rattle.languages.specs.StripLines.{strip_lines}
use Rattle.languages.specs.Strips.{strip_start}
use Rattle.jobs.specs.Heads.{Heading}
use Rattle.jobs.specs.Jobs.{job_of}
use Rattle.jobs.proofs.HeadLaws.{file_head_was}
use Rattle.judge.specs.Verdicts.{read_in}
use Rattle.judge.proofs.VerdictSteps.{programs_told, read_told}
use Rattle.judge.proofs.verdict.report_accepted.Goals as goal

pub report_run-requires : goal.report_run-requires
report_run-requires g c =
    let head = c.in-Ok.head in
    let small = file_head_was c.args.file.now (record { job = job_of head.job; sections = (elements head.sections) }) (sym c.in-Ok.ensures) in
    (lit< tt, (c.requires.layout.registers (record { mir = erased; lft = [] }), small.0))

pub report_run-requires-in-Ok-programs-2 : goal.report_run-requires-in-Ok-programs-2
report_run-requires-in-Ok-programs-2 g c =
    let head = c.in-Ok.head in
    let small = file_head_was c.args.file.now (record { job = job_of head.job; sections = (elements head.sections) }) (sym c.in-Ok.ensures) in
    (lit< tt, (c.requires.layout.strips (record { mir = erased; lft = [] }), small.0))

pub returns-in-Ok-programs : goal.returns-in-Ok-programs
returns-in-Ok-programs g c =
    let head = c.in-Ok.head in
    let file = c.args.file.now in
    let n = head.job.scope.threads in
    let l = head.job.scope.locations in
    let capacity = g.S.Store.capacity c.args.store in
    let h : Heading = record { job = job_of head.job; sections = (elements head.sections) } in
    let rs = reads (register_lines l) in
    c.report_run.ensures ∙ programs_told rs register_start capacity file n l (elements head.sections) c.in-Ok-programs.programs _ c.in-Ok-programs.ensures c.threads.ensures
    ∙ read_told capacity file h c.in-Ok.ensures rs register_start (ap (λ x. read_in x capacity file n l (elements head.sections)) c.in-Registers.is)

pub returns-in-Ok-programs-2 : goal.returns-in-Ok-programs-2
returns-in-Ok-programs-2 g c =
    let head = c.in-Ok.head in
    let file = c.args.file.now in
    let n = head.job.scope.threads in
    let l = head.job.scope.locations in
    let capacity = g.S.Store.capacity c.args.store in
    let h : Heading = record { job = job_of head.job; sections = (elements head.sections) } in
    let rs = reads (strip_lines l) in
    c.report_run-in-Ok-programs-2.ensures ∙ programs_told rs strip_start capacity file n l (elements head.sections) c.in-Ok-programs-2.programs _ c.in-Ok-programs-2.ensures c.threads-in-Ok-programs-2.ensures
    ∙ read_told capacity file h c.in-Ok.ensures rs strip_start (ap (λ x. read_in x capacity file n l (elements head.sections)) c.in-Strips.is)
