use Rattle.std.proofs.Common.{arith}
use Rattle.languages.specs.Programs.{with_line}
use Rattle.languages.proofs.ProgramSteps.{added, program_shorter, step_more}
use Rattle.languages.proofs.read_program.Program.read.Goals as goal

pub loop-reader-smaller : goal.loop-reader-smaller
loop-reader-smaller g c =
    let reads = g.I.ProgramLine.reads c.args.scope.locations in
    let bs = c.loop-reader.reader.rest.now in
    let rest = c.read_line.new.reader.rest.now in
    let before = c.loop-reader.lines in
    let after = c.read_line.new.lines in
    let e = added (with_line before (reads bs)) after rest c.in_default.ensures in
    program_shorter reads (λ xs line more e. g.met.I.ProgramLine.shortens c.args.scope.locations (omega arith) xs line more e) before after bs rest e

pub loop-reader-preserved : goal.loop-reader-preserved
loop-reader-preserved g c =
    let reads = g.I.ProgramLine.reads c.args.scope.locations in
    let bs = c.loop-reader.reader.rest.now in
    let rest = c.read_line.new.reader.rest.now in
    let before = c.loop-reader.lines in
    let after = c.read_line.new.lines in
    let e = added (with_line before (reads bs)) after rest c.in_default.ensures in
    rw (step_more reads (λ xs line more e. g.met.I.ProgramLine.shortens c.args.scope.locations (omega arith) xs line more e) before after bs rest (omega arith) e) c.loop-reader.invariant
