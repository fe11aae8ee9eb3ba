use Rattle.std.proofs.Common.{◌≡◌, ◌+◌, ◌≤◌, length}
use Rattle.lines.specs.Walks.{walk, reached}
use Rattle.run.specs.Models.{run_of}
use Rattle.judge.specs.Traces.{one_line, followed}
use Rattle.judge.proofs.trace.take_lines.Given as goal

abbrev pub invariant-loop-reader : goal.invariant-loop-reader
invariant-loop-reader g l =
    let n = l.scope.threads in
    let x = l.scope.locations in
    let m = run_of g.L.Language g.S.Store in
    (l.count + length l.reader.rest.now ≤ length l.section)
    × (walk (one_line n x) (length l.reader.rest.now) (record { count = l.count; run = m l.run }) (l.count + 1) l.reader.rest.now
    ≡ followed n x (m l.initial.run) l.section)
    × (reached (one_line n x) (record { count = l.count; run = m l.run }) l.reader.rest.now
    ≡ reached (one_line n x) (record { count = 0; run = m l.initial.run }) l.section)

abbrev pub decreases-loop-reader : goal.decreases-loop-reader
decreases-loop-reader g l = length l.reader.rest.now
