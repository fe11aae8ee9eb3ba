use Rattle.jobs.specs.Headings.{heading_of}
use Rattle.jobs.proofs.HeadLaws.{head_exact, refuses_head}
use Rattle.jobs.proofs.head.Head.read.Goals as goal

pub returns : goal.returns
returns c =
    record {
      value = c.head_of.ensures;
      exact = head_exact c.args.file.now (heading_of c.head_of.result) c.head_of.ensures;
      refuses = refuses_head c.args.file.now (heading_of c.head_of.result) c.head_of.ensures;
    }
