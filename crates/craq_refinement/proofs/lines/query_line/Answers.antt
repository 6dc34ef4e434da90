use Rattle.craq_refinement.proofs.EachStep.{query_line}
use Rattle.craq_refinement.proofs.lines.query_line.Goals as goal

pub returns : goal.returns
returns c = query_line
