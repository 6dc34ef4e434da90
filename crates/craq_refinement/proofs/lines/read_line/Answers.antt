use Rattle.craq_refinement.proofs.EachStep.{read_line}
use Rattle.craq_refinement.proofs.lines.read_line.Goals as goal

pub returns : goal.returns
returns c = read_line
