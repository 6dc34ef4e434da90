use Rattle.craq_refinement.proofs.Opening.{opening_follows}
use Rattle.craq_refinement.proofs.runs.opening_follows.Goals as goal

pub returns : goal.returns
returns c = opening_follows
