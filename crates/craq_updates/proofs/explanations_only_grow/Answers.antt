use Rattle.craq_updates.proofs.Explained.{begins}
use Rattle.craq_updates.proofs.explanations_only_grow.Goals as goal

pub returns : goal.returns
returns c = begins
