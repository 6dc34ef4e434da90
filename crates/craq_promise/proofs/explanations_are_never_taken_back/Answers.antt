use Rattle.craq_updates.proofs.Explained.{begins}
use Rattle.craq_promise.proofs.Promised.{before}
use Rattle.craq_promise.proofs.explanations_are_never_taken_back.Goals as goal

pub returns : goal.returns
returns c = record { grows = begins; before = before }
