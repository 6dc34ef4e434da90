use Rattle.craq_promise.proofs.Promised.{fixed}
use Rattle.craq_promise.proofs.every_run_of_a_fixed_membership_is_explained.Goals as goal

pub returns : goal.returns
returns c = fixed
