use Rattle.craq_promise.proofs.Promised.{explained}
use Rattle.craq_promise.proofs.every_run_is_explained.Goals as goal

pub returns : goal.returns
returns c = explained
