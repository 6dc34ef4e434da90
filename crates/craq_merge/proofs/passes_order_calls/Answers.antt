use Rattle.craq_merge.proofs.Calls.{passes_order}
use Rattle.craq_merge.proofs.passes_order_calls.Goals as goal

pub returns : goal.returns
returns c = passes_order
