-- The receipt that a client gets for its call.
use Rattle.std.specs.Prelude.{◌≡◌, ◌<◌, ◌≤◌, ℕ}
use Rattle.craq_names.specs.declared.name.NodeName.{NodeName}
use Rattle.craq_model.specs.declared.ask.Answer.{Answer}
use Rattle.craq_model.specs.declared.ask.Ask.{Ask}
use Rattle.craq_seat.specs.Calls.{Called}

-- the receipt is of this ask at this node, shown with this pass, and of this answer; the pass stands before the ask, and
-- the ask not after the answer
pub record IsCallOf (node : NodeName) (ask : Ask) (pass : ℕ) (answer : Answer) (c : Called) : Type 0 where
  pub asked : c.call.ask ≡ ask
  pub shown : c.call.pass ≡ pass
  pub answered : c.answer ≡ answer
  pub at : c.call.asked.node ≡ node.node
  pub there : c.answered.node ≡ node.node
  pub later : pass < c.call.asked.stamp
  pub after : c.call.asked.stamp ≤ c.answered.stamp
