use Rattle.craq_node.specs.Represented.{plain_at}
use Rattle.craq_node.proofs.Remembered.{seen_answers}
use Rattle.craq_node.proofs.node_core.NodeCoreCore.step.Goals as goal

pub returns-clause-step : goal.returns-clause-step
returns-clause-step g c = λ p h.
    seen_answers g.H.History.forgets p (plain_at g.H.History.past c.args.self.now.node c.args.self.now.switch.running) (plain_at g.H.History.past c.take.new.self.node c.take.new.self.switch.running) c.args.event c.take.result h c.keep_limits.ensures c.take.ensures.gives
