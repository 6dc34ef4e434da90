use Rattle.std.proofs.Common.{ap}
use Rattle.craq_running_node.proofs.Telling.{waits_behind, waits_nowhere}
use Rattle.craq_running_node.proofs.callers.wait_at.Goals as goal

pub returns-in_default : goal.returns-in_default
returns-in_default g c =
    waits_behind c.args.at c.args.accepted c.in-Some.accepted c.args.callers.now.items c.push.new.self.items c.new.result c.args.replies.now c.in-Some.is c.new.ensures c.in_default.ensures.ok

pub returns-in-Err : goal.returns-in-Err
returns-in-Err g c =
    waits_nowhere c.args.at c.args.accepted c.in-Some.accepted c.args.callers.now.items c.push.new.self.items c.new.result c.in-Err.refused.value c.reply.result c.args.replies.now c.add-in-Err.new.self
    c.in-Some.is c.new.ensures c.in-Err.ensures.back (rw c.without_call-refusal-in-Err.ensures at c.reply.ensures) (ap (λ q. q.items) c.in-Err.ensures.err) c.add-in-Err.ensures
