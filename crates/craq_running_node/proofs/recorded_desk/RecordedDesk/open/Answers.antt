use Rattle.craq_running_node.proofs.Beginning.{begins}
use Rattle.craq_running_node.proofs.recorded_desk.RecordedDesk.open.Goals as goal

pub invariant_of-result : goal.invariant_of-result
invariant_of-result g c =
    begins g.C.Core.represents c.args.desk c.args.writer c.learn.new.self c.args.token c.requires.author c.requires.none c.requires.begins c.learn.ensures.author c.learn.ensures.own c.learn.ensures.that
