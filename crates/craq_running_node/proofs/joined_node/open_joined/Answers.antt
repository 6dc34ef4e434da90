use Rattle.craq_running_node.proofs.Joining.{begins_joined}
use Rattle.craq_running_node.proofs.joined_node.open_joined.Goals as goal

pub open-requires-clause-begins : goal.open-requires-clause-begins
open-requires-clause-begins g c =
    rw c.again-seen.ensures.copy (begins_joined g.C.Core.represents c.args.joined c.joined.inside.token c.args.desk.cell c.again-seen.ensures.holds (rw c.joined.view_is at c.joined.invariant) c.requires.cell)
