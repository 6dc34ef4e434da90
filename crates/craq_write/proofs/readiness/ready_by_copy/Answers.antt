use Rattle.std.proofs.Common.{rules}
use Rattle.craq_history.specs.Nodes.{plain_of}
use Rattle.craq_write.proofs.Copies.{ready_copy}
use Rattle.craq_write.proofs.readiness.ready_by_copy.Goals as goal

pub returns : goal.returns
returns g c =
    rw (ready_copy (plain_of g.H.History.past c.args.node.now) c.args.position c.args.state c.requires.unready c.requires.idle c.requires.reached) (search rules)
