use Rattle.craq_event_loop.specs.Serving.{ReadsAt}
use Rattle.craq_event_loop.proofs.Belonging.{one_more_at}
use Rattle.craq_event_loop.proofs.event_loop.LoopConnections.read_all.Goals as goal

pub loop-key-preserved : goal.loop-key-preserved
loop-key-preserved g c =
    one_more_at (ReadsAt g.S.Socket.remaining g.S.Socket.contents g.S.Socket.is_over g.S.Socket.is_dry g.S.Socket.is_full) c.deref-key-items.result.now c.loop-key.key-index
    c.args.self.now.connections c.loop-key.self.1.1.0 c.read_at.new.connections
    c.loop-key-test.true c.loop-key.invariant c.read_at.ensures.reads c.read_at.ensures.vacant c.read_at.ensures.others
