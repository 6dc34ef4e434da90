use Rattle.std.proofs.Common.{sym}
use Rattle.craq_event_loop.proofs.Serving as serving
use Rattle.craq_event_loop.proofs.event_loop.read_at.Goals as goal

pub returns-clause-reads : goal.returns-clause-reads
returns-clause-reads g c =
    serving.read_at g.S.Socket.remaining g.S.Socket.contents g.S.Socket.is_over g.S.Socket.is_dry g.S.Socket.is_full c.args.connections.now c.args.key c.in-Some.connection.now c.read.new.self
    (sym c.in-Some.ensures.value)
    (record { reads = c.read.ensures.reads; waits = c.read.ensures.waits; taken = c.read.ensures.contents; over = c.read.ensures.over; ready = c.read.ensures.ready; rest = c.read.ensures.rest })
