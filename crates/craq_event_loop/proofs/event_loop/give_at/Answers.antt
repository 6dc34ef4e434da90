use Rattle.std.proofs.Common.{sym}
use Rattle.craq_event_loop.specs.SubmittedCalls.{called_by}
use Rattle.craq_event_loop.proofs.Reaching.{ended_reachable}
use Rattle.craq_event_loop.proofs.Serving.{gone_at, kept_at, reported_not}
use Rattle.craq_event_loop.proofs.event_loop.give_at.Goals as goal

pub returns-then-not-is_done-clause-writes : goal.returns-then-not-is_done-clause-writes
returns-then-not-is_done-clause-writes g c =
    kept_at g.S.Socket.remaining g.S.Socket.contents g.S.Socket.is_over g.S.Socket.is_dry g.S.Socket.is_full c.args.connections.now c.args.key c.in-Some.connection.now c.give.new.self c.stays_busy.new.self c.stays_busy.result
    (sym c.in-Some.ensures.value) (record { writes = c.give.ensures.writes; given = c.give.ensures.remaining; over = c.give.ensures.over; ready = c.give.ensures.ready; rest = c.give.ensures.rest })
    (reported_not c.is_done.result c.is_done.ensures c.if-not-is_done.true) c.stays_busy.ensures.marked c.stays_busy.ensures.behind

pub returns-in-Some-try_remove-clause-writes : goal.returns-in-Some-try_remove-clause-writes
returns-in-Some-try_remove-clause-writes g c =
    gone_at g.S.Socket.remaining g.S.Socket.contents g.S.Socket.is_over g.S.Socket.is_dry g.S.Socket.is_full c.args.connections.now c.try_remove.new.self c.args.key c.in-Some.connection.now c.give.new.self
    (sym c.in-Some.ensures.value) (record { writes = c.give.ensures.writes; given = c.give.ensures.remaining; over = c.give.ensures.over; ready = c.give.ensures.ready; rest = c.give.ensures.rest })
    (c.is_done.ensures.0 c.if-not-is_done.false) c.try_remove.ensures.updates.changed

pub close-requires : goal.close-requires
close-requires g c =
    ended_reachable g.H.LoopBackend.is_new (g.H.Backend.tells c.args.backend.now) (g.H.Backend.refuses c.args.backend.now) (called_by (g.H.AsyncBackend.submits c.args.backend.now) (g.H.AsyncBackend.finishes c.args.backend.now)) (g.H.AsyncBackend.finishes c.args.backend.now)
    c.args.connections.now c.args.key c.in-Some.connection.now c.give.new.self c.in-Some-try_remove.ended
    (g.S.Socket.contents c.in-Some.connection.now.stream) (g.S.Socket.contents c.give.new.self.stream)
    c.requires (sym c.in-Some.ensures.value) c.give.ensures.writes (sym c.in-Some-try_remove.ensures.value)
