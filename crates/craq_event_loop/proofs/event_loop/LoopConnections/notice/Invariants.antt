use Rattle.std.proofs.Common.{◌≡◌, ◌++◌, map}
use Rattle.craq_event_loop.specs.Busy.{NoneForgotten}
use Rattle.craq_event_loop.specs.Coming.{AllReported}
use Rattle.craq_event_loop.proofs.event_loop.LoopConnections.notice.Given as goal

-- the events so far are noted, and those that the iterator still has come behind them
abbrev pub invariant-loop-event : goal.invariant-loop-event
invariant-loop-event g l =
    (NoneForgotten l.fn.self → NoneForgotten l.self)
    × AllReported (map (λ e. e.now) l.yielded) l.fn.self.connections l.self.connections
    × (map (λ e. e.now) l.yielded ++ l.event-iterator.rest.now ≡ l.fn.events.inner.items)
