use Rattle.std.proofs.Common.{◌≡◌, ◌+◌, length}
use Rattle.craq_event_loop.specs.Busy.{NoneForgotten}
use Rattle.craq_event_loop.proofs.Belonging.{AreLeft}
use Rattle.craq_event_loop.proofs.event_loop.LoopConnections.deliver_all.Given as goal

abbrev pub invariant-loop-completion : goal.invariant-loop-completion
invariant-loop-completion g l =
    AreLeft (g.H.AsyncBackend.finishes l.fn.backend) l.fn.self.completions.items l.self.completions.items l.fn.self.connections l.self.connections
    × (length l.self.completions.items + l._completion ≡ length l.fn.self.completions.items)
    × (NoneForgotten l.fn.self → NoneForgotten l.self)
    × (l.self.behind ≡ l.fn.self.behind)
