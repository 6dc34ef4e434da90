use Rattle.std.proofs.Common.{◌≡◌, ◌≤◌, ◌++◌, drop, take}
use Rattle.craq_event_loop.specs.Busy.{NoneForgotten}
use Rattle.craq_event_loop.proofs.event_loop.LoopConnections.resume.Given as goal

abbrev pub invariant-loop-share : goal.invariant-loop-share
invariant-loop-share g l =
    (l._share ≤ l.fn.shares) × (l.self.behind.items ≡ drop l._share l.fn.self.behind.items) × (l.self.connections ≡ l.fn.self.connections)
    × (NoneForgotten l.fn.self → NoneForgotten l.self × (l.self.busy.items ≡ l.fn.self.busy.items ++ take l._share l.fn.self.behind.items))
