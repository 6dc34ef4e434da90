use Rattle.std.proofs.Common.{take}
use Rattle.craq_event_loop.specs.SubmittedCalls.{called_by}
use Rattle.craq_event_loop.specs.Belonging.{OneByOne}
use Rattle.craq_event_loop.specs.Busy.{ListsMarked}
use Rattle.craq_event_loop.specs.Reaching.{AreReachable}
use Rattle.craq_event_loop.specs.Serving.{WritesAt}
use Rattle.craq_event_loop.proofs.Marks.{KeptSoFar}
use Rattle.craq_event_loop.proofs.event_loop.LoopConnections.give_all.Given as goal

abbrev pub invariant-loop-key : goal.invariant-loop-key
invariant-loop-key g l =
    OneByOne (WritesAt g.S.Socket.remaining g.S.Socket.contents g.S.Socket.is_over g.S.Socket.is_dry g.S.Socket.is_full) (take l.key-index l.key-items) l.fn.self.connections l.self.1.1.0
    × (ListsMarked l.fn.self.connections l.fn.self.busy l.fn.self.behind
    → KeptSoFar l.self.1.1.0 l.fn.self.behind l.self.1.1.1.1.0 l.key-items l.key-index)
    × AreReachable g.H.LoopBackend.is_new (g.H.Backend.tells l.fn.backend) (g.H.Backend.refuses l.fn.backend) (called_by (g.H.AsyncBackend.submits l.fn.backend) (g.H.AsyncBackend.finishes l.fn.backend)) (g.H.AsyncBackend.finishes l.fn.backend) l.self.1.1.0
