use Rattle.std.proofs.Common.{take}
use Rattle.craq_event_loop.specs.Belonging.{OneByOne}
use Rattle.craq_event_loop.specs.Serving.{ReadsAt}
use Rattle.craq_event_loop.proofs.event_loop.LoopConnections.read_all.Given as goal

abbrev pub invariant-loop-key : goal.invariant-loop-key
invariant-loop-key g l = OneByOne (ReadsAt g.S.Socket.remaining g.S.Socket.contents g.S.Socket.is_over g.S.Socket.is_dry g.S.Socket.is_full) (take l.key-index l.key-items) l.fn.self.connections l.self.1.1.0
