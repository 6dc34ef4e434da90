use Rattle.std.proofs.Common.{inr}
use Rattle.craq_event_loop.proofs.Starved.{none_is_left}
use Rattle.craq_event_loop.proofs.event_loop.LoopConnections.pause.Goals as goal

pub returns-then-self-gt0-clause-behind : goal.returns-then-self-gt0-clause-behind
returns-then-self-gt0-clause-behind g c = inr (none_is_left c.args.self.now c.requires (c.rests.ensures.0 c.if-not-rests.false))

pub returns-else-self-gt0-clause-behind : goal.returns-else-self-gt0-clause-behind
returns-else-self-gt0-clause-behind g c = inr (none_is_left c.args.self.now c.requires (c.rests.ensures.0 c.if-not-rests.false))
