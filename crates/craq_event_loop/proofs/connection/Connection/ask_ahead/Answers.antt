use Rattle.std.proofs.Common.{refl}
use Rattle.craq_event_loop.specs.Advancing.{asked_none}
use Rattle.craq_event_loop.proofs.connection.Connection.ask_ahead.Goals as goal

pub loop-ahead-init : goal.loop-ahead-init
loop-ahead-init g c = (refl, asked_none)
