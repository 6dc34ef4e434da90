use Rattle.craq_frames.proofs.Talks.{stands_first}
use Rattle.craq_event_loop.proofs.connection_state.ConnectionState.new.Goals as goal

pub returns-clause-holds : goal.returns-clause-holds
returns-clause-holds g c = rw (c.new.ensures.output, c.new.ensures.input, c.new.ensures.asking) stands_first
