use Rattle.craq_event_loop.proofs.ConnectionStates.{found_room}
use Rattle.craq_event_loop.proofs.connection_state.next_step.Goals as goal

pub returns-in-Idle-clause-room : goal.returns-in-Idle-clause-room
returns-in-Idle-clause-room g c = found_room c.find.result.0 c.find.result.1 c.args.codec.now c.find.new.codec c.args.calls.now c.find.ensures.found
