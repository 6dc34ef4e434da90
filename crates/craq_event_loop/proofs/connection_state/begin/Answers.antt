use Rattle.std.proofs.Common.{List, subst}
use Rattle.craq_event_loop.specs.declared.connection_state.CallRequest.{CallRequest}
use Rattle.craq_event_loop.specs.ConnectionStates.{Continues, HasReply}
use Rattle.craq_event_loop.proofs.ConnectionStates.{continues_room, first_room}
use Rattle.craq_event_loop.proofs.connection_state.begin.Goals as goal

pub returns-in-Reported-clause-took : goal.returns-in-Reported-clause-took
returns-in-Reported-clause-took g c = (
  c.in-Reported.reply,
  subst (λ (x : List CallRequest). HasReply c.args.message x c.args.codec.now c.next_phase.result c.next_phase.new.codec c.in-Reported.reply) c.new-none_ahead.ensures.items (c.next_phase.ensures.more c.args.message),
  c.in-Reported.ensures.begun.0,
  c.in-Reported.ensures.room,
  subst (λ (x : List CallRequest). Continues x c.next_phase.result c.args.codec.now c.next_phase.new.codec) c.new-none_ahead.ensures.items c.next_phase.ensures.continues,
  c.in-Reported.ensures.receipts,
)

pub returns-in-Reported-clause-room : goal.returns-in-Reported-clause-room
returns-in-Reported-clause-room g c =
    continues_room c.new-none_ahead.result.items c.next_phase.result c.args.codec.now c.next_phase.new.codec c.begin_turn.new.calls c.new-none_ahead.ensures.items c.next_phase.ensures.continues

pub returns-in-Calls-clause-room : goal.returns-in-Calls-clause-room
returns-in-Calls-clause-room g c = first_room c.in-Calls.request c.new-none_ahead.result c.begin_turn.new.calls c.new-none_ahead.ensures.items c.in-Calls.ensures.room
