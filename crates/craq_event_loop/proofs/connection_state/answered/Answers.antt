use Rattle.std.proofs.Common.{length, sym, subst}
use Rattle.craq_event_loop.specs.declared.connection_state.Phase.{Phase}
use Rattle.craq_event_loop.specs.ConnectionStates.{AnswersCall, CountsAhead}
use Rattle.craq_event_loop.specs.Halves.{asked_by}
use Rattle.craq_event_loop.proofs.ConnectionStates.{room_after, room_of}
use Rattle.craq_event_loop.proofs.connection_state.answered.Goals as goal

pub end_turn-reply-requires-clause-room : goal.end_turn-reply-requires-clause-room
end_turn-reply-requires-clause-room c = room_of (length c.in-Waits.later.items) c.args.calls.now (c.requires.room c.in-Waits.request c.in-Waits.later c.in-Waits.is)

pub next_phase-requires-clause-counted : goal.next_phase-requires-clause-counted
next_phase-requires-clause-counted c = subst (λ (p : Phase). CountsAhead p c.args.codec.now.asking) c.in-Waits.is c.requires.counted

pub returns-in-Waits-clause-room : goal.returns-in-Waits-clause-room
returns-in-Waits-clause-room c =
    room_after c.in-Waits.later.items c.next_phase.result c.args.codec.now c.next_phase.new.codec c.args.calls.now c.end_turn-reply.new.calls c.next_phase.ensures.continues
    (c.requires.room c.in-Waits.request c.in-Waits.later c.in-Waits.is) c.end_turn-reply.ensures.takes

pub returns-in-Waits-clause-answers : goal.returns-in-Waits-clause-answers
returns-in-Waits-clause-answers c =
    subst (λ (p : Phase). AnswersCall p c.args.outcome c.next_phase.result c.args.codec.now c.next_phase.new.codec c.args.calls.now c.end_turn-reply.new.calls) (sym c.in-Waits.is)
    (c.end_turn-reply.result, c.next_phase.ensures.more (asked_by c.in-Waits.request), c.end_turn-reply.ensures.ends, c.next_phase.ensures.continues)
