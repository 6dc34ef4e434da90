use Rattle.std.proofs.Common.{rules, ◌≡◌, []}
use Rattle.craq_event_loop.proofs.ConnectionStates.{lost_none_later, next_asked, next_idle, next_waits, then_lost}
use Rattle.craq_event_loop.proofs.connection_state.next_phase.Goals as goal

pub returns-in-Ok-Some-clause-more : goal.returns-in-Ok-Some-clause-more
returns-in-Ok-Some-clause-more c =
    next_asked c.args.codec.now c.reply.new.self c.args.reply c.reply.ensures.input c.args.later.items c.in-Ok-Some.message (rw c.in-Ok-Some.field-0-is at c.in-Ok-Some.ensures.follows)

pub returns-in-Some-clause-more : goal.returns-in-Some-clause-more
returns-in-Some-clause-more c =
    next_waits c.args.codec.now c.reply.new.self c.args.reply c.reply.ensures.input c.args.later.items c.in-Some.request c.pop_front.new.self c.in-Some.ensures.items
    (rw c.in-Ok-None.field-0-is at c.in-Ok-None.ensures.follows)

pub returns-in-None-clause-more : goal.returns-in-None-clause-more
returns-in-None-clause-more c =
    let none : c.args.later.items ≡ [] = search rules in
    next_idle c.args.codec.now c.reply.new.self c.args.reply c.reply.ensures.input c.args.later.items none (rw c.in-Ok-None.field-0-is at c.in-Ok-None.ensures.follows)

pub returns-in-Err-clause-more : goal.returns-in-Err-clause-more
returns-in-Err-clause-more c = λ m read written turns s.
    let h = c.in-Err.ensures.follows in
    let alone = lost_none_later c.args.codec.now c.reply.new.self c.args.reply c.args.later.items c.requires.counted h.0 c.in-Err.field-0 h.2 in
    then_lost read written c.args.codec.now.buffers.output.items c.reply.new.self.buffers.output.items c.args.codec.now.buffers.input.items h.0 c.args.codec.now.asking c.reply.new.self.asking m c.args.later.items c.args.reply
    c.in-Err.field-0 turns h.1 alone h.2 s
