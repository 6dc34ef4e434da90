use Rattle.craq_event_loop.proofs.ConnectionStates.{no_more_unsent, then_asked, then_ended, then_nothing, then_refused, then_too_long}
use Rattle.craq_event_loop.proofs.connection_state.find.Goals as goal

pub returns-in-Ok-Ask-clause-more : goal.returns-in-Ok-Ask-clause-more
returns-in-Ok-Ask-clause-more g c = λ read written turns s.
    let h = rw c.in-Ok-Ask.field-0-is at c.in-Ok-Ask.ensures in
    then_asked read written c.args.codec.now.buffers.output.items c.next.new.self.buffers.output.items c.args.codec.now.buffers.input.items c.next.new.self.buffers.input.items h.0 c.args.codec.now.asking c.next.new.self.asking c.in-Ok-Ask.message turns h.1 h.2 s

pub returns-in-Ok-Refused-clause-more : goal.returns-in-Ok-Refused-clause-more
returns-in-Ok-Refused-clause-more g c = λ read written turns s.
    let h = rw c.in-Ok-Refused.field-0-is at c.in-Ok-Refused.ensures in
    then_refused read written c.args.codec.now.buffers.output.items c.next.new.self.buffers.output.items c.args.codec.now.buffers.input.items c.next.new.self.buffers.input.items h.0 c.args.codec.now.asking c.next.new.self.asking turns h.1 h.2 s

pub returns-in-Ok-Nothing-clause-more : goal.returns-in-Ok-Nothing-clause-more
returns-in-Ok-Nothing-clause-more g c = λ read written turns s.
    let h = rw c.in-Ok-Nothing.field-0-is at c.in-Ok-Nothing.ensures in
    then_nothing read written c.args.codec.now.buffers.output.items c.next.new.self.buffers.output.items c.args.codec.now.buffers.input.items c.next.new.self.buffers.input.items h.0 c.args.codec.now.asking c.next.new.self.asking turns h.1 h.2 s

pub returns-in-FrameTooLong-clause-more : goal.returns-in-FrameTooLong-clause-more
returns-in-FrameTooLong-clause-more g c = λ read written turns s.
    let h = rw c.in-FrameTooLong.is at c.in-Err.ensures in
    then_too_long read written c.args.codec.now.buffers.output.items c.next.new.self.buffers.output.items c.args.codec.now.buffers.input.items c.next.new.self.buffers.input.items h.0 c.args.codec.now.asking c.next.new.self.asking turns h.1 h.2 s

pub returns-in-FrameTooLong-clause-found : goal.returns-in-FrameTooLong-clause-found
returns-in-FrameTooLong-clause-found g c =
    let h = rw c.in-FrameTooLong.is at c.in-Err.ensures in
    (h.0, h.1, h.2)

pub returns-in_default-clause-more : goal.returns-in_default-clause-more
returns-in_default-clause-more g c = λ read written turns s.
    let h = c.in-Err.ensures in
    let same = no_more_unsent c.args.codec.now.buffers.output.items c.next.new.self.buffers.output.items c.args.codec.now.buffers.input.items c.next.new.self.buffers.input.items h.0 c.next.new.self.asking c.in-Err.refusal h.1 h.2 c.in_default.not-FrameTooLong in
    then_ended read written c.args.codec.now.buffers.output.items c.next.new.self.buffers.output.items c.args.codec.now.buffers.input.items c.args.codec.now.asking turns same s

pub returns-in_default-clause-found : goal.returns-in_default-clause-found
returns-in_default-clause-found g c =
    let h = c.in-Err.ensures in
    no_more_unsent c.args.codec.now.buffers.output.items c.next.new.self.buffers.output.items c.args.codec.now.buffers.input.items c.next.new.self.buffers.input.items h.0 c.next.new.self.asking c.in-Err.refusal h.1 h.2 c.in_default.not-FrameTooLong
