use Rattle.craq_event_loop.proofs.ConnectionStates.{then_deaf, then_heard, then_received}
use Rattle.craq_event_loop.proofs.connection_state.ConnectionState.receive.Goals as goal

pub returns-in-Ok-None-clause-holds : goal.returns-in-Ok-None-clause-holds
returns-in-Ok-None-clause-holds g c = rw c.requires (λ read written turns s.
    then_received read written c.args.self.now.codec.buffers.output.items c.receive.new.self.buffers.output.items c.args.self.now.codec.buffers.input.items c.receive.new.self.buffers.input.items c.args.bytes.now
    c.args.self.now.codec.asking c.receive.new.self.asking turns c.receive.ensures.output (rw c.in-Ok-None.field-0-is at c.in-Ok-None.ensures.ok).0 s)

pub returns-in-Ok-Some-clause-holds : goal.returns-in-Ok-Some-clause-holds
returns-in-Ok-Some-clause-holds g c = rw (c.requires, c.put.ensures) (λ read written turns s.
    then_heard read written c.args.self.now.codec.buffers.output.items c.receive.new.self.buffers.output.items c.args.self.now.codec.buffers.input.items c.receive.new.self.buffers.input.items c.args.bytes.now
    c.args.self.now.codec.asking c.receive.new.self.asking c.in-Ok-Some.message turns c.receive.ensures.output (rw c.in-Ok-Some.field-0-is at c.in-Ok-Some.ensures.ok) s)

pub returns-in-Err-clause-holds : goal.returns-in-Err-clause-holds
returns-in-Err-clause-holds g c = rw (c.requires, c.put-in-Err.ensures) (λ read written turns s.
    then_deaf read written c.args.self.now.codec.buffers.output.items c.receive.new.self.buffers.output.items c.args.self.now.codec.buffers.input.items c.args.bytes.now c.args.self.now.codec.asking turns c.receive.ensures.output s)
