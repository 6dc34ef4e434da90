use Rattle.std.proofs.lemmas.Result.{err_from_is_err_and}
use Rattle.craq_frames.proofs.Nexts.{refused_one, answered_one, begun_one}
use Rattle.craq_front.proofs.serving.answer_next.Goals as goal

pub returns-in_err-answer_payload-in-Ask-clause-next :
    goal.returns-in_err-answer_payload-in-Ask-clause-next
returns-in_err-answer_payload-in-Ask-clause-next g c =
    let p = err_from_is_err_and c.from_residual-in_err-answer_payload-in-Ask.result c.from_residual-in_err-answer_payload-in-Ask.ensures.1 in
    let e = c.in_err-answer_payload-in-Ask.ensures in
    let h = rw c.in-Ask.is at c.in_ok-message.ensures in
    rw (p.1, p.2, e.err)
    (begun_one g.D.Door.turn c.args.door.now c.answer_payload.new.door c.args.codec.now.buffers.input.items c.next.new.self.buffers.input.items c.args.codec.now.buffers.output.items
    c.next.new.self.buffers.output.items c.answer_payload.new.codec.buffers.output.items h.0 c.next.new.self.asking c.in-Ask.message h.2 h.1 e.begun)

pub returns-in_ok-answer_payload-in-Ask-clause-next :
    goal.returns-in_ok-answer_payload-in-Ask-clause-next
returns-in_ok-answer_payload-in-Ask-clause-next g c =
    let e = c.in_ok-answer_payload-in-Ask.ensures in
    let h = rw c.in-Ask.is at c.in_ok-message.ensures in
    rw e.input
    (answered_one g.D.Door.turn c.args.door.now c.answer_payload.new.door c.args.codec.now.buffers.input.items c.next.new.self.buffers.input.items c.args.codec.now.buffers.output.items
    c.next.new.self.buffers.output.items c.answer_payload.new.codec.buffers.output.items h.0 c.next.new.self.asking c.in-Ask.message h.2 h.1 e.ok)

pub returns-in-Refused-clause-next : goal.returns-in-Refused-clause-next
returns-in-Refused-clause-next g c =
    let h = rw c.in-Refused.is at c.in_ok-message.ensures in
    (h.0, h.1, refused_one g.D.Door.turn c.args.door.now c.args.codec.now.buffers.input.items c.next.new.self.buffers.input.items h.0 c.next.new.self.asking h.2)
