use Rattle.std.proofs.Common.{rules, ◌≡◌, None, Some, ◌∙◌}
use Rattle.craq_frames.proofs.Answering.{fewer_left, nothing_asked, one_replied, cut_off, all_replied, still_alone}
use Rattle.craq_frames.proofs.Turning.{always}
use Rattle.craq_front.proofs.serving.answer_payload.Goals as goal

pub returns-in_err-asked-clause-begun : goal.returns-in_err-asked-clause-begun
returns-in_err-asked-clause-begun g c =
    let f = c.in_err-asked.ensures.follows in
    let is : c.loop-asked.asked ≡ Some c.in-Some.message = cc in
    always c.from_residual.result
    (λ payload first. cut_off g.D.Door.turn c.args.door.now c.loop-asked.door c.ask-reply.new.self payload c.args.codec.now.buffers.output.items f.0 c.loop-asked.codec.buffers.output.items
    c.reply.new.self.buffers.output.items c.loop-asked.codec.asking c.reply.new.self.asking c.loop-asked.asked c.in-Some.message c.ask-reply.result c.in_err-asked.field-0.0 is
    (c.loop-asked.invariant.0 payload first) c.ask-reply.ensures.turn f.1 f.2)

pub loop-asked-smaller : goal.loop-asked-smaller
loop-asked-smaller g c =
    let f = c.in_ok-asked.ensures.follows in
    let is : c.loop-asked.asked ≡ Some c.in-Some.message = cc in
    fewer_left c.loop-asked.codec.asking c.reply.new.self.asking c.in-Some.message c.ask-reply.result f.0 c.loop-asked.asked c.in_ok-asked.asked is f.2

pub loop-asked-preserved : goal.loop-asked-preserved
loop-asked-preserved g c =
    let f = c.in_ok-asked.ensures.follows in
    let is : c.loop-asked.asked ≡ Some c.in-Some.message = cc in (
      λ payload first. one_replied g.D.Door.turn c.args.door.now c.loop-asked.door c.ask-reply.new.self payload c.args.codec.now.buffers.output.items f.0 c.loop-asked.codec.buffers.output.items
          c.reply.new.self.buffers.output.items c.loop-asked.codec.asking c.reply.new.self.asking c.loop-asked.asked c.in_ok-asked.asked c.in-Some.message c.ask-reply.result is
          (c.loop-asked.invariant.0 payload first) c.ask-reply.ensures.turn f.1 f.2,
      c.in_ok-asked.ensures.input ∙ c.loop-asked.invariant.1,
      λ none. nothing_asked c.loop-asked.codec.asking c.reply.new.self.asking c.ask-reply.result f.0 c.in_ok-asked.asked none c.loop-asked.invariant.3 f.2,
      still_alone c.loop-asked.codec.asking c.reply.new.self.asking c.ask-reply.result f.0 c.in_ok-asked.asked c.loop-asked.invariant.3 f.2,
    )

pub returns-clause-ok : goal.returns-clause-ok
returns-clause-ok g c =
    let none : c.loop-asked.asked ≡ None = search rules in
    λ payload first. all_replied g.D.Door.turn c.args.door.now c.loop-asked.door payload c.args.codec.now.buffers.output.items c.loop-asked.codec.buffers.output.items c.loop-asked.codec.asking c.loop-asked.asked none
    (c.loop-asked.invariant.0 payload first)
