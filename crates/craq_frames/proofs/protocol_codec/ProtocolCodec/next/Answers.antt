use Rattle.craq_frames.proofs.Lengths.{whole_frame}
use Rattle.craq_frames.proofs.Nexts.{taken_off}
use Rattle.craq_frames.proofs.protocol_codec.ProtocolCodec.next.Goals as goal

pub advance-requires : goal.advance-requires
advance-requires c =
    let h = rw c.as_slice.ensures at (rw c.in-Ok-Some.field-0-is at c.in-Ok-Some.ensures.whole) in
    whole_frame c.args.self.now.buffers.input.items c.in-Ok-Some.payload.now h.0 h.2

pub returns-in-Ok-Some : goal.returns-in-Ok-Some
returns-in-Ok-Some c =
    let h = rw c.as_slice.ensures at (rw c.in-Ok-Some.field-0-is at c.in-Ok-Some.ensures.whole) in
    let o = c.open-step.ensures in (
      o.0,
      o.1,
      taken_off c.args.self.now.buffers.input.items c.advance.new.self.items o.0 c.in-Ok-Some.payload.now h.0 c.open-step.new.asking c.open-step.result h.2 c.advance.ensures.items o.2,
    )
