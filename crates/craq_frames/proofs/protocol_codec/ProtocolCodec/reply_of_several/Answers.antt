use Rattle.std.proofs.Common.{[], inr, refl, sym, append-nil}
use Rattle.craq_frames.proofs.protocol_codec.ProtocolCodec.reply_of_several.Goals as goal

pub returns-in-Ok-Asked-clause-follows : goal.returns-in-Ok-Asked-clause-follows
returns-in-Ok-Asked-clause-follows c =
    let after = rw c.in-Ok-Asked.field-0-is at c.in-Ok-Asked.ensures.after in
    ([], sym (append-nil c.args.self.now.buffers.output.items), inr (after.1, after.2, λ p form. form, refl, after.0))
