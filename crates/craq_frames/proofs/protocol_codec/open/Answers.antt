use Rattle.std.proofs.Common.{[], Some, sym, append-nil}
use Rattle.craq_frames.proofs.Nexts.{first_asked}
use Rattle.craq_frames.proofs.protocol_codec.open.Goals as goal

pub returns-in-Ok : goal.returns-in-Ok
returns-in-Ok c = (
  [],
  sym (append-nil c.args.output.now.items),
  first_asked (Some c.first_of-message.result.1) c.first_of-message.result.0 c.args.payload.now c.requires.few (c.first_of-message.ensures c.args.payload.now c.in-Ok.ensures.found),
)
