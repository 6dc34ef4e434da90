use Rattle.craq_wire.proofs.Typed.{encodable_somehow}
use Rattle.craq_wire.proofs.laws.messages_with_encodings.Goals as goal

pub returns : goal.returns
returns c = encodable_somehow
