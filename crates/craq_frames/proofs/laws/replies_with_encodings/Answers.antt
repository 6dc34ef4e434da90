use Rattle.craq_frames.proofs.Typed.{answer_encodable}
use Rattle.craq_frames.proofs.laws.replies_with_encodings.Goals as goal

pub returns : goal.returns
returns c = answer_encodable
