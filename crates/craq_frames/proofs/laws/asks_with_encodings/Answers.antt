use Rattle.craq_frames.proofs.Typed.{ask_encodable}
use Rattle.craq_frames.proofs.laws.asks_with_encodings.Goals as goal

pub returns : goal.returns
returns c = ask_encodable
