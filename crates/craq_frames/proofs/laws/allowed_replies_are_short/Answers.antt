use Rattle.craq_frames.proofs.Lengths.{allowed_exactly}
use Rattle.craq_frames.proofs.laws.allowed_replies_are_short.Goals as goal

pub returns : goal.returns
returns c = allowed_exactly
