use Rattle.craq_frames.proofs.Lengths.{payload_few}
use Rattle.craq_frames.proofs.replying.make_unsent.Goals as goal

pub write_frame-requires-clause-few : goal.write_frame-requires-clause-few
write_frame-requires-clause-few c = λ payload s. payload_few c.args.answered payload c.requires.allowed s
