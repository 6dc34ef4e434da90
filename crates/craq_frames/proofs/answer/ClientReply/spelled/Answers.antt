use Rattle.std.proofs.Common.{Bool, subst, sym}
use Rattle.std.specs.Bool.{Decides}
use Rattle.craq_frames.specs.Payload.{IsAnswer}
use Rattle.craq_frames.proofs.Tests.{decides_answer}
use Rattle.craq_frames.proofs.answer.ClientReply.spelled.Goals as goal

pub returns : goal.returns
returns c = subst (λ (b : Bool). Decides b (IsAnswer c.args.self.now)) (sym c.test_answer.ensures) (decides_answer c.args.self.now)
