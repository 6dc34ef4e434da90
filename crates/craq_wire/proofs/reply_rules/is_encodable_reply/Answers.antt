use Rattle.std.proofs.Common.{subst, sym, Bool}
use Rattle.std.specs.Bool.{Decides}
use Rattle.craq_model.specs.Encodable.{IsReply}
use Rattle.craq_wire.proofs.ReplyTests.{decides_reply}
use Rattle.craq_wire.proofs.reply_rules.is_encodable_reply.Goals as goal

pub returns-clause-rules : goal.returns-clause-rules
returns-clause-rules c = subst (λ (b : Bool). Decides b (IsReply c.args.reply.now)) (sym c.test_reply.ensures) (decides_reply c.args.reply.now)
