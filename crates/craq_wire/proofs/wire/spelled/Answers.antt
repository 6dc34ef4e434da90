use Rattle.std.proofs.Common.{Bool, subst, sym}
use Rattle.std.specs.Bool.{Decides}
use Rattle.craq_model.specs.Encodable.{IsEncodable}
use Rattle.craq_wire.proofs.Tests.{decides_encodable}
use Rattle.craq_wire.proofs.wire.spelled.Goals as goal

pub returns : goal.returns
returns c = subst (λ (b : Bool). Decides b (IsEncodable c.args.message.now)) (sym c.test_message.ensures) (decides_encodable c.args.message.now)
