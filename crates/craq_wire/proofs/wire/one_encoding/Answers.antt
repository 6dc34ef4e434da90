use Rattle.craq_wire.proofs.Messages.{one_value, one_form}
use Rattle.craq_wire.proofs.wire.one_encoding.Goals as goal

pub returns-clause-value : goal.returns-clause-value
returns-clause-value c = one_value

pub returns-clause-bytes : goal.returns-clause-bytes
returns-clause-bytes c = one_form
