use Rattle.std.proofs.Common.{rules}
use Rattle.craq_client_index.proofs.Placing.{noted_less, noted_none}
use Rattle.craq_client_index.proofs.places.let_first_go.Goals as goal

pub returns-in-Some-clause-noted : goal.returns-in-Some-clause-noted
returns-in-Some-clause-noted c =
    noted_less c.args.places.now.entries _ c.args.client c.in-Some.positions.now c.let_first_go.new.self c.in-Some.ensures.value c.let_first_go.ensures ((c.get_mut.follows.holds c.let_first_go.new.self).3 (search rules)).0

pub returns-in_default-clause-noted : goal.returns-in_default-clause-noted
returns-in_default-clause-noted c = noted_none c.args.places.now.entries c.get_mut.follows.lender-at-none.entries c.args.client (search rules) c.in_default.ensures.value
