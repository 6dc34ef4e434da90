use Rattle.std.proofs.Common.{sym, subst}
use Rattle.craq_client_index.specs.Indexed.{Placed, Tells}
use Rattle.craq_client_index.proofs.Telling.{indexed, tells_nothing}
use Rattle.craq_client_index.proofs.index.ClientIndex.new.Goals as goal

pub returns-clause-tells : goal.returns-clause-tells
returns-clause-tells c = λ entries. subst (λ (ps : Placed). Tells (indexed c.args.from c.args.from ps) entries) (sym c.new.ensures.empty) (tells_nothing c.args.from entries)
