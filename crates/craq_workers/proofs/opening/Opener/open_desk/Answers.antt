use Rattle.std.proofs.Common.{sym, subst}
use Rattle.craq_store_parts.specs.Recorded.{CanBegin}
use Rattle.craq_workers.proofs.Openings.{begins}
use Rattle.craq_workers.proofs.opening.Opener.open_desk.Goals as goal

pub open-requires-2-clause-begins : goal.open-requires-2-clause-begins
open-requires-2-clause-begins g c =
    subst (λ d. CanBegin g.C.Core.represents c.args.token d.cell) (sym c.new-desk.ensures)
    (begins g.C.Core.represents c.args.name.now c.args.config.now c.args.token c.in_ok-cell.cell _ c.args.self.now.form.journal c.requires.can c.requires.opened c.in_ok-cell.ensures.cell c.in_ok-cell.ensures.core)
