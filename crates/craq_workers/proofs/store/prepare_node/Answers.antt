use Rattle.std.proofs.Common.{sym, subst}
use Rattle.craq_store_parts.specs.Recorded.{IsUnjoined}
use Rattle.craq_workers.proofs.Openings.{unjoined}
use Rattle.craq_workers.proofs.store.prepare_node.Goals as goal

pub returns-clause-cell : goal.returns-clause-cell
returns-clause-cell g c =
    subst (λ d. IsUnjoined g.C.Core.represents c.args.name d.cell) (sym c.new-desk.ensures)
    (unjoined g.C.Core.represents c.args.name c.in_ok-cell.cell c.args.stamp c.args.form.journal c.requires c.in_ok-cell.ensures.cell c.in_ok-cell.ensures.core)
