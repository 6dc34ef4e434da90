use Rattle.std.proofs.Common.{Err, ap, refl, subst, sym}
use Rattle.craq_names.specs.declared.name.NodeName.{NodeName}
use Rattle.craq_store_parts.specs.Witnessed.{IsWitnessedStop}
use Rattle.craq_workers.specs.Moves.{CanStop}
use Rattle.craq_workers.proofs.Changing.{stop_witnessed}
use Rattle.craq_workers.proofs.Moves.{stop_refused}
use Rattle.craq_workers.proofs.store.stop_desk.Goals as goal

-- a stop needs no cause
pub take-requires-clause-may : goal.take-requires-clause-may
take-requires-clause-may g c = rw c.sent.ensures (record { sent = tt; called = tt })

pub returns-in-Ok-clause-stopped : goal.returns-in-Ok-clause-stopped
returns-in-Ok-clause-stopped g c =
    let taken = rw (c.sent.ensures, c.start.ensures) at c.in-Ok.ensures.taken in
    let stopped = stop_witnessed c.take.new.self.cell c.args.seen c.in-Ok.done.token c.again-seen.result c.in-Ok.receipt c.in-Ok.ensures.receipt c.in-Ok.ensures.moved taken c.again-seen.ensures.holds c.again-seen.ensures.copy in
    subst (λ (n : NodeName). IsWitnessedStop c.args.seen n c.in-Ok.receipt c.again-seen.result) (ap (λ o. o.name) c.take.ensures.opening) stopped

pub returns-in-Err-clause-refused : goal.returns-in-Err-clause-refused
returns-in-Err-clause-refused g c =
    let came = c.in-Err.refused.refusal in
    subst CanStop (sym c.refusal-refusal.ensures)
    (stop_refused g.C.Core.represents c.take.new.self.cell c.args.desk.now.cell c.start.result (Err came) came c.keeps_desk.ensures c.in-Err.ensures.step refl)
