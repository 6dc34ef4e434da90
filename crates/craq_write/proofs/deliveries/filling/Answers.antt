use Rattle.craq_names.specs.declared.refusal.Refusal.{Refusal}
use Rattle.craq_model.specs.Plain.{clean}
use Rattle.craq_history.specs.Nodes.{plain_of}
use Rattle.craq_write.specs.Sent.{CannotFill}
use Rattle.craq_write.proofs.Outgrown.{fill_outgrown, handed_on}
use Rattle.craq_write.proofs.deliveries.filling.Goals as goal

pub returns-in_err-state_ahead-clause-err : goal.returns-in_err-state_ahead-clause-err
unfolding clean
returns-in_err-state_ahead-clause-err g c =
    let p = plain_of g.H.History.past c.args.node.now in
    handed_on c.from_residual.result _ (λ (e : Refusal). CannotFill p c.args.to c.args.count e) c.from_residual.ensures (fill_outgrown p c.args.to c.args.count c.in_err-state_ahead.field-0.0 (rw c.get.ensures at c.in_err-state_ahead.ensures.err))
