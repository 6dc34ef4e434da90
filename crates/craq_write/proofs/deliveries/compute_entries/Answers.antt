use Rattle.std.proofs.Common.{◌≡◌, true, None, sym, subst, ◌∙◌}
use Rattle.std.specs.Prelude.{IfOk}
use Rattle.craq_model.specs.Deliveries.{are_applicable, entries_above, final_position, first_position}
use Rattle.craq_model.specs.Plain.{length_of, newest}
use Rattle.craq_model.specs.Settle.{Transition}
use Rattle.craq_history.specs.Nodes.{plain_of}
use Rattle.craq_history.specs.Effects.{IsEffectOf}
use Rattle.craq_write.specs.Rows.{why_ignored}
use Rattle.craq_write.proofs.Arriving.{lacking_taken}
use Rattle.craq_write.proofs.deliveries.compute_entries.Goals as goal

pub returns-clause-transition : goal.returns-clause-transition
unfolding newest
returns-clause-transition g c =
    let p = plain_of g.H.History.past c.args.node.now in
    let reported = rw (c.start_of-start.ensures, c.end_of-end.ensures, c.as_slice.ensures, c.as_slice-2.ensures) at c.why_ignored.ensures in
    let heard : why_ignored p c.args.sender (first_position c.args.entries) (final_position c.args.entries) ≡ None = sym reported ∙ c.in_default.is in
    let above : entries_above (length_of p) c.args.entries ≡ c.entries_above-next.result = cc in
    let fits : are_applicable (newest p) c.entries_above-next.result ≡ true = cc in
    subst (λ (t : Transition). IfOk c.taken.result (λ r. IsEffectOf p r t)) (sym (lacking_taken p c.args.sender c.args.entries c.entries_above-next.result heard above fits)) c.taken.ensures
