use Rattle.std.proofs.Common.{◌≡◌, true, List, [], ◌∷◌, None, sym, ap, subst, ◌∙◌}
use Rattle.std.specs.Prelude.{IfOk}
use Rattle.craq_commands.specs.declared.entry.Entry.{Entry}
use Rattle.craq_model.specs.Deliveries.{are_applicable, entries_transition, taken_entries_transition}
use Rattle.craq_model.specs.Plain.{newest, with_entries}
use Rattle.craq_model.specs.Settle.{Transition}
use Rattle.craq_history.specs.Nodes.{plain_of}
use Rattle.craq_history.specs.Effects.{IsEffectOf}
use Rattle.craq_write.specs.Rows.{why_ignored}
use Rattle.craq_write.proofs.Arriving.{one_taken}
use Rattle.craq_write.proofs.deliveries.compute_entry.Goals as goal

pub returns-clause-transition : goal.returns-clause-transition
unfolding newest
returns-clause-transition g c =
    let p = plain_of g.H.History.past c.args.node.now in
    let heard : why_ignored p c.args.sender c.args.entry.position c.args.entry.position ≡ None = sym c.why_ignored.ensures ∙ c.in_default.is in
    let fits : are_applicable (newest p) (c.args.entry ∷ []) ≡ true = cc in
    let one : c.in_ok-next.next ≡ c.args.entry ∷ [] = c.in_ok-next.ensures in
    let same : entries_transition p c.args.sender (c.args.entry ∷ []) ≡ taken_entries_transition (with_entries p c.in_ok-next.next) c.in_ok-next.next =
    one_taken p c.args.sender c.args.entry heard fits ∙ ap (λ (es : List Entry). taken_entries_transition (with_entries p es) es) (sym one)
    in
    subst (λ (t : Transition). IfOk c.taken.result (λ r. IsEffectOf p r t)) (sym same) c.taken.ensures
