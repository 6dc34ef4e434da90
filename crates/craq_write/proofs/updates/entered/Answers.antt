use Rattle.std.proofs.Common.{◌≡◌, [], ◌∷◌, subst}
use Rattle.std.specs.Prelude.{IfOk, Result}
use Rattle.craq_names.specs.declared.refusal.Refusal.{Refusal}
use Rattle.craq_model.specs.Settle.{Transition}
use Rattle.craq_history.specs.Nodes.{plain_of}
use Rattle.craq_history.specs.Effects.{IsComputed}
use Rattle.craq_write.proofs.Places.{new_plan}
use Rattle.craq_write.proofs.updates.entered.Goals as goal

pub returns : goal.returns
returns g c =
    let p = plain_of g.H.History.past c.args.node.now in
    let one : c.in_ok-entries.entries ≡ c.args.entry ∷ [] = c.in_ok-entries.ensures in
    let sent = rw (c.sender-sender.ensures.name, c.sender-sender.ensures.epoch, c.as_slice.ensures, c.as_slice-2.ensures, c.new-sends.ensures.items) at c.in_ok-forward.ensures in
    let same = new_plan p c.args.entry c.in_ok-entries.entries c.none-change.result c.committing-committed.result.change c.get-length.result c.in_ok-reply.reply _ one c.none-change.ensures c.committing-committed.ensures.change c.get-length.ensures c.requires.next c.in_ok-reply.ensures sent in
    subst (λ (w : Result Transition Refusal). IfOk c.replied.result (λ r. IsComputed p r w)) same c.replied.ensures
