use Rattle.std.proofs.Common.{◌≡◌, ◌∙◌, None, IfOk, ap, sym, subst}
use Rattle.std.specs.Prelude.{Vec}
use Rattle.std.specs.declared.alloc.Global.{Global}
use Rattle.craq_names.specs.declared.name.NodeName.{NodeName}
use Rattle.craq_seat.specs.Calls.{Called}
use Rattle.craq_store_parts.specs.Recorded.{HaveReplied}
use Rattle.craq_running_node.proofs.Telling.{refused, reported_callers}
use Rattle.craq_running_node.proofs.steps.take_event.Goals as goal

pub finish-none-requires : goal.finish-none-requires
finish-none-requires g c =
    let named : c.take.new.self.cell.opening.name ≡ c.opening.result.now.name = ap (λ o. o.name) c.take.ensures.opening ∙ sym (ap (λ o. o.name) c.opening.ensures ∙ ap (λ x. x.opening.name) c.cell.ensures) in
    subst (λ (n : NodeName). IfOk c.in-Ok.done.calls (λ (receipts : Vec Called Global). HaveReplied c.in-Ok.done.token n receipts.items)) named c.in-Ok.ensures.replied

pub returns-in-Ok-clause-taken : goal.returns-in-Ok-clause-taken
returns-in-Ok-clause-taken g c = λ taken. (
  c.in-Ok.done.calls,
  reported_callers g.C.Core.represents c.args.seated.now c.take.new.self c.finish-none.new.seated.desk c.finish-none.new.seated.callers.items c.args.arrival.event c.in-Ok.field-0-0 c.start.result 0 None c.in-Ok.done.calls c.args.replies.now c.finish-none.new.replies
      c.finish-none.ensures.desk c.in-Ok.ensures.receipt c.start.ensures (c.in-Ok.ensures.step, c.take.ensures.kept) c.in-Ok.ensures.calls c.finish-none.ensures.others c.finish-none.ensures.reported,
)

pub returns-clause-refused : goal.returns-clause-refused
returns-clause-refused g c = λ isnt. (
  c.in-Err.field-0.refusal,
  (refused g.C.Core.represents c.args.seated.now.desk c.take.new.self c.args.arrival.event c.start.result 0 c.in-Err.field-0.refusal c.start.ensures (c.in-Err.ensures.step, c.take.ensures.kept), c.in-Err.ensures.same),
)
