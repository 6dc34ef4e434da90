use Rattle.std.proofs.Common.{◌≡◌, ◌∙◌, ℕ, [], List, Option, None, Some, Result, Ok, Err, Vec, Bor, ap, rules, subst, sym}
use Rattle.std.specs.Option.{option_copied}
use Rattle.std.specs.declared.alloc.AllocError.{AllocError}
use Rattle.std.specs.declared.alloc.Global.{Global}
use Rattle.craq_seat.specs.declared.token.CallToken.{CallToken}
use Rattle.craq_model.specs.declared.step.Step.{Step}
use Rattle.craq_seat.specs.declared.seat.Caller.{Caller}
use Rattle.craq_seat.specs.Calls.{Called}
use Rattle.craq_running_node.specs.Replies.{Keeps, PendingReplies, replies_to, said_by}
use Rattle.craq_running_node.proofs.Telling.{keeps_none}
use Rattle.craq_running_node.proofs.steps.finish.Goals as goal
use Rattle.craq_running_node.proofs.steps.finish.Goals.{in-Some, in_default}

-- receipts that found no memory, and no step: nobody gets a reply
nobody : (callers : List (Caller CallToken)) (calls : Result (Vec Called Global) AllocError) (e : AllocError) (last : Option Step) (ticket : Option ℕ) (before after : PendingReplies)
    → calls ≡ Err e → None ≡ last → after ≡ before → Keeps before (replies_to callers (said_by calls last ticket)) after
nobody callers (Ok receipts) e last ticket before after is none same = absurd cc
nobody callers (Err x) e None ticket before after is none same = subst (λ (r : PendingReplies). Keeps before [] r) (sym same) (keeps_none before)
nobody callers (Err x) e (Some step) ticket before after is none same = absurd cc

pub returns-after-last-clause-reported : goal.returns-after-last-clause-reported
returns-after-last-clause-reported g c =
    let old = c.args.seated.now in
    let last : option_copied c.last.result ≡ old.desk.cell.last = c.last.ensures.value ∙ ap (λ x. x.last) c.cell.ensures in
    elim c.match-last.branch [
      | in-Some w ↦ search rules
      | in_default w ↦
          let none : None ≡ old.desk.cell.last = subst (λ (o : Option (Bor Step)). option_copied o ≡ old.desk.cell.last) w.in_default.is last in
          nobody old.callers.items c.args.calls c.in-Err.field-0 old.desk.cell.last c.args.answering.now.ticket c.args.replies.now c.match-last.replies c.in-Err.is none w.replies-is
    ]
