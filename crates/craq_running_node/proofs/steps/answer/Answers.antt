use Rattle.std.proofs.Common.{◌≡◌, ◌∷◌, ◌∙◌, ℕ, List, Option, None, Ok, false, ap, sym, subst, refl}
use Rattle.craq_seat.specs.Calls.{Called}
use Rattle.craq_store_parts.specs.Recorded.{HaveReplied}
use Rattle.craq_running_node.specs.Replies.{Keeps, caller_under, is_own, others_of, reply_to}
use Rattle.craq_running_node.proofs.Telling.{Left, Outcomes, Owns, left_first, left_next, others_with, owns_first, owns_other}
use Rattle.craq_running_node.proofs.steps.answer.Goals as goal

pub loop-receipt-init : goal.loop-receipt-init
loop-receipt-init g c =
    let t = c.args.answering.now.ticket in
    let first = c.args.callers.now.items in
    let before = c.args.replies.now in
    let all = c.args.receipts.items in
    let rest = c.into_iter-receipt-iterator.ensures.into_iter_gives.0 in
    record {
      left = subst (λ (l : List Called). Left first first before before (others_of t all) (others_of t l)) (sym rest) (left_first first before (others_of t all));
      own = subst (λ (l : List Called). Owns t None all l) (sym rest) (owns_first t all);
      same = refl;
      replied = subst (λ (l : List Called). HaveReplied c.args.answering.now.token c.args.answering.now.name l) (sym rest) c.requires;
    }

pub loop-receipt-preserved : goal.loop-receipt-preserved
loop-receipt-preserved g c =
    let t = c.args.answering.now.ticket in
    let first = c.args.callers.now.items in
    let now = c.loop-receipt.callers.items in
    let before = c.args.replies.now in
    let mid = c.loop-receipt.replies in
    let after = c.add_under.new.self in
    let all = c.args.receipts.items in
    let said = others_of t all in
    let rest = c.next.new.self.rest.items in
    let r = c.in-Some.receipt in
    let at = c.ticket-at.result in
    let step = c.in-Some.ensures.steps.0 in
    let at_is : at ≡ r.call.ticket = c.ticket-at.ensures ∙ ap (λ x. x.call.ticket) c.new-reply.ensures in
    let ticket : c.loop-receipt.answering.ticket ≡ t = ap (λ x. x.ticket) c.loop-receipt.invariant.same in
    let theirs : is_own t r ≡ false = subst (λ (k : Option ℕ). is_own k r ≡ false) ticket (sym (c.is_own.ensures r at_is) ∙ c.if-is_own.false) in
    let left = subst (λ (l : List Called). Left first now before mid said (others_of t l)) step c.loop-receipt.invariant.left in
    let one = subst (λ (l : Outcomes). Left first now before mid said l) (others_with t rest r theirs) left in
    let under = subst (λ (n : ℕ). Left first now before mid said ((n, Ok r) ∷ others_of t rest)) (sym at_is) one in
    let kept = subst (λ (x : Called). Keeps mid (reply_to (caller_under now at) (Ok x)) after) c.new-reply.ensures c.add_under.ensures.reported in
    let replied = subst (λ (l : List Called). HaveReplied c.args.answering.now.token c.args.answering.now.name l) step c.loop-receipt.invariant.replied in
    record {
      left = left_next first now c.add_under.new.callers.items before mid after said (others_of t rest) at (Ok r) under c.add_under.ensures.others kept;
      own = owns_other t c.loop-receipt.own all rest r theirs (subst (λ (l : List Called). Owns t c.loop-receipt.own all l) step c.loop-receipt.invariant.own);
      same = rw c.again-token.ensures.same c.loop-receipt.invariant.same;
      replied = replied.1;
    }
