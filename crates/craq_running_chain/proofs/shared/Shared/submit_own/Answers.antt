use Rattle.std.proofs.Common.{◌≡◌, ◌⊎◌, inr, false, subst}
use Rattle.craq_model.specs.declared.ask.Ask.{Ask}
use Rattle.craq_seat.specs.RefusedCalls.{IsUpdate}
use Rattle.craq_running_node.specs.Replies.{in_hand}
use Rattle.craq_running_chain.proofs.Asks.{put_at_node, put_in_queue}
use Rattle.craq_running_chain.proofs.shared.Shared.submit_own.Goals as goal

pub returns-in-OwnStep : goal.returns-in-OwnStep
returns-in-OwnStep g c =
    put_at_node g.C.Core.represents c.args.self.now.chain_threads c.args.own.made.name c.args.own.made.ask c.args.own.pass c.args.own.at.token (in_hand c.serve_at.result) (c.choose_way.ensures.own_step c.in-OwnStep.is) c.serve_at.ensures

pub returns-in-Inline : goal.returns-in-Inline
returns-in-Inline g c =
    put_at_node g.C.Core.represents c.args.self.now.chain_threads c.args.own.made.name c.args.own.made.ask c.args.own.pass c.args.own.at.token (in_hand c.serve_at-reply.result) (c.choose_way.ensures.inline_step c.in-Inline.is) c.serve_at-reply.ensures

pub returns-in-Queue : goal.returns-in-Queue
returns-in-Queue g c =
    let may = subst (λ (a : Ask). (c.args.self.now.chain_threads ≡ false) ⊎ IsUpdate a) c.ask.ensures (c.choose_way.ensures.queue c.in-Queue.is) in
    put_in_queue g.C.Core.represents c.args.self.now.chain_threads c.args.own.made.name c.args.own.made.ask c.args.own.pass c.args.own.at.token c.queue-queued.result c.queue-queued.ensures may

pub returns-in-QueueForCaller : goal.returns-in-QueueForCaller
returns-in-QueueForCaller g c =
    let may : (c.args.self.now.chain_threads ≡ false) ⊎ IsUpdate c.args.own.made.ask = inr (subst (λ (a : Ask). IsUpdate a) c.ask.ensures (c.choose_way.ensures.for_caller c.in-QueueForCaller.is)) in
    put_in_queue g.C.Core.represents c.args.self.now.chain_threads c.args.own.made.name c.args.own.made.ask c.args.own.pass c.args.own.at.token c.queue-queued-in-QueueForCaller.result c.queue-queued-in-QueueForCaller.ensures may
