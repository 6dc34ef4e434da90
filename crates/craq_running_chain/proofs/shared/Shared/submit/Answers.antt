use Rattle.std.proofs.Common.{Ok, Some, Err, subst}
use Rattle.craq_model.specs.declared.ask.Ask.{Ask}
use Rattle.craq_running_node.specs.Replies.{in_hand}
use Rattle.craq_running_chain.specs.Asks.{IsPut}
use Rattle.craq_running_chain.proofs.Asks.{put_reported_as}
use Rattle.craq_running_chain.proofs.shared.Shared.submit.Goals as goal

pub returns-in-Ok-clause-put : goal.returns-in-Ok-clause-put
returns-in-Ok-clause-put g c =
    subst (λ (ask : Ask). IsPut g.C.Core.represents c.args.self.now.chain_threads c.args.own.made.name ask c.args.own.pass c.args.own.at.token (in_hand (Ok c.in-Ok.found))) c.requires c.in-Ok.ensures

pub returns-in-Err-clause-put : goal.returns-in-Err-clause-put
returns-in-Err-clause-put g c =
    let put = subst (λ (ask : Ask). IsPut g.C.Core.represents c.args.self.now.chain_threads c.args.own.made.name ask c.args.own.pass c.args.own.at.token (Some (Err c.in-Err.refusal))) c.requires c.in-Err.ensures in
    put_reported_as g.C.Core.represents c.args.self.now.chain_threads c.args.own.made.name c.args.ask.now c.args.own.pass c.args.own.at.token c.in-Err.refusal c.possible_refusal.result c.possible_refusal.ensures.reported c.possible_refusal.ensures.closed put
