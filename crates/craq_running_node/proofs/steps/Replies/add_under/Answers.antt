use Rattle.craq_running_node.specs.Replies.{caller_under}
use Rattle.craq_running_node.proofs.Telling.{none_reported, to_found}
use Rattle.craq_running_node.proofs.steps.Replies.add_under.Goals as goal

pub reply-requires : goal.reply-requires
reply-requires g c = to_found c.args.callers.now.items c.args.ticket c.in-Some.caller c.args.outcome c.in-Some.ensures.item c.requires

pub returns-in-None-clause-reported : goal.returns-in-None-clause-reported
returns-in-None-clause-reported g c = none_reported c.args.self.now (caller_under c.args.callers.now.items c.args.ticket) c.args.outcome c.in-None.ensures.item
