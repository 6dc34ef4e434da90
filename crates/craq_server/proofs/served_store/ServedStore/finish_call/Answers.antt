use Rattle.craq_server.proofs.Sessions.{finishes_possibly}
use Rattle.craq_server.proofs.served_store.ServedStore.finish_call.Goals as goal

pub returns-in-Err-clause-finished : goal.returns-in-Err-clause-finished
returns-in-Err-clause-finished g c =
    finishes_possibly c.args.session.now c.finish.new.self c.args.request.now.node c.args.request.now.pass c.args.request.now.ask c.args.reply c.in-Err.refusal c.refusal_of_call.result c.in-Err.ensures c.refusal_of_call.ensures.reported c.refusal_of_call.ensures.closed
