use Rattle.std.proofs.Common.{Err, ap, refl}
use Rattle.craq_event_loop.proofs.Halves.{answered_refused, err_closed}
use Rattle.craq_event_loop.proofs.Reportable.{came_back}
use Rattle.craq_event_loop.proofs.connection_state.reply_of_call.Goals as goal

pub returns-in-Err-clause-refused : goal.returns-in-Err-clause-refused
returns-in-Err-clause-refused c =
    let a = c.in-Err.ensures in
    let e = c.in-Err.refusal in
    answered_refused c.args.request.now c.in_ok-receipt.receipt c.args.outcome e e (Err e) c.in_ok-receipt.was a.err (λ is. a.closed.0 (ap Err is)) (λ other. err_closed _ e refl (a.closed.1 other)) refl refl

pub returns-in-Err-clause-encodable : goal.returns-in-Err-clause-encodable
returns-in-Err-clause-encodable c = came_back c.in-Err.refusal c.in-Err.ensures.err
