use Rattle.std.proofs.Common.{sym, subst}
use Rattle.craq_audit.specs.Lookups.{IsSend}
use Rattle.craq_audit.proofs.Tests.{no_some, no_true, some_same}
use Rattle.craq_audit.proofs.senders.have_sent.Goals as goal

pub returns-in-None : goal.returns-in-None
returns-in-None g c = (no_true, λ w. no_some w.0 (c.in-None.ensures.only w.0 w.1 w.2))

pub returns-in-Some : goal.returns-in-Some
returns-in-Some g c = (
  λ h. (c.in-Some.record.now, c.in-Some.ensures.found.0, c.in-Some.ensures.found.1, c.is_send.ensures.0 h),
  λ w. c.is_send.ensures.1 (subst (λ y. IsSend y.step c.args.message.now) (sym (some_same c.in-Some.record.now w.0 (c.in-Some.ensures.only w.0 w.1 w.2))) w.3),
)
