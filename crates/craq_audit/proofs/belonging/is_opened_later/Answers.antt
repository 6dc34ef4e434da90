use Rattle.std.proofs.Common.{ap, sym, ◌∙◌}
use Rattle.craq_audit.proofs.Tests.{is_none, no_some, no_true, some_same}
use Rattle.craq_audit.proofs.belonging.is_opened_later.Goals as goal

pub returns-in-None : goal.returns-in-None
returns-in-None c = (no_true, λ w. no_some w.1 (c.in-None.ensures.only w.1 w.2 w.4))

pub returns-in-Some : goal.returns-in-Some
returns-in-Some c = (
  λ h. (is_none c.args.opening.now.config (sym c.is_some.ensures ∙ c.if-is_some.false), c.in-Some.record.now, c.in-Some.ensures.found.0, c.is_join.ensures.0 h, c.in-Some.ensures.found.1),
  λ w. c.is_join.ensures.1 (ap (λ y. y.event) (some_same c.in-Some.record.now w.1 (c.in-Some.ensures.only w.1 w.2 w.4)) ∙ w.3),
)
