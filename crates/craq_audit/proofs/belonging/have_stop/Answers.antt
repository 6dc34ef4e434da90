use Rattle.std.proofs.Common.{ap, ◌∙◌}
use Rattle.craq_audit.proofs.Tests.{no_some, no_true, some_same}
use Rattle.craq_audit.proofs.belonging.have_stop.Goals as goal

pub returns-in-None : goal.returns-in-None
returns-in-None c = (no_true, λ w. no_some w.0 (c.in-None.ensures.only w.0 w.1 w.2))

pub returns-in_default : goal.returns-in_default
returns-in_default c = (no_true, λ w. absurd (c.in_default.not-Stop (ap (λ y. y.event) (some_same c.in-Some.record.now w.0 (c.in-Some.ensures.only w.0 w.1 w.2)) ∙ w.3)))
