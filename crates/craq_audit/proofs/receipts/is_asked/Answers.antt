use Rattle.std.proofs.Common.{ap, sym, ◌∙◌}
use Rattle.craq_audit.proofs.Tests.{no_some, no_true, some_same}
use Rattle.craq_audit.proofs.receipts.is_asked.Goals as goal

pub returns-in-None : goal.returns-in-None
returns-in-None c = (no_true, λ w. no_some w.0 (c.in-None.ensures.only w.0 w.1 (w.2 ∙ ap (λ r. r.stamp) (sym c.asked.ensures))))

pub returns-in-Some : goal.returns-in-Some
returns-in-Some c = (
  λ h. let t = c.is_call.ensures.0 h in (c.in-Some.record.now, c.in-Some.ensures.found.0, c.in-Some.ensures.found.1 ∙ ap (λ r. r.stamp) c.asked.ensures, t.0, t.1, t.2),
  λ w. let s = some_same c.in-Some.record.now w.0 (c.in-Some.ensures.only w.0 w.1 (w.2 ∙ ap (λ r. r.stamp) (sym c.asked.ensures))) in
      c.is_call.ensures.1 (ap (λ y. y.event) s ∙ w.3, ap (λ y. y.pass) s ∙ w.4, ap (λ y. y.step.ticket) s ∙ w.5),
)
