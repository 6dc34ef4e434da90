use Rattle.std.proofs.Common.{ap, sym, subst, ◌∙◌}
use Rattle.std.specs.Prelude.{Contains}
use Rattle.craq_model.specs.declared.step.Out.TheVariants as outs
use Rattle.craq_audit.proofs.Tests.{contains_out, no_some, no_true, out_contains, some_same}
use Rattle.craq_audit.proofs.receipts.is_answered.Goals as goal

pub returns-in-None : goal.returns-in-None
returns-in-None c = (no_true, λ w. no_some w.0 (c.in-None.ensures.only w.0 w.1 (w.2 ∙ ap (λ r. r.stamp) (sym c.answered.ensures))))

pub returns-in-Some : goal.returns-in-Some
returns-in-Some c =
    let o = outs.Answer c.args.receipt.now.call.ticket c.args.receipt.now.answer in
    let k = rw (c.ticket.ensures, c.answer.ensures.value, c.as_slice.ensures) at c.has_answer.ensures in (
      λ h. (c.in-Some.record.now, c.in-Some.ensures.found.0, c.in-Some.ensures.found.1 ∙ ap (λ r. r.stamp) c.answered.ensures, out_contains c.in-Some.record.now.step.outs o (k.0 h)),
      λ w. let s = some_same c.in-Some.record.now w.0 (c.in-Some.ensures.only w.0 w.1 (w.2 ∙ ap (λ r. r.stamp) (sym c.answered.ensures))) in
          k.1 (contains_out c.in-Some.record.now.step.outs o (subst (λ y. Contains y.step.outs o) (sym s) w.3)),
    )
