use Rattle.std.proofs.Common.{sym, ap, ◌∙◌}
use Rattle.std.specs.Option.{option_copied}
use Rattle.std.specs.Prelude.{slice_get}
use Rattle.craq_runs.specs.Chain.{sent_in}
use Rattle.craq_audit.proofs.Sendings.{send_none, send_some, some_send}
use Rattle.craq_audit.proofs.Tests.{no_true}
use Rattle.craq_audit.proofs.senders.is_send.Goals as goal

pub returns-in-None : goal.returns-in-None
returns-in-None c =
    let e = ap (λ os. slice_get (sent_in os) c.args.message.now.index) (sym c.as_slice.ensures) ∙ sym c.message_after.ensures ∙ ap option_copied c.in-None.is in
    (no_true, λ h. absurd (send_none c.args.step.now c.args.message.now e h))

pub returns-in-Some : goal.returns-in-Some
returns-in-Some c =
    let e = ap (λ os. slice_get (sent_in os) c.args.message.now.index) (sym c.as_slice.ensures) ∙ sym c.message_after.ensures ∙ ap option_copied c.in-Some.is in (
      λ h. send_some c.args.step.now c.args.message.now c.in-Some.sent.now e (c.is_named.ensures.0 h),
      λ h. c.is_named.ensures.1 (some_send c.args.step.now c.args.message.now c.in-Some.sent.now e h),
    )
