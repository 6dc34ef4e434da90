use Rattle.std.proofs.Common.{Some, cond, sym, ap, ◌∙◌}
use Rattle.craq_commands.specs.declared.reply.Reply.TheVariants as replies
use Rattle.craq_commands.specs.Kept.{said_of, largest}
use Rattle.craq_commands.specs.Known.{Stale, kept_or_new}
use Rattle.craq_names.specs.Maps.{at_number}
use Rattle.craq_commands.proofs.Windows.{largest_last}
use Rattle.craq_commands.proofs.window.look_in.Goals as goal

pub returns-then-is_stale_in-clause-reply : goal.returns-then-is_stale_in-clause-reply
unfolding said_of
returns-then-is_stale_in-clause-reply c =
    let w = c.args.replies.now in
    let stale = sym c.is_stale_in.ensures ∙ c.if-is_stale_in.true in
    ap (λ n. Some (replies.Stale n)) (sym (largest_last w c.in-Some.field-0.now (sym c.in-Some.ensures.value)))
    ∙ sym (ap (λ b. cond b (Some (replies.Stale (largest w))) (at_number w c.args.number)) stale)

pub returns-then-is_stale_in-clause-known : goal.returns-then-is_stale_in-clause-known
returns-then-is_stale_in-clause-known c =
    let w = c.args.replies.now in
    let stale = sym c.is_stale_in.ensures ∙ c.if-is_stale_in.true in
    ap Stale (sym (largest_last w c.in-Some.field-0.now (sym c.in-Some.ensures.value)))
    ∙ sym (ap (λ b. cond b (Stale (largest w)) (kept_or_new (at_number w c.args.number))) stale)
