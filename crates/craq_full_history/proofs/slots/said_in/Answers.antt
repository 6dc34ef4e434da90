use Rattle.std.proofs.Common.{◌≡◌, true, Some, cond, sym, ap, ◌∙◌}
use Rattle.std.specs.Option.{option_and_then}
use Rattle.craq_names.specs.Maps.{at_number}
use Rattle.craq_commands.specs.declared.reply.Reply.TheVariants.{Stale}
use Rattle.craq_full_history.specs.Slots.{reply_at, is_stale_in, last_number, said_in}
use Rattle.craq_full_history.proofs.Ends.{last_is, none_said}
use Rattle.craq_full_history.proofs.slots.said_in.Goals as goal

pub returns-then-is_stale : goal.returns-then-is_stale
unfolding said_in
returns-then-is_stale c =
    let xs = c.args.slots.now in
    let found = option_and_then (reply_at c.args.window.now c.args.entries.now) (at_number xs c.args.number) in
    let stale : is_stale_in xs c.args.number ≡ true = sym c.is_stale.ensures ∙ c.if-is_stale.true in
    ap (λ n. Some (Stale n)) (c.number.ensures ∙ sym (last_is xs c.in-Some.last.now (sym c.in-Some.ensures.value)))
    ∙ sym (ap (λ b. cond b (Some (Stale (last_number xs))) found) stale)

pub returns-in-None : goal.returns-in-None
returns-in-None c = sym (none_said (reply_at c.args.window.now c.args.entries.now) c.args.slots.now c.args.number (sym c.in-None.ensures.value))
