use Rattle.std.proofs.Common.{◌≡◌, ◌∙◌, ◌<◌, ℕ, length, refl, subst, arith}
use Rattle.std.specs.List.{AllByRecursion}
use Rattle.craq_commands.specs.declared.reply.Reply.{Reply}
use Rattle.craq_commands.specs.Kept.{Window}
use Rattle.craq_replies.proofs.Shifted.{kept_newest}
use Rattle.craq_replies.proofs.held.HeldReplies.keep.Goals as goal

pub returns-then-are_before-clause-ok : goal.returns-then-are_before-clause-ok
returns-then-are_before-clause-ok c =
    let full : length c.self.inside.replies.items ≡ 8 = omega (arith, c.if-len-eq-WINDOW_LIMIT.true, c.len.ensures) in
    let before = subst (λ (w : Window). AllByRecursion (λ (k : ℕ × Reply). k.0 < c.args.number) w) c.as_slice.ensures.value (c.if-are_before.ensures.0 refl) in
    rw (← c.self.view_is) (c.shift_in.ensures ∙ kept_newest c.self.inside.replies.items c.args.number c.args.reply full before)
