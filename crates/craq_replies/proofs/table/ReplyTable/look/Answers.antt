use Rattle.std.proofs.Common.{sym, ◌∙◌, ap}
use Rattle.craq_commands.specs.Kept.{Window, is_stale, said_of}
use Rattle.craq_commands.specs.Known.{known_of}
use Rattle.craq_replies.proofs.Tables.{window_here, no_window}
use Rattle.craq_replies.proofs.table.ReplyTable.look.Goals as goal

pub returns-in-Some-clause-reply : goal.returns-in-Some-clause-reply
returns-in-Some-clause-reply c =
    rw (← c.self.view_is)
    (c.look_in.ensures.reply ∙ ap (λ (w : Window). said_of w c.args.number) (c.as_slice.ensures.value ∙ sym (window_here c.self.inside.places.entries c.args.client c.in-Some.held.now c.self.invariant (rw c.get.ensures at c.in-Some.ensures.value))))

pub returns-in-Some-clause-known : goal.returns-in-Some-clause-known
returns-in-Some-clause-known c =
    rw (← c.self.view_is)
    (c.look_in.ensures.known ∙ ap (λ (w : Window). known_of w c.args.number) (c.as_slice.ensures.value ∙ sym (window_here c.self.inside.places.entries c.args.client c.in-Some.held.now c.self.invariant (rw c.get.ensures at c.in-Some.ensures.value))))

pub returns-in-None-clause-reply : goal.returns-in-None-clause-reply
unfolding said_of is_stale
returns-in-None-clause-reply c =
    rw (← c.self.view_is) (sym (ap (λ (w : Window). said_of w c.args.number) (no_window c.self.inside.places.entries c.args.client c.self.invariant (rw c.get.ensures at c.in-None.ensures.value))))

pub returns-in-None-clause-known : goal.returns-in-None-clause-known
unfolding is_stale
returns-in-None-clause-known c =
    rw (← c.self.view_is) (sym (ap (λ (w : Window). known_of w c.args.number) (no_window c.self.inside.places.entries c.args.client c.self.invariant (rw c.get.ensures at c.in-None.ensures.value))))
