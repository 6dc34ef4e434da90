use Rattle.std.proofs.Common.{sym, ◌∙◌}
use Rattle.craq_replies.proofs.Tables.{window_here, no_window}
use Rattle.craq_replies.proofs.table.ReplyTable.window.Goals as goal

pub returns-in-Some-clause-window : goal.returns-in-Some-clause-window
returns-in-Some-clause-window c =
    rw (← c.self.view_is)
    (c.as_slice.ensures.value ∙ sym (window_here c.self.inside.places.entries c.args.client c.in-Some.held.now c.self.invariant (rw c.get.ensures at c.in-Some.ensures.value)))

pub returns-in-None-clause-window : goal.returns-in-None-clause-window
returns-in-None-clause-window c = rw (← c.self.view_is) (sym (no_window c.self.inside.places.entries c.args.client c.self.invariant (rw c.get.ensures at c.in-None.ensures.value)))
