use Rattle.craq_commands.proofs.Keeping.{few_but_first}
use Rattle.craq_commands.proofs.window.keep_in.Goals as goal

pub returns-then-len-gt-WINDOW_LIMIT-clause-few : goal.returns-then-len-gt-WINDOW_LIMIT-clause-few
returns-then-len-gt-WINDOW_LIMIT-clause-few c =
    λ few. rw (c.remove.ensures.items, c.in_ok-put_at.ensures.ok) (few_but_first c.args.replies.now.items c.args.number c.args.reply few)
