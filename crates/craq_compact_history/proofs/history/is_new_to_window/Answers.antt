use Rattle.std.proofs.Common.{sym, ap, ◌∙◌}
use Rattle.craq_commands.specs.Known.{known_by}
use Rattle.craq_compact_history.proofs.Others.{is_known_new, new_known}
use Rattle.craq_compact_history.proofs.history.is_new_to_window.Goals as goal

pub returns-in-New : goal.returns-in-New
returns-in-New c = ap is_known_new (sym (ap known_by c.in-New.is) ∙ c.look_in.ensures.known) ∙ new_known c.args.window.now c.args.number

pub returns-in-Kept : goal.returns-in-Kept
returns-in-Kept c = ap is_known_new (sym (ap known_by c.in-Kept.is) ∙ c.look_in.ensures.known) ∙ new_known c.args.window.now c.args.number

pub returns-in-Stale : goal.returns-in-Stale
returns-in-Stale c = ap is_known_new (sym (ap known_by c.in-Stale.is) ∙ c.look_in.ensures.known) ∙ new_known c.args.window.now c.args.number
