use Rattle.std.proofs.Common.{sym, ap, ◌∙◌}
use Rattle.std.specs.Cmp.Lexicographic.{texts_ties}
use Rattle.std.specs.Ordering.{is_eq}
use Rattle.craq_compact_history.proofs.later.are_same.Goals as goal

pub returns-then-end_alike : goal.returns-then-end_alike
returns-then-end_alike c = c.is_eq.ensures ∙ ap is_eq c.cmp.ensures ∙ sym (texts_ties c.args.key.now c.args.other.now)
