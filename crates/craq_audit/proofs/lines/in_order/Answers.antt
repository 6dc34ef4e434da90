use Rattle.std.proofs.Common.{rules}
use Rattle.craq_audit.proofs.Sorting.{sorted_lines}
use Rattle.craq_audit.proofs.lines.in_order.Goals as goal

pub returns-clause-sorted : goal.returns-clause-sorted
returns-clause-sorted c = sorted_lines _ c.sort_unstable_by_key.ensures.sorted (λ a r q k. search rules)
