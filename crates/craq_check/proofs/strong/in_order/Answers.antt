use Rattle.std.proofs.Common.{rules}
use Rattle.std.proofs.lemmas.List.Sorted.{IsNonDecreasingBy-from_sort_by_key}
use Rattle.craq_check.specs.Tests.{Placed}
use Rattle.craq_check.proofs.strong.in_order.Goals as goal

pub returns-clause-rising : goal.returns-clause-rising
returns-clause-rising c = IsNonDecreasingBy-from_sort_by_key (λ (x : Placed). x.1) _ c.sort_unstable_by_key.ensures.sorted (λ a r q k. search rules)
