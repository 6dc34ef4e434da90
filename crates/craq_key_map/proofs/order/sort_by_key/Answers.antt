use Rattle.std.proofs.Common.{rules}
use Rattle.std.specs.Cmp.Lexicographic.{nat_list_cmp_total}
use Rattle.std.proofs.lemmas.List.Sorted.{answers_always, ranks_by}
use Rattle.craq_key_map.proofs.Sorting.{sorted_same}
use Rattle.craq_key_map.proofs.order.sort_by_key.Goals as goal

pub returns-clause-sorted : goal.returns-clause-sorted
returns-clause-sorted g c =
    let sorted = c.sort_unstable_by.ensures.sorted _ (ranks_by nat_list_cmp_total (λ e. e.0)) (answers_always _ _ _ (λ f a r q k. search rules)) in
    (sorted_same c.args.entries.now.items c.sort_unstable_by.new.self.items c.requires c.sort_unstable_by.ensures.permutation sorted).0

pub returns-clause-same : goal.returns-clause-same
returns-clause-same g c =
    let sorted = c.sort_unstable_by.ensures.sorted _ (ranks_by nat_list_cmp_total (λ e. e.0)) (answers_always _ _ _ (λ f a r q k. search rules)) in
    (sorted_same c.args.entries.now.items c.sort_unstable_by.new.self.items c.requires c.sort_unstable_by.ensures.permutation sorted).1
