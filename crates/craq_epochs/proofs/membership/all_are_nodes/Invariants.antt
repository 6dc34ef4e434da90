use Rattle.std.proofs.Common.{◌≤◌, ◌↔◌, drop}
use Rattle.std.specs.List.{AllByRecursion}
use Rattle.craq_names.specs.Limits.{greatest_count}
use Rattle.craq_epochs.proofs.membership.all_are_nodes.Given as goal

-- no visited id is 0
abbrev pub invariant-loop-id : goal.invariant-loop-id
invariant-loop-id l =
    AllByRecursion (λ id. (1 ≤ id) × (id ≤ greatest_count)) (drop l.id-index l.ids) ↔ AllByRecursion (λ id. (1 ≤ id) × (id ≤ greatest_count)) l.ids
