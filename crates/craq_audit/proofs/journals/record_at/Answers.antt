use Rattle.std.proofs.Common.{◌≡◌, ap, ltb, arith, rules, ◌∙◌, Some}
use Rattle.std.proofs.lemmas.Grind.{common_steps}
use Rattle.std.proofs.lemmas.List.Sorted.{IsPartitionPoint-from_clause, IsPartitionedBy-ltb}
use Rattle.craq_audit.proofs.Stamped.{is_at, not_at, rising_by}
use Rattle.craq_audit.proofs.journals.record_at.Goals as goal

pub returns-then-place-records-clause-only : goal.returns-then-place-records-clause-only
returns-then-place-records-clause-only g c = λ r there at.
    let p = IsPartitionPoint-from_clause (λ y. ltb y.stamp c.args.stamp) _ _ c.partition_point-place.ensures.partitioned (IsPartitionedBy-ltb (λ y. y.stamp) _ c.args.stamp (rising_by _ c.requires)) (λ a r q k. search rules) in
    let t = is_at _ _ _ r c.requires p there at in
    let within = t.0 in
    absurd (omega (arith, within))

pub returns-then-eq-clause-only : goal.returns-then-eq-clause-only
returns-then-eq-clause-only g c = λ r there at.
    let p = IsPartitionPoint-from_clause (λ y. ltb y.stamp c.args.stamp) _ _ c.partition_point-place.ensures.partitioned (IsPartitionedBy-ltb (λ y. y.stamp) _ c.args.stamp (rising_by _ c.requires)) (λ a r q k. search rules) in
    ap Some (not_at _ c.args.stamp _ c.index-records-place.result r (is_at _ _ _ r c.requires p there at) c.index-records-place.is)

pub returns-else-eq-clause-only : goal.returns-else-eq-clause-only
returns-else-eq-clause-only g c = λ r there at.
    let p = IsPartitionPoint-from_clause (λ y. ltb y.stamp c.args.stamp) _ _ c.partition_point-place.ensures.partitioned (IsPartitionedBy-ltb (λ y. y.stamp) _ c.args.stamp (rising_by _ c.requires)) (λ a r q k. search rules) in
    let same : c.index-records-place.result.stamp ≡ c.args.stamp = ap (λ y. y.stamp) (not_at _ c.args.stamp _ c.index-records-place.result r (is_at _ _ _ r c.requires p there at) c.index-records-place.is) ∙ at in
    absurd (grind (arith, common_steps, same))
