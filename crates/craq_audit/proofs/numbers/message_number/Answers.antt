use Rattle.std.proofs.Common.{◌≡◌, ◌+◌, length, get_or, arith, rules, ap, ◌∙◌}
use Rattle.std.proofs.lemmas.List.Sorted.{IsPartitionPoint-from_clause}
use Rattle.craq_audit.proofs.Counted.{is_below, number_here, parted, sums_long}
use Rattle.craq_audit.proofs.numbers.message_number.Goals as goal

pub bounds-sums-place : goal.bounds-sums-place
bounds-sums-place c =
    let p = IsPartitionPoint-from_clause (is_below c.args.message.now) _ _ c.partition_point-place.ensures.partitioned (parted c.args.message.now c.args.lines.now c.requires.order) (λ a r q k. search rules) in
    let t = number_here c.partition_point-place.result c.args.lines.now c.args.message.now c.requires.order c.requires.sent p in
    let within = t.0 in
    let long : length c.args.sums.now ≡ length c.args.lines.now = ap length c.requires.sums ∙ sums_long 0 c.args.lines.now in
    omega (arith, within, long)

pub overflow_add-result : goal.overflow_add-result
overflow_add-result c =
    let p = IsPartitionPoint-from_clause (is_below c.args.message.now) _ _ c.partition_point-place.ensures.partitioned (parted c.args.message.now c.args.lines.now c.requires.order) (λ a r q k. search rules) in
    let t = number_here c.partition_point-place.result c.args.lines.now c.args.message.now c.requires.order c.requires.sent p in
    let is = t.1 in
    let most = t.2 in
    let few = c.requires.fits in
    let own = ap (λ xs. get_or xs c.partition_point-place.result 0) c.requires.sums in
    omega (arith, is, most, few, own)

pub overflow_add-result-2 : goal.overflow_add-result-2
overflow_add-result-2 c =
    let p = IsPartitionPoint-from_clause (is_below c.args.message.now) _ _ c.partition_point-place.ensures.partitioned (parted c.args.message.now c.args.lines.now c.requires.order) (λ a r q k. search rules) in
    let t = number_here c.partition_point-place.result c.args.lines.now c.args.message.now c.requires.order c.requires.sent p in
    let is = t.1 in
    let most = t.2 in
    let few = c.requires.fits in
    let own = ap (λ xs. get_or xs c.partition_point-place.result 0) c.requires.sums in
    omega (arith, is, most, few, own)

pub returns : goal.returns
returns c =
    let p = IsPartitionPoint-from_clause (is_below c.args.message.now) _ _ c.partition_point-place.ensures.partitioned (parted c.args.message.now c.args.lines.now c.requires.order) (λ a r q k. search rules) in
    let t = number_here c.partition_point-place.result c.args.lines.now c.args.message.now c.requires.order c.requires.sent p in
    ap (λ xs. get_or xs c.partition_point-place.result 0 + c.args.message.now.index + 1) c.requires.sums ∙ t.1
