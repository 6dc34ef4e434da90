use Rattle.std.proofs.Common.{◌≡◌, ◌≤◌, ◌-◌, ◌^◌, [], length, drop, ap, arith}
use Rattle.std.proofs.lemmas.List.{drop_all}
use Rattle.craq_compact_history.specs.Counted.{first_writes}
use Rattle.craq_compact_history.proofs.Counted.{at_end}
use Rattle.craq_compact_history.proofs.history.count_first.Goals as goal

pub returns : goal.returns
returns c =
    let over : length c.args.writes.now ≤ c.loop-write.write-index = omega (arith, c.loop-write-test.false) in
    at_end c.loop-write.count (first_writes (drop c.loop-write.write-index c.args.writes.now)) (first_writes c.args.writes.now) (2 ^ 64 - 1) c.loop-write.invariant.1 (ap first_writes (drop_all c.loop-write.write-index c.args.writes.now over)) c.loop-write.invariant.0
