use Rattle.std.proofs.Common.{◌≤◌, length, drop, ap, arith}
use Rattle.std.proofs.lemmas.List.{drop_all}
use Rattle.craq_compact_state.specs.Bytes.{bytes_of_writes}
use Rattle.craq_compact_state.proofs.Bytes.{sum_at_end}
use Rattle.craq_compact_state.proofs.counted.bytes_of_writes.Goals as goal

pub returns : goal.returns
returns c =
    let over : length c.args.writes.now ≤ c.loop-write.write-index = omega (arith, c.loop-write-test.false) in
    sum_at_end c.loop-write.bytes (bytes_of_writes (drop c.loop-write.write-index c.args.writes.now)) (bytes_of_writes c.args.writes.now) c.loop-write.invariant.1 (ap bytes_of_writes (drop_all c.loop-write.write-index c.args.writes.now over)) c.loop-write.invariant.0
