use Rattle.std.proofs.Common.{◌≤◌, length, drop, ap, arith}
use Rattle.std.proofs.lemmas.List.{drop_all}
use Rattle.craq_compact_state.specs.Bytes.{bytes_of_objects}
use Rattle.craq_compact_state.proofs.Bytes.{sum_at_end}
use Rattle.craq_compact_state.proofs.counted.bytes_of_objects.Goals as goal

pub returns : goal.returns
returns c =
    let over : length c.args.objects.now ≤ c.loop-object.object-index = omega (arith, c.loop-object-test.false) in
    sum_at_end c.loop-object.bytes (bytes_of_objects (drop c.loop-object.object-index c.args.objects.now)) (bytes_of_objects c.args.objects.now) c.loop-object.invariant.1 (ap bytes_of_objects (drop_all c.loop-object.object-index c.args.objects.now over)) c.loop-object.invariant.0
