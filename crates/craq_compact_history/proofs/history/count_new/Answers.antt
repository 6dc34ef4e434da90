use Rattle.std.proofs.Common.{◌≡◌, ◌≤◌, ◌-◌, ◌^◌, [], length, drop, ap, arith}
use Rattle.std.proofs.lemmas.List.{drop_all}
use Rattle.craq_compact_history.specs.Counted.{new_objects}
use Rattle.craq_compact_history.proofs.Counted.{at_end}
use Rattle.craq_compact_history.proofs.history.count_new.Goals as goal

pub returns : goal.returns
returns c =
    let over : length c.args.entries.now ≤ c.loop-entry.entry-index = omega (arith, c.loop-entry-test.false) in
    at_end c.loop-entry.count (new_objects (drop c.loop-entry.entry-index c.args.entries.now)) (new_objects c.args.entries.now) (2 ^ 64 - 1) c.loop-entry.invariant.1 (ap new_objects (drop_all c.loop-entry.entry-index c.args.entries.now over)) c.loop-entry.invariant.0
