use Rattle.std.proofs.Common.{◌≤◌, length, drop, ap, arith}
use Rattle.std.proofs.lemmas.List.{drop_all}
use Rattle.craq_compact_state.specs.Bytes.{bytes_of_entries}
use Rattle.craq_compact_state.proofs.Bytes.{sum_at_end}
use Rattle.craq_compact_state.proofs.counted.bytes_of_entries.Goals as goal

pub returns : goal.returns
returns c =
    let over : length c.args.entries.now ≤ c.loop-entry.entry-index = omega (arith, c.loop-entry-test.false) in
    sum_at_end c.loop-entry.bytes (bytes_of_entries (drop c.loop-entry.entry-index c.args.entries.now)) (bytes_of_entries c.args.entries.now) c.loop-entry.invariant.1 (ap bytes_of_entries (drop_all c.loop-entry.entry-index c.args.entries.now over)) c.loop-entry.invariant.0
