use Rattle.std.proofs.Common.{◌≡◌, ◌-◌}
use Rattle.craq_wire.specs.PartReading.{many_at}
use Rattle.craq_wire.proofs.Loop.{with_front}
use Rattle.craq_wire.proofs.list.read_parts.Given as goal

abbrev pub invariant-loop : goal.invariant-loop
invariant-loop g l = with_front l.parts (many_at g.T.MessagePart.part_at (l.count - l.counter) l.rest) ≡ many_at g.T.MessagePart.part_at l.count l.bytes
