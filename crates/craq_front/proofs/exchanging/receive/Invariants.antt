use Rattle.std.proofs.Common.{◌≡◌, ◌-◌, [], length}
use Rattle.std.specs.Io.KnownBytes.{Consumes}
use Rattle.craq_front.proofs.exchanging.receive.Given as goal

abbrev pub invariant-loop-payload : goal.invariant-loop-payload
invariant-loop-payload g l = record {
  read : Consumes (g.S.Source.remaining l.fn.stream) (g.S.Source.remaining l.stream) l.buffers.input.items;
  counted : g.S.Counted.count l.stream ≡ g.S.Counted.count l.fn.stream;
  unsent : l.buffers.output.items ≡ [];
}

-- a frame has at most 1,048,580 bytes
abbrev pub decreases-loop-payload : goal.decreases-loop-payload
decreases-loop-payload g l = 1048580 - length l.buffers.input.items
