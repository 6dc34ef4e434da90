use Rattle.std.proofs.Common.{◌≡◌, ◌<◌, ◌+◌, ◌%◌, ◌^◌, drop}
use Rattle.craq_compact_state.specs.Bytes.{bytes_of_objects}
use Rattle.craq_compact_state.proofs.counted.bytes_of_objects.Given as goal

-- the count so far and that of the objects that are left is that of all
abbrev pub invariant-loop-object : goal.invariant-loop-object
invariant-loop-object l = (l.bytes < 2 ^ 64) × ((l.bytes + bytes_of_objects (drop l.object-index l.objects)) % 2 ^ 64 ≡ bytes_of_objects l.objects % 2 ^ 64)
