use Rattle.std.proofs.Common.{◌≡◌, ◌+◌, ◌-◌, ◌*◌, map, take}
use Rattle.std.specs.Prelude.{length}
use Rattle.std.specs.List.{range_with_len}
use Rattle.craq_model.specs.Parts.{part_of}
use Rattle.craq_write.proofs.sending_states.cut_into_parts.Given as goal

-- the later parts are cut off, and the items before them remain
abbrev pub invariant-loop-place : goal.invariant-loop-place
invariant-loop-place l = record {
  objects : l.objects.items ≡ take (64 * l.place) l.fn.state.objects;
  kept : l.kept.items ≡ take (64 * l.place - length l.fn.state.objects) l.fn.state.kept;
  parts : l.parts.items ≡ map (part_of l.position l.fn.state) (range_with_len (l.place + 1) (l.count - l.place));
}
