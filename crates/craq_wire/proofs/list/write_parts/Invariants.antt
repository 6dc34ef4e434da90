use Rattle.std.proofs.Common.{◌≡◌, ◌++◌, take}
use Rattle.std.specs.List.{flat_map, AllByRecursion}
use Rattle.craq_wire.proofs.list.write_parts.Given as goal

abbrev pub invariant-loop-part : goal.invariant-loop-part
invariant-loop-part g l = record {
  fit : AllByRecursion g.T.MessagePart.fits (take l.part-index l.parts);
  written : l.out.items ≡ l.fn.out.items ++ flat_map g.T.MessagePart.encoding (take l.part-index l.parts);
}
