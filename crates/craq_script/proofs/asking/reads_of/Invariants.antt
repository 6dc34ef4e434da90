use Rattle.std.proofs.Common.{◌≡◌, take}
use Rattle.std.specs.List.{flat_map}
use Rattle.craq_script.specs.Asked.{item_read}
use Rattle.craq_script.proofs.asking.reads_of.Given as goal

abbrev pub invariant-loop-item : goal.invariant-loop-item
invariant-loop-item l = l.reads ≡ flat_map item_read (take l.item-index l.items)
