use Rattle.std.proofs.Common.{◌≡◌, take}
use Rattle.std.specs.List.{flat_map}
use Rattle.craq_script.specs.Asked.{item_compare}
use Rattle.craq_script.proofs.asking.compares_of.Given as goal

abbrev pub invariant-loop-item : goal.invariant-loop-item
invariant-loop-item l = l.compares ≡ flat_map item_compare (take l.item-index l.items)
