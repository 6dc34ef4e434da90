use Rattle.std.proofs.Common.{◌≡◌, take}
use Rattle.std.specs.List.{flat_map}
use Rattle.craq_script.specs.Asked.{item_write}
use Rattle.craq_script.proofs.asking.writes_of.Given as goal

abbrev pub invariant-loop-item : goal.invariant-loop-item
invariant-loop-item l = l.writes ≡ flat_map item_write (take l.item-index l.items)
