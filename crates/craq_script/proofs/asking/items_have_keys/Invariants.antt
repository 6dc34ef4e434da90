use Rattle.std.proofs.Common.{◌≡◌, map, drop}
use Rattle.std.specs.List.{list_all}
use Rattle.craq_script.specs.Asked.{has_key, item_object}
use Rattle.craq_script.proofs.asking.items_have_keys.Given as goal

-- the answer for all items is that for the remaining items
abbrev pub invariant-loop-item : goal.invariant-loop-item
invariant-loop-item l = list_all has_key (map item_object (drop l.item-index l.items)) ≡ list_all has_key (map item_object l.items)
