use Rattle.std.proofs.Common.{◌≡◌, drop}
use Rattle.std.specs.List.{list_all, flat_map}
use Rattle.craq_script.specs.Asked.{is_value, item_value}
use Rattle.craq_script.proofs.asking.items_have_values.Given as goal

-- the answer for all items is that for the remaining items
abbrev pub invariant-loop-item : goal.invariant-loop-item
invariant-loop-item l = list_all is_value (flat_map item_value (drop l.item-index l.items)) ≡ list_all is_value (flat_map item_value l.items)
