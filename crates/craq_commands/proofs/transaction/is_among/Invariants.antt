use Rattle.std.proofs.Common.{◌≡◌, map, drop}
use Rattle.std.specs.List.{list_any}
use Rattle.craq_commands.specs.Transaction.{same_object}
use Rattle.craq_commands.proofs.transaction.is_among.Given as goal

-- no visited item names the object
abbrev pub invariant-loop-item : goal.invariant-loop-item
invariant-loop-item g l =
    list_any (same_object l.object) (map g.T.Named.object_named (drop l.item-index l.items)) ≡ list_any (same_object l.object) (map g.T.Named.object_named l.items)
