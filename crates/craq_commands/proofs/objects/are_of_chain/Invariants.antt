use Rattle.std.proofs.Common.{◌≡◌, map, drop}
use Rattle.std.specs.Prelude.{◌==◌}
use Rattle.std.specs.List.{list_all}
use Rattle.craq_names.specs.declared.name.ObjectId.{ObjectId}
use Rattle.craq_commands.proofs.objects.are_of_chain.Given as goal

abbrev pub invariant-loop-item : goal.invariant-loop-item
invariant-loop-item g l =
    list_all (λ (o : ObjectId). o.chain == l.chain) (map g.T.Named.object_named (drop l.item-index l.items)) ≡ list_all (λ (o : ObjectId). o.chain == l.chain) (map g.T.Named.object_named l.items)
