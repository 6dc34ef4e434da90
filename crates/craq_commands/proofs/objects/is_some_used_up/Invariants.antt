use Rattle.std.proofs.Common.{◌≡◌, map, drop}
use Rattle.std.specs.Prelude.{◌==◌}
use Rattle.std.specs.List.{list_any}
use Rattle.craq_names.specs.Limits.{greatest}
use Rattle.craq_names.specs.declared.name.ObjectId.{ObjectId}
use Rattle.craq_commands.specs.Objects.{version_of}
use Rattle.craq_commands.proofs.objects.is_some_used_up.Given as goal

abbrev pub invariant-loop-item : goal.invariant-loop-item
invariant-loop-item g l =
    list_any (λ (o : ObjectId). version_of (g.L.Look.objects l.look) o.key == greatest) (map g.T.Named.object_named (drop l.item-index l.items)) ≡ list_any (λ (o : ObjectId). version_of (g.L.Look.objects l.look) o.key == greatest) (map g.T.Named.object_named l.items)
