use Rattle.std.proofs.Common.{◌≡◌, map, take}
use Rattle.craq_names.specs.declared.name.ObjectId.{ObjectId}
use Rattle.craq_commands.specs.Objects.{object_of}
use Rattle.craq_commands.proofs.evaluation.objects_read.Given as goal

abbrev pub invariant-loop-object : goal.invariant-loop-object
invariant-loop-object g l =
    l.found.items ≡ map (λ (o : ObjectId). object_of (g.L.Look.objects l.look) o.key) (take l.object-index l.objects)
