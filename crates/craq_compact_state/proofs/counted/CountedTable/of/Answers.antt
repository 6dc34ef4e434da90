use Rattle.std.proofs.Common.{◌%◌, ◌^◌, [], refl, ap, ◌∙◌}
use Rattle.craq_commands.specs.Objects.{Objects}
use Rattle.craq_compact_state.specs.Bytes.{bytes_of_objects}
use Rattle.craq_compact_state.specs.Placed.{objects_of}
use Rattle.craq_compact_state.proofs.Bytes.{objects_counted}
use Rattle.craq_compact_state.proofs.counted.CountedTable.of.Goals as goal

pub returns-clause-counted : goal.returns-clause-counted
returns-clause-counted c =
    objects_counted c.bytes_of_objects-bytes.result c.args.objects (objects_of c.in_ok-objects_placed.field-0) [] (c.bytes_of_objects-bytes.ensures ∙ ap (λ (m : Objects). bytes_of_objects m % 2 ^ 64) c.as_slice.ensures) c.in_ok-objects_placed.ensures.objects refl
