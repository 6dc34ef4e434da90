use Rattle.std.proofs.Common.{◌≡◌, rules}
use Rattle.std.specs.Cmp.Lexicographic.{nat_list_cmp_total}
use Rattle.craq_names.specs.Maps.{key_cmp}
use Rattle.craq_compact_state.specs.Placed.{objects_of}
use Rattle.craq_compact_state.proofs.Lists.{put_one}
use Rattle.craq_compact_state.proofs.Placing.{new_is_empty}
use Rattle.craq_compact_state.proofs.objects.objects_placed.Goals as goal

pub loop-key-init : goal.loop-key-init
loop-key-init c =
    let empty = new_is_empty c.new-table.result c.new-table.ensures in
    let same : c.into_iter-key-iterator.result.rest.items ≡ c.args.objects = search rules in
    record {
      moved = rw empty.0 same;
      later = empty.1;
      written = rw same c.requires.written;
      placed = empty.2;
    }

pub put_object-requires-clause-written : goal.put_object-requires-clause-written
put_object-requires-clause-written c = (rw c.in-Some.ensures.steps.0 at c.loop-key.invariant.written).0

pub loop-key-preserved : goal.loop-key-preserved
loop-key-preserved c = record {
  moved = put_one key_cmp nat_list_cmp_total (objects_of c.loop-key.table) c.loop-key.key-iterator.rest.items c.next.new.self.rest.items (objects_of c.put_object.new.table) c.args.objects c.in-Some.key (c.in-Some.version, c.in-Some.value)
      c.loop-key.invariant.moved c.in-Some.ensures.steps.0 c.requires.rising c.in_ok-put_object.ensures.objects;
  later = λ q. c.in_ok-put_object.ensures.later q (c.loop-key.invariant.later q);
  written = (rw c.in-Some.ensures.steps.0 at c.loop-key.invariant.written).1;
  placed = c.in_ok-put_object.ensures.placed;
}
