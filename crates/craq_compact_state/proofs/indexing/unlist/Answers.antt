use Rattle.std.proofs.Common.{take, refl, sym, ◌∙◌, ap, ◌-◌, ℕ, length}
use Rattle.std.specs.Prelude.{if◌then◌else◌}
use Rattle.craq_names.specs.Maps.{same_bytes}
use Rattle.craq_model.specs.Past.{values_in}
use Rattle.craq_compact_state.specs.Placed.{count_of, later_of}
use Rattle.craq_compact_state.proofs.Counts.{count_next, gone_twice}
use Rattle.craq_compact_state.proofs.Placing.{none_gone}
use Rattle.craq_compact_state.proofs.indexing.unlist.Goals as goal

pub loop-write-init : goal.loop-write-init
unfolding values_in
loop-write-init c = record {
  objects = refl;
  later = λ q. none_gone (later_of c.args.table.now q);
  placed = c.requires;
}

pub loop-write-preserved : goal.loop-write-preserved
loop-write-preserved c = record {
  objects = c.pop_version.ensures.objects ∙ c.loop-write.invariant.objects;
  later = λ q.
      let ws = c.args.writes.now in
      let i = c.loop-write.write-index in
      let w = c.write-item.result in
      let l = later_of c.args.table.now q in
      let one : ℕ = (if same_bytes w.key q then 1 else 0) in
      c.pop_version.ensures.later q
      ∙ gone_twice l (later_of c.loop-write.table q) (count_of (take i ws) q) one (c.loop-write.invariant.later q)
      ∙ ap (λ (n : ℕ). take (length l - n) l) (sym (count_next ws i w q c.loop-write-test.true c.write-item.is));
  placed = c.pop_version.ensures.placed;
}
