use Rattle.std.proofs.Common.{◌≡◌, ℕ, ◌+◌, ◌-◌, ◌*◌, ◌≤◌, length, map, take, drop, sym, ap, ◌∙◌, arith}
use Rattle.std.specs.List.{range_with_len}
use Rattle.craq_model.specs.Parts.{part_of}
use Rattle.craq_write.proofs.Ends.{take_fewer}
use Rattle.craq_write.proofs.Cuts.{all_objects, all_kept, part_is, one_more}
use Rattle.craq_write.proofs.sending_states.cut_into_parts.Goals as goal

pub loop-place-init : goal.loop-place-init
loop-place-init c =
    let none : 0 ≡ c.args.count - c.args.count = omega arith in
    record {
      objects = c.into_vec-objects.ensures ∙ sym (all_objects c.args.state c.args.count c.requires);
      kept = c.into_vec-kept.ensures ∙ sym (all_kept c.args.state c.args.count c.requires);
      parts = c.new-parts.ensures.items ∙ ap (λ n. map (part_of c.args.position c.args.state) (range_with_len (c.args.count + 1) n)) none;
    }

pub loop-place-preserved : goal.loop-place-preserved
loop-place-preserved c =
    let s = c.args.state in
    let k : ℕ = c.loop-place.place in
    let i : ℕ = k - 1 in
    let next : i + 1 ≡ k = omega arith in
    let few : k ≤ c.args.count = omega arith in
    let from : i * 64 ≡ 64 * i = omega arith in
    let lower : 64 * i ≤ 64 * k = omega arith in
    let later : c.saturating_sub.result ≡ 64 * i - length s.objects = omega (arith, c.saturating_sub.ensures, c.len-objects_in_all.ensures, ap length c.into_vec-objects.ensures) in
    let lower_later : 64 * i - length s.objects ≤ 64 * k - length s.objects = omega (arith, lower) in
    let objects : c.in_ok-last_objects.last_objects.items ≡ drop (64 * i) (take (64 * k) s.objects) =
    c.in_ok-last_objects.ensures.taken ∙ ap (λ n. drop n c.loop-place.objects.items) from ∙ ap (drop (64 * i)) c.loop-place.invariant.objects
    in
    let kept : c.in_ok-last_kept.last_kept.items ≡ drop (64 * i - length s.objects) (take (64 * k - length s.objects) s.kept) =
    c.in_ok-last_kept.ensures.taken ∙ ap (λ n. drop n c.loop-place.kept.items) later ∙ ap (drop (64 * i - length s.objects)) c.loop-place.invariant.kept
    in
    record {
      objects = c.in_ok-last_objects.ensures.left ∙ ap (λ n. take n c.loop-place.objects.items) from ∙ ap (take (64 * i)) c.loop-place.invariant.objects ∙ take_fewer (64 * i) (64 * k) s.objects lower;
      kept = c.in_ok-last_kept.ensures.left ∙ ap (λ n. take n c.loop-place.kept.items) later ∙ ap (take (64 * i - length s.objects)) c.loop-place.invariant.kept ∙ take_fewer (64 * i - length s.objects) (64 * k - length s.objects) s.kept lower_later;
      parts = c.in_ok-push_front.ensures.items ∙ one_more c.args.position s c.args.count k i _ c.loop-place.parts.items next few
          (part_is c.args.position s c.args.count k i c.of.result c.of-in-loop-place.result next c.requires (c.of.ensures ∙ objects) (c.of-in-loop-place.ensures ∙ kept))
          c.loop-place.invariant.parts;
    }
