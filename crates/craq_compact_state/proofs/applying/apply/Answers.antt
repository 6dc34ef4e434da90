use Rattle.std.proofs.Common.{◌≡◌, ◌≤◌, ℕ, suc, ◌+◌, ◌-◌, ◌<◌, ◌∙◌, length, drop, ap, arith, length-drop, rules}
use Rattle.craq_compact_state.proofs.Applied.{more_applied, when_ok}
use Rattle.craq_compact_state.proofs.Results.{not_ok}
use Rattle.craq_compact_state.proofs.Rooms.{first_some, appliable_first, appliable_rest, reply_first, reply_rest}
use Rattle.craq_compact_state.proofs.applying.apply.Goals as goal

pub loop-alloc-init : goal.loop-alloc-init
loop-alloc-init c = record {
  from = omega arith;
  to = c.requires.from;
  applied = search rules;
  indexed = c.requires.indexed;
  next = c.requires.next;
  placed = c.requires.placed;
  counted = c.requires.counted;
  room = λ has all. (has, all);
}

pub loop-alloc-preserved : goal.loop-alloc-preserved
loop-alloc-preserved c =
    let next : c.apply_first.new.entries.base ≡ c.loop-alloc.entries.base + 1 = when_ok c.apply_first.result (search rules) c.apply_first.ensures.ok in
    let low = c.loop-alloc.invariant.from in
    let below = c.loop-alloc-test.true in
    let base = c.get.ensures ∙ c.base.ensures in
    let end = c.get-in-loop-alloc.ensures in
    let high : c.loop-alloc.entries.base ≤ c.apply_first.new.entries.base = omega (arith, next) in
    let n : ℕ = c.args.position - c.loop-alloc.entries.base in
    let m : ℕ = c.args.position - c.apply_first.new.entries.base in
    let fewer : n ≡ suc m = omega (arith, next, below, base, end) in
    let one : c.apply_first.new.entries.base - c.loop-alloc.entries.base ≡ 1 = omega (arith, next) in
    record {
      from = omega (arith, next, low);
      to = omega (arith, next, below, base, end);
      applied = more_applied _ _ _ _ _ _ low high c.loop-alloc.invariant.applied c.apply_first.ensures.applied;
      indexed = c.apply_first.ensures.indexed;
      next = c.apply_first.ensures.next;
      placed = c.apply_first.ensures.placed;
      counted = c.apply_first.ensures.counted;
      room = λ has all.
          let before = c.loop-alloc.invariant.room has all in
          let rest : c.apply_first.new.entries.entries ≡ drop 1 c.loop-alloc.entries.entries = c.apply_first.ensures.applied.entries ∙ ap (λ (k : ℕ). drop k c.loop-alloc.entries.entries) one in
          (reply_rest c.loop-alloc.replies c.apply_first.new.replies n m c.loop-alloc.entries.entries c.apply_first.new.entries.entries fewer rest c.in_ok-apply_first.ensures.rooms before.0, appliable_rest c.loop-alloc.entries.base c.apply_first.new.entries.base c.loop-alloc.indexed c.apply_first.new.indexed n m c.loop-alloc.entries.entries c.apply_first.new.entries.entries next c.apply_first.ensures.more fewer rest before.1);
    }

pub returns-in_err-apply_first-clause-succeeds : goal.returns-in_err-apply_first-clause-succeeds
returns-in_err-apply_first-clause-succeeds c = λ has all.
    let now = c.loop-alloc.invariant.room has all in
    let es = c.loop-alloc.entries.entries in
    let n : ℕ = c.args.position - c.loop-alloc.entries.base in
    let below = c.loop-alloc-test.true in
    let base = c.get.ensures ∙ c.base.ensures in
    let end = c.get-in-loop-alloc.ensures in
    let some : 0 < n = omega (arith, below, base, end) in
    let left : length es ≡ length c.args.entries.now.entries - (c.loop-alloc.entries.base - c.args.entries.now.base) = ap length c.loop-alloc.invariant.applied.entries ∙ length-drop (c.loop-alloc.entries.base - c.args.entries.now.base) c.args.entries.now.entries in
    let first = first_some es (omega (arith, left, some, c.requires.to, c.loop-alloc.invariant.from)) in
    absurd (not_ok (c.in_err-apply_first.ensures.succeeds first.0 first.1 (reply_first c.loop-alloc.replies n es first.0 some first.1 now.0) (appliable_first c.loop-alloc.entries.base c.loop-alloc.indexed n es first.0 some first.1 now.1)))
