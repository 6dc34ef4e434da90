use Rattle.std.proofs.Common.{◌≤◌, arith}
use Rattle.craq_commands.specs.declared.entry.Write.{Write}
use Rattle.craq_compact_state.proofs.Lists.{all_to_next, take_none}
use Rattle.craq_compact_state.proofs.applying.are_rewrites.Goals as goal

pub loop-write-init : goal.loop-write-init
loop-write-init c = take_none (λ (w : Write). 2 ≤ w.version) c.args.writes.now

pub loop-write-preserved : goal.loop-write-preserved
loop-write-preserved c =
    let w = c.write-item.result in
    let high : 2 ≤ w.version = omega arith in
    all_to_next (λ (w : Write). 2 ≤ w.version) (λ (w : Write). 2 ≤ w.version) c.args.writes.now c.loop-write.write-index w c.write-item.is (λ v h. h) high c.loop-write.invariant
