use Rattle.std.proofs.Common.{◌≡◌, ◌<◌, length, arith, sym, ap, ◌∙◌}
use Rattle.craq_chain.specs.Chained.{opened_chain}
use Rattle.craq_world.proofs.Chains.{opened_more}
use Rattle.craq_world.proofs.world.opened_chains.Goals as goal

pub loop-id-preserved : goal.loop-id-preserved
loop-id-preserved g c =
    let xs = c.args.lists.now in
    let within : c.loop-id.id < length xs = omega arith in
    let chain : c.in_ok-chain.chain ≡ opened_chain c.new.result c.index-lists-id.result = c.in_ok-chain.ensures.ok ∙ ap (opened_chain c.new.result) c.as_slice.ensures in
    let more = opened_more xs c.loop-id.id c.new.result c.index-lists-id.result within c.index-lists-id.is c.new.ensures in
    rw (c.in_ok-push.ensures.items, c.loop-id.invariant, chain) (sym more)
