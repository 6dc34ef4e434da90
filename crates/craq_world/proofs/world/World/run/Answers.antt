use Rattle.std.proofs.Common.{◌≡◌, ◌<◌, length, take, arith, subst}
use Rattle.std.proofs.lemmas.List.{take_all, take_more}
use Rattle.craq_world.specs.Worlds.{RunsTo}
use Rattle.craq_world.proofs.Apart.{runs_apart}
use Rattle.craq_world.proofs.Chains.{nothing_yet, runs_push}
use Rattle.craq_world.proofs.world.World.run.Goals as goal

pub loop-chain-preserved : goal.loop-chain-preserved
loop-chain-preserved g c =
    let within : c.loop-chain.chain-index < length c.args.moves.now = omega arith in
    let taken = c.take_copy-result in
    let ran = runs_push c.args.self.now c.loop-chain.self taken.new.self (take c.loop-chain.chain-index c.args.moves.now) c.loop-chain.results.items c.loop-chain-item.result taken.result c.loop-chain.invariant.ran taken.ensures.gives in
    record {
      ran = rw (c.push_reserved.ensures.items, take_more c.args.moves.now c.loop-chain.chain-index c.loop-chain-item.result within, ← c.loop-chain-item.is) ran;
      room = omega (arith, c.loop-chain.invariant.room, c.push_reserved.ensures.len, c.push_reserved.ensures.capacity);
      explained = taken.ensures.explained;
      grows = nothing_yet c.args.self.now c.loop-chain.self taken.new.self c.loop-chain.invariant.grows taken.ensures.grows;
    }

pub returns-clause-each : goal.returns-clause-each
returns-clause-each g c = λ id w e.
    let moves = c.args.moves.now in
    let all : take c.loop-chain.chain-index moves ≡ moves = take_all c.loop-chain.chain-index moves (omega arith) in
    let ran = subst (λ ms. RunsTo c.args.self.now ms c.loop-chain.results.items c.loop-chain.self) all c.loop-chain.invariant.ran in
    rw c.of.ensures (runs_apart c.args.self.now moves c.loop-chain.results.items c.loop-chain.self id w ran e)
