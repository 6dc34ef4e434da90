use Rattle.std.proofs.Common.{◌≤◌, ◌+◌, ◌-◌, length, take, vec_len, vec_capacity}
use Rattle.craq_world.specs.Promise.{AreExplained, NothingIsTakenBack}
use Rattle.craq_world.specs.Worlds.{RunsTo}
use Rattle.craq_world.proofs.world.World.run.Given as goal

abbrev pub invariant-loop-chain : goal.invariant-loop-chain
invariant-loop-chain g l = record {
  ran : RunsTo l.fn.self (take l.chain-index l.moves) l.results.items l.self;
  room : vec_len l.results + (length l.moves - l.chain-index) ≤ vec_capacity l.results;
  explained : AreExplained 0 l.self;
  grows : NothingIsTakenBack l.fn.self l.self;
}
