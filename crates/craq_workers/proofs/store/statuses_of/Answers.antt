use Rattle.std.proofs.Common.{◌<◌, length, arith, string_bytes}
use Rattle.craq_epochs.specs.Mastered.{opened_master}
use Rattle.craq_workers.proofs.Memberships.{next_same, next_reported}
use Rattle.craq_workers.proofs.store.statuses_of.Goals as goal

pub loop-chain-preserved : goal.loop-chain-preserved
loop-chain-preserved g c =
    let within : c.loop-chain.chain-index < length c.args.chains.now = omega (arith, c.loop-chain-test.true) in (
      next_same (λ status. string_bytes status.name) (λ chain. string_bytes chain.name) c.args.chains.now c.loop-chain.chain-index c.chain-item.result c.loop-chain.statuses.items c.push.new.self.items c.in_ok-status_of.field-0
          within c.chain-item.is c.in_ok-push.ensures.items c.in_ok-status_of.ensures.name c.loop-chain.invariant.0,
      next_reported (λ chain. opened_master chain.id chain.first.members) (λ status. status.config) c.args.chains.now c.loop-chain.chain-index c.chain-item.result c.loop-chain.statuses.items c.push.new.self.items c.in_ok-status_of.field-0
          within c.chain-item.is c.in_ok-push.ensures.items c.in_ok-status_of.ensures.config c.loop-chain.invariant.1,
    )
