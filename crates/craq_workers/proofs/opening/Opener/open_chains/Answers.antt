use Rattle.std.proofs.Common.{◌++◌, arith, map, string_bytes}
use Rattle.craq_epochs.specs.Mastered.{opened_master}
use Rattle.craq_workers.specs.Posts.{chain_posts, post_of}
use Rattle.craq_workers.proofs.Names.{all_mastered, all_named, membership_at, next_mastered, next_named, none_left}
use Rattle.craq_workers.proofs.Posts.{all_posted, next_chain}
use Rattle.craq_workers.proofs.opening.Opener.open_chains.Goals as goal
use Rattle.craq_workers.proofs.opening.Opener.open_chains.Goals.{else-loop-id-test, then-loop-id-test+in-Err}

pub open_chain-requires : goal.open_chain-requires
open_chain-requires g c = membership_at c.args.plan.now c.loop-id.id (c.in-Ok.name.now, c.in-Ok.members.now) c.requires (rw c.new-id.ensures at c.in-Ok.ensures)

pub loop-id-preserved : goal.loop-id-preserved
loop-id-preserved g c =
    let at = rw c.new-id.ensures at c.in-Ok.ensures in (
      next_named c.loop-id.chains.items c.push.new.self.items c.in_ok-chain-in-Ok.chain (λ chain. string_bytes chain.name) c.args.plan.now c.loop-id.id (c.in-Ok.name.now, c.in-Ok.members.now)
          c.loop-id.invariant.0 at c.in_ok-chain-in-Ok.ensures.name c.in_ok-push-in-Ok.ensures.items,
      next_mastered c.loop-id.chains.items c.push.new.self.items c.in_ok-chain-in-Ok.chain (λ chain. opened_master chain.id chain.first.members) c.args.plan.now c.loop-id.id (c.in-Ok.name.now, c.in-Ok.members.now)
          c.loop-id.invariant.1 at (rw c.new-id.ensures at c.in_ok-chain-in-Ok.ensures.master) c.in_ok-push-in-Ok.ensures.items,
      next_chain c.args.self.now.form.chain_threads (map post_of c.loop-id.workers.items) (map post_of c.open_chain.new.workers.items) (map post_of c.args.workers.now.items ++ chain_posts c.args.self.now.form.chain_threads 0 c.args.plan.now) c.args.plan.now c.loop-id.id (c.in-Ok.name.now, c.in-Ok.members.now)
          c.loop-id.invariant.2 at (rw c.new-id.ensures at c.in_ok-chain-in-Ok.ensures.workers),
    )

pub returns-clause-names : goal.returns-clause-names
returns-clause-names g c = elim c.loop-id-test.branch [
  | else-loop-id-test w ↦ all_named c.loop-id.chains.items (λ chain. string_bytes chain.name) c.args.plan.now c.loop-id.id c.loop-id.invariant.0 (omega (arith, c.requires.few, w.loop-id-test.false))
  | then-loop-id-test+in-Err w ↦ all_named c.loop-id.chains.items (λ chain. string_bytes chain.name) c.args.plan.now c.loop-id.id c.loop-id.invariant.0 (none_left c.args.plan.now c.loop-id.id w.in-Err.field-0 (rw w.new-id.ensures at w.in-Err.ensures))
]

pub returns-clause-workers : goal.returns-clause-workers
returns-clause-workers g c = elim c.loop-id-test.branch [
  | else-loop-id-test w ↦ all_posted c.args.self.now.form.chain_threads (map post_of c.loop-id.workers.items) (map post_of c.args.workers.now.items ++ chain_posts c.args.self.now.form.chain_threads 0 c.args.plan.now) c.args.plan.now c.loop-id.id c.loop-id.invariant.2 (omega (arith, c.requires.few, w.loop-id-test.false))
  | then-loop-id-test+in-Err w ↦ all_posted c.args.self.now.form.chain_threads (map post_of c.loop-id.workers.items) (map post_of c.args.workers.now.items ++ chain_posts c.args.self.now.form.chain_threads 0 c.args.plan.now) c.args.plan.now c.loop-id.id c.loop-id.invariant.2 (none_left c.args.plan.now c.loop-id.id w.in-Err.field-0 (rw w.new-id.ensures at w.in-Err.ensures))
]

pub returns-clause-masters : goal.returns-clause-masters
returns-clause-masters g c = elim c.loop-id-test.branch [
  | else-loop-id-test w ↦ all_mastered c.loop-id.chains.items (λ chain. opened_master chain.id chain.first.members) c.args.plan.now c.loop-id.id c.loop-id.invariant.1 (omega (arith, c.requires.few, w.loop-id-test.false))
  | then-loop-id-test+in-Err w ↦ all_mastered c.loop-id.chains.items (λ chain. opened_master chain.id chain.first.members) c.args.plan.now c.loop-id.id c.loop-id.invariant.1 (none_left c.args.plan.now c.loop-id.id w.in-Err.field-0 (rw w.new-id.ensures at w.in-Err.ensures))
]
