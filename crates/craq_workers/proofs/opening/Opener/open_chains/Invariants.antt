use Rattle.std.proofs.Common.{◌≡◌, ◌++◌, map, drop, string_bytes}
use Rattle.craq_epochs.specs.Mastered.{opened_master}
use Rattle.craq_place.specs.Plan.{Chain}
use Rattle.craq_workers.specs.Posts.{chain_posts, post_of}
use Rattle.craq_workers.specs.Stores.{masters_of}
use Rattle.craq_workers.proofs.opening.Opener.open_chains.Given as goal

-- the chains are those of the plan so far, and their workers are there
abbrev pub invariant-loop-id : goal.invariant-loop-id
invariant-loop-id g l =
    (map (λ c. string_bytes c.name) l.chains.items ++ map (λ (c : Chain). c.0) (drop l.id l.plan) ≡ map (λ (c : Chain). c.0) l.plan)
    × (map (λ c. opened_master c.id c.first.members) l.chains.items ++ masters_of l.id (drop l.id l.plan) ≡ masters_of 0 l.plan)
    × (map post_of l.workers.items ++ chain_posts l.self.form.chain_threads l.id (drop l.id l.plan) ≡ map post_of l.fn.workers.items ++ chain_posts l.self.form.chain_threads 0 l.plan)
