-- The workers of a chain before any step.
use Rattle.std.specs.Prelude.{◌++◌, ◌+◌, ℕ, Bool, true, false, List, [], ◌∷◌, Option, None, Some}
use Rattle.std.specs.List.{flat_map}
use Rattle.craq_names.specs.declared.name.NodeName.{NodeName}
use Rattle.craq_place.specs.Plan.{Chain}
use Rattle.craq_running_chain.specs.declared.work.Worker.{Worker}
use Rattle.craq_running_chain.specs.declared.work.Worker.TheVariants as workers

-- the task of a worker: the requests of a node, the messages that arrive at it, all nodes of a chain, those behind its head, or its
-- master
pub data Post : Type 0 where
  Asks : (node : NodeName) → Post
  Links : (node : NodeName) → Post
  ChainThread : (chain : ℕ) → Post
  SecondThread : (chain : ℕ) → Post
  Master : (chain : ℕ) → Post

abbrev pub post_of : {C : Type 0} → Worker C → Post
post_of (workers.Asks node) = Asks node.value.name
post_of (workers.Links node) = Links node.value.name
post_of (workers.ChainThread chain) = ChainThread chain
post_of (workers.SecondThread chain) = SecondThread chain
post_of (workers.Master chain ticks) = Master chain

-- the workers of a node, if it is there: a node whose chain has a chain thread has none of its own
abbrev pub node_posts : Bool → Option NodeName → List Post
node_posts chain_threads None = []
node_posts false (Some name) = Asks name ∷ Links name ∷ []
node_posts true (Some name) = []

-- the workers of a chain's members, from the head on; or the chain thread and the second thread
abbrev pub member_posts : Bool → ℕ → List ℕ → List Post
member_posts false chain members = flat_map (λ (n : ℕ). node_posts false (Some (record { chain = chain; node = n }))) members
member_posts true chain members = ChainThread chain ∷ SecondThread chain ∷ []

-- the workers of a plan's chains, with ids from this one on: of each its members' and then its master's
abbrev pub chain_posts : Bool → ℕ → List Chain → List Post
chain_posts chain_threads id [] = []
chain_posts chain_threads id (chain ∷ chains) = (member_posts chain_threads id chain.1 ++ Master id ∷ []) ++ chain_posts chain_threads (id + 1) chains
