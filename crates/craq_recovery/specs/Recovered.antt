-- A recovered chain.
use Rattle.std.specs.Prelude.{◌≡◌, ◌≤◌, ℕ, ◌+◌, ◌==◌, Bool, true, false, ◌&&◌, List, [], ◌∷◌, length, Option, Some, None}
use Rattle.std.specs.List.{AllByRecursion}
use Rattle.craq_model.specs.Members.{is_member, predecessor_in, successor_in}
use Rattle.craq_model.specs.Plain.{Plain, id_of, length_of}
use Rattle.craq_runs.specs.Chain.{Chain, is_running, node_at, opening_chain}
use Rattle.craq_runs.specs.Runs.{after_move, after_moves}
use Rattle.craq_runs.specs.declared.run.Run.{Run}
use Rattle.craq_recovery.specs.Rounds.{after_moves_by, after_rounds, round}
use Rattle.craq_recovery.specs.Taken.{HaveNumbers, HaveNumbersFor}

-- the node runs, knows the master's membership and is ready, and no request waits at it
pub record IsServing (c : Chain) (p : Plain) : Type 0 where
  pub running : p.running ≡ true
  pub epoch : p.epoch ≡ c.epoch
  pub members : p.members ≡ c.members
  pub ready : p.ready ≡ true
  pub updates : p.waiting_updates ≡ []
  pub reads : p.waiting_reads ≡ []

-- the node of an id serves
abbrev pub ServesAt : Chain → ℕ → Type 0
ServesAt c id = (p : Plain) × (node_at c.nodes id ≡ Some p) × IsServing c p

-- each member serves
abbrev pub HasRecovered : Chain → Type 0
HasRecovered c = AllByRecursion (ServesAt c) c.members

-- ---- the test of recovery

-- the lists of ids are equal
abbrev pub are_same : List ℕ → List ℕ → Bool
are_same [] [] = true
are_same [] (n ∷ ns) = false
are_same (m ∷ ms) [] = false
are_same (m ∷ ms) (n ∷ ns) = (m == n) && are_same ms ns

-- the list is empty
abbrev pub is_none : {A : Type 0} → List A → Bool
is_none [] = true
is_none (x ∷ xs) = false

-- the node exists, runs, knows the master's membership and is ready, and no request waits at it
abbrev pub is_serving : Chain → Option Plain → Bool
is_serving c None = false
is_serving c (Some p) =
    p.running && ((p.epoch == c.epoch) && (are_same p.members c.members && (p.ready && (is_none p.waiting_updates && is_none p.waiting_reads))))

-- each of these nodes serves
abbrev pub serve_all : Chain → List ℕ → Bool
serve_all c [] = true
serve_all c (id ∷ ids) = is_serving c (node_at c.nodes id) && serve_all c ids

-- each member serves
abbrev pub has_recovered : Chain → Bool
has_recovered c = serve_all c c.members

-- ---- after a run

-- the chain after a run
abbrev pub chain_after_moves : ℕ → Run → Chain
chain_after_moves chain run = after_moves (opening_chain chain run.members) run.moves

-- the chain after a round of count hops
abbrev pub after_round : ℕ → Chain → Chain
after_round count c = after_moves_by after_move c (round after_move count c)

-- the chain after as many rounds as it has members, each of count hops
abbrev pub after_as_many : ℕ → Chain → Chain
after_as_many count c = after_rounds after_move count (length c.members) c

-- none of their moves is refused because counters are exhausted
abbrev pub HaveNumbersForAsMany : ℕ → Chain → Type 0
HaveNumbersForAsMany count c = HaveNumbersFor count (length c.members) c

-- the chain after as many rounds as it has members, then as many again, and one more
abbrev pub after_all_rounds : ℕ → Chain → Chain
after_all_rounds count c = after_round count (after_as_many count (after_as_many count c))

-- none of their moves is refused because counters are exhausted
pub record HaveNumbersForAll (count : ℕ) (c : Chain) : Type 0 where
  pub first : HaveNumbersForAsMany count c
  pub second : HaveNumbersForAsMany count (after_as_many count c)
  pub last : HaveNumbers (after_as_many count (after_as_many count c)) (round after_move count (after_as_many count (after_as_many count c)))

-- twice as many rounds as the chain has members, plus two
abbrev pub rounds_to_recover : Chain → ℕ
rounds_to_recover c = length c.members + length c.members + 2

-- each member runs
abbrev pub AllRun : Chain → Type 0
AllRun c = AllByRecursion (λ id. is_running (node_at c.nodes id) ≡ true) c.members

-- the node runs, and knows the master's membership
pub record Knows (c : Chain) (p : Plain) : Type 0 where
  pub running : p.running ≡ true
  pub epoch : p.epoch ≡ c.epoch
  pub members : p.members ≡ c.members

-- the node of an id runs, and knows the master's membership
abbrev pub HearsAt : Chain → ℕ → Type 0
HearsAt c id = (p : Plain) × (node_at c.nodes id ≡ Some p) × Knows c p

-- each member runs, and knows the master's membership
abbrev pub HaveHeard : Chain → Type 0
HaveHeard c = AllByRecursion (HearsAt c) c.members

-- two adjacent nodes of the master's membership, which both know
pub record AreNeighbours (c : Chain) (p q : Plain) : Type 0 where
  pub earlier : node_at c.nodes (id_of p) ≡ Some p
  pub later : node_at c.nodes (id_of q) ≡ Some q
  pub earlier_knows : Knows c p
  pub later_knows : Knows c q
  pub after : successor_in c.members (id_of p) ≡ Some (id_of q)
  pub before : predecessor_in c.members (id_of q) ≡ Some (id_of p)

-- the node of an id knows that count entries are committed
pub record KnowsCommitted (c : Chain) (id count : ℕ) : Type 0 where
  pub node : Plain
  pub at : node_at c.nodes id ≡ Some node
  pub knows : count ≤ node.past.acknowledged

-- the node of an id runs and is ready, whatever membership it knows
pub record RunsReady (c : Chain) (id : ℕ) : Type 0 where
  pub node : Plain
  pub at : node_at c.nodes id ≡ Some node
  pub running : node.running ≡ true
  pub ready : node.ready ≡ true

-- some member runs and is ready, whatever membership it knows
pub record SomeReady (c : Chain) : Type 0 where
  pub member : ℕ
  pub among : is_member c.members member ≡ true
  pub runs_ready : RunsReady c member

-- each member runs and is ready, whatever membership it knows
abbrev pub AllRunReady : Chain → Type 0
AllRunReady c = AllByRecursion (RunsReady c) c.members

-- the node of an id holds at least count entries
pub record HoldsEntries (c : Chain) (id count : ℕ) : Type 0 where
  pub node : Plain
  pub at : node_at c.nodes id ≡ Some node
  pub holds : count ≤ length_of node

-- no update waits at the node of an id
pub record NoUpdateWaits (c : Chain) (id : ℕ) : Type 0 where
  pub node : Plain
  pub at : node_at c.nodes id ≡ Some node
  pub none : node.waiting_updates ≡ []

-- no read waits at the node of an id
pub record NoReadWaits (c : Chain) (id : ℕ) : Type 0 where
  pub node : Plain
  pub at : node_at c.nodes id ≡ Some node
  pub none : node.waiting_reads ≡ []

-- the node of an id is ready, runs, and knows the master's membership
pub record IsReadyAt (c : Chain) (id : ℕ) : Type 0 where
  pub node : Plain
  pub at : node_at c.nodes id ≡ Some node
  pub knows : Knows c node
  pub ready : node.ready ≡ true

-- each member is ready, runs, and knows the master's membership
abbrev pub AllReady : Chain → Type 0
AllReady c = AllByRecursion (IsReadyAt c) c.members
