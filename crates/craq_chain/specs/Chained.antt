-- A running chain, and the result of a move of it.
use Rattle.std.specs.Prelude.{◌≡◌, ◌⊎◌, ⊤, ℕ, List, [], ◌∷◌, ◌++◌, map, length, Option, Some, None, IsSome, Result, Ok, Err}
use Rattle.craq_names.specs.Order.{RefusesWhere}
use Rattle.craq_names.specs.declared.refusal.Refusal.{Refusal}
use Rattle.craq_model.specs.declared.message.LinkMessage.{LinkMessage}
use Rattle.craq_model.specs.Plain.{Plain, opening_member}
use Rattle.craq_runs.specs.declared.run.Move.{Move}
use Rattle.craq_runs.specs.declared.run.Move.TheVariants.{Ask, Deliver, Tick, Stop, Remove, Join}
use Rattle.craq_runs.specs.declared.run.Taken.{Taken}
use Rattle.craq_runs.specs.declared.run.Run.{Run}
use Rattle.craq_runs.specs.Chain.{Chain, Progress, opening_chain, chain_step, message_at, move_progress, node_at}
use Rattle.craq_runs.specs.Runs.{after_moves}
use Rattle.craq_runs.specs.Seen.{node_of}

-- a running chain: its id and its run
pub record Chained : Type 0 where
  pub chain : ℕ
  pub run : Run  -- the moves so far

-- a chain of these members before any move
abbrev pub opened_chain : ℕ → List ℕ → Chained
opened_chain chain members = record { chain = chain; run = record { members = members; moves = [] } }

-- the chain to which its run leads
abbrev pub chain_of_run : Chained → Chain
chain_of_run w = after_moves (opening_chain w.chain w.run.members) w.run.moves

-- the node at which a move happens
abbrev pub mover : Chain → Move → ℕ
mover c m = node_of (map (λ (message : LinkMessage). message.receiver) c.messages) m

-- one more move was taken
abbrev pub with_move : Chained → Taken → Chained
with_move w t = record w { run = record w.run { moves = w.run.moves ++ t ∷ [] } }

-- the chain with the move and its step, or the refusal of the move
abbrev pub moved : Chained → Move → Result Progress Refusal → Result Chained Refusal
moved w m (Ok x) = Ok (with_move w (record { chosen = m; step = x.1 }))
moved w m (Err e) = Err e

-- the chain with the move and its step, or the move's refusal
abbrev pub after_taking : Chained → Move → Result Chained Refusal
after_taking w m = moved w m (chain_step (chain_of_run w) m)

-- the receiver of a message that was sent is a node of the chain
abbrev pub FindsReceiver : Chain → Option LinkMessage → Type 0
FindsReceiver c None = ⊥
FindsReceiver c (Some message) = IsSome (node_at c.nodes message.receiver)

-- the chain has the node of a move, and its message was sent; the master, which is node 0, always
-- exists
abbrev pub Finds : Chain → Move → Type 0
Finds c (Ask node ask) = IsSome (node_at c.nodes node)
Finds c (Deliver number) = FindsReceiver c (message_at c.messages number)
Finds c (Tick node) = (node ≡ 0) ⊎ IsSome (node_at c.nodes node)
Finds c (Stop node) = IsSome (node_at c.nodes node)
Finds c (Remove node) = ⊤
Finds c (Join node) = ⊤

-- the search found the node and the message, or refuses the move as the chain does
abbrev pub HasFound : Chain → Move → Result Unit Refusal → Type 0
HasFound c m (Ok done) = Finds c m
HasFound c m (Err e) = move_progress c m ≡ Err e

-- the move was taken and has this number; or nothing changed, and it was refused as wanted, or out
-- of memory. That comes after the search for the node and the message, and before the refusals of
-- the node or the master
abbrev pub GivesMove : Chained → Chained → Move → Result ℕ Refusal → Type 0
GivesMove old new m (Ok number) = (after_taking old m ≡ Ok new) × (number ≡ length new.run.moves)
GivesMove old new m (Err e) = RefusesWhere (Finds (chain_of_run old) m) e (after_taking old m) × (new ≡ old)

-- the members of a chain before any move; `all` are all of its members
abbrev pub openings : ℕ → List ℕ → List ℕ → List Plain
openings chain all ids = map (λ id. opening_member (record { chain = chain; node = id }) all) ids
