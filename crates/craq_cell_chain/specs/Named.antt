-- A chain of locked cells by the ids of its nodes, and the cell of a move.
use Rattle.std.specs.Prelude.{◌≡◌, ◌≤◌, ⊤, ℕ, ◌==◌, List, [], ◌∷◌, ◌++◌, find, map, Option, Some, None, MatchOption}
use Rattle.std.specs.Option.{option_map}
use Rattle.craq_model.specs.declared.message.LinkMessage.{LinkMessage}
use Rattle.craq_runs.specs.declared.run.Move.{Move}
use Rattle.craq_runs.specs.declared.run.Move.TheVariants as moves
use Rattle.craq_runs.specs.Chain.{message_at}

-- a chain of locked cells: each node's id with its seat, in the order of joining, and the messages
-- that cells sent
pub record Locked (S : Type 0) : Type 0 where
  pub chain : ℕ
  pub seats : List (ℕ × S)
  pub sent : List LinkMessage

-- the ids of nodes
abbrev pub ids_in : {S : Type 0} → List (ℕ × S) → List ℕ
ids_in {S} seats = map (λ (p : ℕ × S). p.0) seats

-- the ids of all nodes that the chain ever had, in the order of joining
abbrev pub ids_of : {S : Type 0} → Locked S → List ℕ
ids_of c = ids_in c.seats

-- the first node of this id, with its seat
abbrev pub seated_at : {S : Type 0} → List (ℕ × S) → ℕ → Option (ℕ × S)
seated_at {S} seats id = find (λ (p : ℕ × S). p.0 == id) seats

-- the chain never had a node of this id
abbrev pub HasNoNode : {S : Type 0} → List (ℕ × S) → ℕ → Type 0
HasNoNode seats id = seated_at seats id ≡ None

-- the id of a move's cell, 0 for the master's; none if no message has the number
abbrev pub cell_of : List LinkMessage → Move → Option ℕ
cell_of sent (moves.Ask node ask) = Some node
cell_of sent (moves.Deliver number) = option_map (λ m. m.receiver) (message_at sent number)
cell_of sent (moves.Tick node) = Some node
cell_of sent (moves.Stop node) = Some node
cell_of sent (moves.Remove node) = Some 0
cell_of sent (moves.Join node) = Some 0

-- the ids after a move: a node that joins comes last
abbrev pub ids_after : List ℕ → Move → List ℕ
ids_after ids (moves.Join node) = ids ++ node ∷ []
ids_after ids chosen = ids

-- no cell can take the move: its message was not sent, or the chain never had its node; for the
-- removal of a node a proof does not see whether the node has stopped
abbrev pub HasNoCell : {S : Type 0} → Locked S → Move → Type 0
HasNoCell c (moves.Ask node ask) = HasNoNode c.seats node
HasNoCell c (moves.Deliver number) = MatchOption (message_at c.sent number) ⊤ (λ m. HasNoNode c.seats m.receiver)
HasNoCell c (moves.Tick node) = (1 ≤ node) × HasNoNode c.seats node
HasNoCell c (moves.Stop node) = HasNoNode c.seats node
HasNoCell c (moves.Remove node) = ⊤
HasNoCell c (moves.Join node) = ⊥
