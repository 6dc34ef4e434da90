-- The protocol moves of each line of a node's step.
use Rattle.std.specs.Prelude.{◌≡◌, ◌⊎◌, ℕ, List, [], ◌∷◌, ◌++◌, map}
use Rattle.craq_commands.specs.declared.entry.Entry.{Entry}
use Rattle.craq_model.specs.declared.message.Body.{Body}
use Rattle.craq_model.specs.declared.message.Body.TheVariants as bodies
use Rattle.craq_model.specs.declared.message.LinkMessage.{LinkMessage}
use Rattle.craq_protocol.specs.Machine.{MachineState, MachineMove, after_moves, Append, Take, Become_ready, Adopt, Stop, Remove, Join, Send_entry, Send_ack, Send_copy, Send_floor}
use Rattle.craq_protocol.specs.Promises.{IsReached}
use Rattle.craq_runs.specs.Chain.{Chain, Progress, sent_in}
use Rattle.craq_refinement.specs.Follows.{Follows}

-- the moves that send a message's content; version queries and reports of unready nodes are no
-- moves of the protocol
abbrev pub moves_of_send : ℕ → ℕ → Body → List (MachineMove Entry)
moves_of_send from to (bodies.Entry e) = Send_entry from to e.position ∷ []
moves_of_send from to (bodies.Batch es) = map (λ (e : Entry). Send_entry from to e.position) es
moves_of_send from to (bodies.Ack position) = Send_ack from to ∷ []
moves_of_send from to (bodies.Copy position state) = Send_copy from to ∷ []
moves_of_send from to (bodies.Part part) = Send_copy from to ∷ []
moves_of_send from to (bodies.Floor count) = Send_floor from to ∷ []
moves_of_send from to body = []

-- the moves that send messages, in their order
abbrev pub moves_of_sends : List LinkMessage → List (MachineMove Entry)
moves_of_sends [] = []
moves_of_sends (m ∷ ms) = moves_of_send m.sender m.receiver m.body ++ moves_of_sends ms

-- after a step the world stands for the chain again, once it made the step's own moves and then
-- sent the step's messages
pub record StandsFor (Own : List (MachineMove Entry) → Type 0) (w : MachineState Entry) (x : Progress) : Type 0 where
  pub own : List (MachineMove Entry)
  pub line : Own own
  pub follows : Follows x.0 (after_moves w (own ++ moves_of_sends (sent_in x.1.outs)))

-- some moves lead from the world to one that stands for the chain
abbrev pub CanFollow : MachineState Entry → Chain → Type 0
CanFollow w c = (moves : List (MachineMove Entry)) × Follows c (after_moves w moves)

-- some world that the protocol reaches stands for the chain
abbrev pub IsFollowed : Chain → Type 0
IsFollowed c = (w : MachineState Entry) × IsReached w × Follows c w

-- a node takes an entry, a state or a floor, and may become ready by it; or it ignores it, or keeps
-- it as a part of a state
abbrev pub IsTaking : ℕ → List (MachineMove Entry) → Type 0
IsTaking id own = (own ≡ []) ⊎ ((which : ℕ) × ((own ≡ Take id which ∷ []) ⊎ (own ≡ Take id which ∷ Become_ready id ∷ [])))

-- a node takes entries one after the other, and may become ready by them; or it ignores them
abbrev pub IsTakingAll : ℕ → List (MachineMove Entry) → Type 0
IsTakingAll id own =
    (own ≡ []) ⊎ ((first : ℕ) × (later : List ℕ) × ((own ≡ map (Take id) (first ∷ later)) ⊎ (own ≡ map (Take id) (first ∷ later) ++ Become_ready id ∷ [])))

-- a node takes an acknowledgement, or ignores it
abbrev pub IsHearing : ℕ → List (MachineMove Entry) → Type 0
IsHearing id own = (own ≡ []) ⊎ ((which : ℕ) × (own ≡ Take id which ∷ []))

-- a node adopts a later membership, or ignores it
abbrev pub IsAdopting : ℕ → ℕ → List (MachineMove Entry) → Type 0
IsAdopting id epoch own = (own ≡ []) ⊎ (own ≡ Adopt id epoch ∷ [])

-- the head appends the entry of a new update; an update requested before already has its reply
abbrev pub IsUpdating : ℕ → List (MachineMove Entry) → Type 0
IsUpdating id own = (own ≡ []) ⊎ ((e : Entry) × (own ≡ Append id e ∷ []))

-- a node stops
abbrev pub IsStopping : ℕ → List (MachineMove Entry) → Type 0
IsStopping id own = own ≡ Stop id ∷ []

-- the master removes a member
abbrev pub IsRemoving : ℕ → List (MachineMove Entry) → Type 0
IsRemoving id own = own ≡ Remove id ∷ []

-- the master adds a member
abbrev pub IsJoining : ℕ → List (MachineMove Entry) → Type 0
IsJoining id own = own ≡ Join id ∷ []

-- a line that makes no move of its own
abbrev pub IsNothing : List (MachineMove Entry) → Type 0
IsNothing own = own ≡ []
