-- Chain replication with changing memberships, as a pure machine: the master, every node that ever
-- was, and every message that was ever sent.
use Rattle.std.specs.Prelude.{Option, Some, None, ℕ, zero, suc, ◌+◌, ◌==◌, nat_lt, nat_le, Bool, true, false, not, if◌then◌else◌, ◌&&◌, List, [], ◌∷◌, ◌++◌, length, take, slice_get}
use Rattle.craq_protocol.specs.Members.{is_member, is_first, is_last, is_next, without, membership_of, with_value}

-- the body of a message; A is the type of entries
pub data MachineBody (A : Type 0) : Type 0 where
  Entry : (place : ℕ) (entry : A) → MachineBody A  -- the entry at this place of the sender's history, counted from 1
  Ack : (count : ℕ) → MachineBody A  -- this number of entries is committed
  Copy : (entries : List A) → MachineBody A  -- these are the first entries, and they are committed
  Floor : (count : ℕ) → MachineBody A  -- a node that holds this number of entries may become ready

-- a message from one node to another
pub record Message (A : Type 0) : Type 0 where
  pub epoch : ℕ  -- of the membership that the sender knew
  pub from : ℕ
  pub to : ℕ
  pub body : MachineBody A

-- the state of the machine; nodes' fields are functions of their ids
pub record MachineState (A : Type 0) : Type 0 where
  pub memberships : List (List ℕ)  -- made by the master, that of epoch 1 first
  pub joined : List ℕ  -- each id that ever was a member, in the order of joining
  pub running : ℕ → Bool
  pub epoch : ℕ → ℕ  -- of the membership that the node knows; 0: none yet
  pub ready : ℕ → Bool  -- the node holds all that was committed before it joined
  pub history : ℕ → List A
  pub acknowledged : ℕ → ℕ  -- the number of entries that the node knows to be committed
  pub floor : ℕ → Option ℕ  -- the number of entries that the node must hold to become ready
  pub messages : List (Message A)  -- each that was ever sent, the newest first
  pub log : List A  -- the committed entries: the history of the last node that committed as a tail

-- the moves; a message arrives by Take: any number of times, in any order, or never
pub data MachineMove (A : Type 0) : Type 0 where
  Append : (node : ℕ) (entry : A) → MachineMove A  -- the head appends a new entry
  Take : (node : ℕ) (which : ℕ) → MachineMove A  -- the message at this index of all that were sent arrives
  Become_ready : (node : ℕ) → MachineMove A
  Adopt : (node : ℕ) (epoch : ℕ) → MachineMove A  -- the node adopts a later membership
  Stop : (node : ℕ) → MachineMove A  -- permanently
  Remove : (node : ℕ) → MachineMove A  -- the master removes a stopped member
  Join : (node : ℕ) → MachineMove A  -- the master adds a new member at the end
  Send_entry : (node : ℕ) (to : ℕ) (place : ℕ) → MachineMove A
  Send_ack : (node : ℕ) (to : ℕ) → MachineMove A
  Send_copy : (node : ℕ) (to : ℕ) → MachineMove A
  Send_floor : (node : ℕ) (to : ℕ) → MachineMove A

-- the membership that the node knows
abbrev pub known_membership : {A : Type 0} → MachineState A → ℕ → List ℕ
known_membership w node = membership_of w.memberships (w.epoch node)

-- the newest membership, which the master knows
abbrev pub current_membership : {A : Type 0} → MachineState A → List ℕ
current_membership w = membership_of w.memberships (length w.memberships)

-- the node runs, is ready, and is last in the membership that it knows: it commits by itself
abbrev pub is_tail : {A : Type 0} → MachineState A → ℕ → Bool
is_tail w node = (w.running node && w.ready node) && is_last (known_membership w node) node

-- a tail commits all that it holds
abbrev pub after_commit : {A : Type 0} → MachineState A → ℕ → MachineState A
after_commit w node =
    if is_tail w node
    then record w { acknowledged = with_value w.acknowledged node (length (w.history node)); log = w.history node }
    else w

-- a message is sent, in the sender's epoch
abbrev pub after_send : {A : Type 0} → MachineState A → ℕ → ℕ → MachineBody A → MachineState A
after_send w node to body = record w { messages = record { epoch = w.epoch node; from = node; to = to; body = body } ∷ w.messages }

-- the element at a place, counted from 1
unfoldable pub entry_at : {A : Type 0} → List A → ℕ → Option A
entry_at xs zero = None
entry_at xs (suc i) = slice_get xs i

-- The effect of a message of the node's own epoch. From the predecessor: the next entry; and while
-- the node is not ready, a copy of more than it holds, and a floor. From the successor, once it is
-- ready: the number of committed entries.
abbrev pub after_receipt : {A : Type 0} → MachineState A → ℕ → ℕ → MachineBody A → MachineState A
after_receipt w node from (Entry place entry) =
    if is_next (known_membership w node) from node && (place == length (w.history node) + 1)
    then after_commit (record w { history = with_value w.history node (w.history node ++ entry ∷ []) }) node
    else w
after_receipt w node from (Ack count) =
    if (is_next (known_membership w node) node from && w.ready node) && (nat_lt (w.acknowledged node) count && nat_le count (length (w.history node)))
    then record w { acknowledged = with_value w.acknowledged node count }
    else w
after_receipt w node from (Copy entries) =
    if is_next (known_membership w node) from node && (not (w.ready node) && nat_lt (length (w.history node)) (length entries))
    then record w { history = with_value w.history node entries; acknowledged = with_value w.acknowledged node (length entries) }
    else w
after_receipt w node from (Floor count) =
    if is_next (known_membership w node) from node && not (w.ready node)
    then record w { floor = with_value w.floor node (Some count) }
    else w

-- a message arrives: it must be for the node, in the node's epoch
abbrev pub after_take : {A : Type 0} → MachineState A → ℕ → Option (Message A) → MachineState A
after_take w node None = w
after_take w node (Some message) =
    if w.running node && ((message.to == node) && (message.epoch == w.epoch node)) then after_receipt w node message.from message.body else w

-- an unready node that holds as many entries as its floor says becomes ready; without a floor it
-- does not
abbrev pub after_floor : {A : Type 0} → MachineState A → ℕ → Option ℕ → MachineState A
after_floor w node None = w
after_floor w node (Some floor) =
    if w.running node && (not (w.ready node) && nat_le floor (length (w.history node)))
    then after_commit (record w { ready = with_value w.ready node true }) node
    else w

-- an entry that the node holds goes to its successor
abbrev pub after_send_entry : {A : Type 0} → MachineState A → ℕ → ℕ → ℕ → Option A → MachineState A
after_send_entry w node to place None = w
after_send_entry w node to place (Some entry) =
    if w.running node && is_next (known_membership w node) node to then after_send w node to (Entry place entry) else w

-- one move; if its condition fails, nothing happens
abbrev pub after_move : {A : Type 0} → MachineState A → MachineMove A → MachineState A
after_move w (Append node entry) =
    if (w.running node && w.ready node) && is_first (known_membership w node) node
    then after_commit (record w { history = with_value w.history node (w.history node ++ entry ∷ []) }) node
    else w
after_move w (Take node which) = after_take w node (slice_get w.messages which)
after_move w (Become_ready node) = after_floor w node (w.floor node)
after_move w (Adopt node epoch) =
    if w.running node && (nat_lt (w.epoch node) epoch && is_member (membership_of w.memberships epoch) node)
    then after_commit (record w { epoch = with_value w.epoch node epoch; floor = with_value w.floor node None }) node
    else w
after_move w (Stop node) = record w { running = with_value w.running node false }
after_move w (Remove node) =
    if is_member (current_membership w) node && (not (w.running node) && nat_lt 1 (length (current_membership w)))
    then record w { memberships = w.memberships ++ without (current_membership w) node ∷ [] }
    else w
after_move w (Join node) =
    if is_member w.joined node
    then w
    else record w {
      memberships = w.memberships ++ (current_membership w ++ node ∷ []) ∷ [];
      joined = w.joined ++ node ∷ [];
      running = with_value w.running node true;
      epoch = with_value w.epoch node 0;
      ready = with_value w.ready node false;
      history = with_value w.history node [];
      acknowledged = with_value w.acknowledged node 0;
      floor = with_value w.floor node None;
    }
after_move w (Send_entry node to place) = after_send_entry w node to place (entry_at (w.history node) place)
after_move w (Send_ack node to) =
    if w.running node && is_next (known_membership w node) to node then after_send w node to (Ack (w.acknowledged node)) else w
after_move w (Send_copy node to) =
    if w.running node && is_next (known_membership w node) node to then after_send w node to (Copy (take (w.acknowledged node) (w.history node))) else w
after_move w (Send_floor node to) =
    if (w.running node && w.ready node) && is_next (known_membership w node) node to then after_send w node to (Floor (length (w.history node))) else w

-- moves, one after the other
abbrev pub after_moves : {A : Type 0} → MachineState A → List (MachineMove A) → MachineState A
after_moves w [] = w
after_moves w (move ∷ moves) = after_moves (after_move w move) moves

-- the start: these members, all running and ready in epoch 1, and nothing appended or sent
abbrev pub initial_state : {A : Type 0} → List ℕ → MachineState A
initial_state members = record {
  memberships = members ∷ [];
  joined = members;
  running = is_member members;
  epoch = λ node. if is_member members node then 1 else 0;
  ready = is_member members;
  history = λ node. [];
  acknowledged = λ node. 0;
  floor = λ node. None;
  messages = [];
  log = [];
}
