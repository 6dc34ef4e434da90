-- The claims of the theorem about a machine that started at an opening.
use Rattle.std.specs.Prelude.{◌≡◌, ◌⊎◌, ℕ, ◌<◌, ◌≤◌, true, false, List, [], ◌∷◌, ◌++◌, length, take, get_or}
use Rattle.craq_protocol.specs.Members.{is_member, membership_of, IsDistinct}
use Rattle.craq_protocol.specs.Machine.{Message, MachineState, MachineMove, initial_state, after_moves, Ack, Copy, known_membership, current_membership, is_tail}

-- the first list is a prefix of the second
pub record IsPrefix {A : Type 0} (xs ys : List A) : Type 0 where
  pub rest : List A
  pub is : xs ++ rest ≡ ys

-- the message is among those that were sent
abbrev pub Sent : {A : Type 0} → List (Message A) → Message A → Type 0
Sent [] message = ⊥
Sent (m ∷ ms) message = (m ≡ message) ⊎ Sent ms message

-- the first id is before the second
pub record Before (members : List ℕ) (first second : ℕ) : Type 0 where
  pub front : ℕ
  pub back : ℕ
  pub order : front < back
  pub within : back < length members
  pub at_front : get_or members front 0 ≡ first
  pub at_back : get_or members back 0 ≡ second

-- some moves from some opening lead to the world
pub record IsReached {A : Type 0} (w : MachineState A) : Type 0 where
  pub members : List ℕ
  pub distinct : IsDistinct members
  pub moves : List (MachineMove A)
  pub is : after_moves (initial_state members) moves ≡ w

-- Nothing is taken back: the properties of a world that hold in each later one.
pub record Later {A : Type 0} (w v : MachineState A) : Type 0 where
  pub log : IsPrefix w.log v.log
  pub history : (node : ℕ) → IsPrefix (w.history node) (v.history node)
  pub acknowledged : (node : ℕ) → w.acknowledged node ≤ v.acknowledged node
  pub epoch : (node : ℕ) → w.epoch node ≤ v.epoch node
  pub ready : (node : ℕ) → w.ready node ≡ true → v.ready node ≡ true
  pub stopped : (node : ℕ) → is_member w.joined node ≡ true → w.running node ≡ false → v.running node ≡ false
  pub sent : (message : Message A) → Sent w.messages message → Sent v.messages message
  pub joined : (node : ℕ) → is_member w.joined node ≡ true → is_member v.joined node ≡ true
  pub epochs : length w.memberships ≤ length v.memberships
  pub members : (epoch : ℕ) → epoch ≤ length w.memberships → membership_of v.memberships epoch ≡ membership_of w.memberships epoch

-- The properties of the machine at all times.
pub record IsSafe {A : Type 0} (w : MachineState A) : Type 0 where
  -- the log is a prefix of each ready member's history
  pub committed : (node : ℕ) → w.ready node ≡ true → is_member (current_membership w) node ≡ true → IsPrefix w.log (w.history node)
  -- the entries that a node knows to be committed are committed, and are in its history
  pub acknowledged : (node : ℕ) → (w.acknowledged node ≤ length (w.history node)) × (w.acknowledged node ≤ length w.log) × (take (w.acknowledged node) (w.history node) ≡ take (w.acknowledged node) w.log)
  -- a tail holds exactly the log, and knows that all of it is committed; and there is at most one
  -- tail
  pub tail : (node : ℕ) → is_tail w node ≡ true → w.history node ≡ w.log
  pub tail_knows : (node : ℕ) → is_tail w node ≡ true → w.acknowledged node ≡ length (w.history node)
  pub one_tail : (node other : ℕ) → is_tail w node ≡ true → is_tail w other ≡ true → node ≡ other
  -- each message about committed entries stays true
  pub ack : (message : Message A) (count : ℕ) → Sent w.messages message → message.body ≡ Ack count → count ≤ length w.log
  pub copy : (message : Message A) (entries : List A) → Sent w.messages message → message.body ≡ Copy entries → IsPrefix entries w.log
  -- in the membership that a node knows, and in the master's, a node holds no more than each node
  -- before it
  pub predecessors_hold : (node other : ℕ) → Before (known_membership w node) other node → IsPrefix (w.history node) (w.history other)
  pub predecessors_hold_now : (node other : ℕ) → Before (current_membership w) other node → IsPrefix (w.history node) (w.history other)
  -- the members before a ready one are ready
  pub predecessors_ready : (node other : ℕ) → Before (current_membership w) other node → w.ready node ≡ true → w.ready other ≡ true
  -- no membership has an id twice
  pub distinct : (epoch : ℕ) → IsDistinct (membership_of w.memberships epoch)
  -- a node knows only memberships that were made and contain it; a running node is a member now
  pub epoch : (node : ℕ) → w.epoch node ≤ length w.memberships
  pub member : (node : ℕ) → 0 < w.epoch node → is_member (known_membership w node) node ≡ true
  pub alive : (node : ℕ) → w.running node ≡ true → is_member (current_membership w) node ≡ true
