-- The invariant of every move. docs/proof/PROTOCOL.md explains it.
use Rattle.std.proofs.Common.{Some, ◌≡◌, ℕ, ◌<◌, ◌≤◌, true, false, List, [], length, take}
use Rattle.craq_protocol.specs.Members.{is_member, is_last, is_next, membership_of}
use Rattle.craq_protocol.specs.Machine.{MachineBody, Message, MachineState, entry_at, Entry, Ack, Copy, Floor}
use Rattle.craq_protocol.specs.Promises.{IsPrefix, Sent}
use Rattle.craq_protocol.proofs.Lists.{Sorted}

-- The ids that ever were members: the order in which they joined, and the epoch in which each did.
-- The id that joins next gets the top as its rank. An older id, an elder, has a lower rank.
pub record Ages : Type 0 where
  pub rank : ℕ → ℕ
  pub born : ℕ → ℕ
  pub top : ℕ

-- The memberships that were made: each id is a member from the epoch in which it joined on, until
-- it is removed; it never joins again.
pub record Shape (memberships : List (List ℕ)) (joined : List ℕ) (g : Ages) : Type 0 where
  -- each membership is in the order of joining
  pub sorted : (epoch : ℕ) → Sorted g.rank (membership_of memberships epoch)
  -- no id is a member before it joined, and from then on it is in each membership up to its last
  pub since_born : (epoch id : ℕ) → is_member (membership_of memberships epoch) id ≡ true → g.born id ≤ epoch
  pub stays : (epoch earlier id : ℕ) → is_member (membership_of memberships epoch) id ≡ true → g.born id ≤ earlier → earlier ≤ epoch → is_member (membership_of memberships earlier) id ≡ true
  -- elders joined no later, and no two ids have the same rank
  pub elders_first : (epoch other_epoch elder id : ℕ) → is_member (membership_of memberships epoch) elder ≡ true → is_member (membership_of memberships other_epoch) id ≡ true → g.rank elder < g.rank id → g.born elder ≤ g.born id
  pub rank_is_id : (epoch other_epoch id other : ℕ) → is_member (membership_of memberships epoch) id ≡ true → is_member (membership_of memberships other_epoch) other ≡ true → g.rank id ≡ g.rank other → id ≡ other
  -- each member is among those that joined, and below the next rank
  pub is_listed : (epoch id : ℕ) → is_member (membership_of memberships epoch) id ≡ true → is_member joined id ≡ true
  pub below_top : (epoch id : ℕ) → is_member (membership_of memberships epoch) id ≡ true → g.rank id < g.top

-- The claim of a message, which stays true from its sending on.
abbrev pub Truth : {A : Type 0} → MachineState A → Ages → ℕ → ℕ → ℕ → MachineBody A → Type 0
-- the entry is at its place in the sender's history, and in that of each elder
Truth {A} w g epoch from to (Entry place entry) =
    (other : ℕ) → is_member (membership_of w.memberships epoch) other ≡ true → g.rank other ≤ g.rank from → entry_at (w.history other) place ≡ Some entry
-- this number of entries is committed
Truth {A} w g epoch from to (Ack count) = count ≤ length w.log
-- the copy is a prefix of the log, of the sender's history, and of that of each elder
Truth {A} w g epoch from to (Copy entries) =
    IsPrefix entries w.log
    × ((other : ℕ) → is_member (membership_of w.memberships epoch) other ≡ true → g.rank other ≤ g.rank from → IsPrefix entries (w.history other))
-- the sender is ready and was right before the receiver; and while the receiver is a member and not
-- ready, no more is committed than what the sender held when it sent the floor
Truth {A} w g epoch from to (Floor count) =
    (w.ready from ≡ true) × (epoch ≤ w.epoch from) × (is_next (membership_of w.memberships epoch) from to ≡ true)
    × (w.ready to ≡ false → is_member (membership_of w.memberships (length w.memberships)) to ≡ true → IsPrefix w.log (take count (w.history from)))

pub record Clauses {A : Type 0} (w : MachineState A) (g : Ages) : Type 0 where
  pub shape : Shape w.memberships w.joined g
  -- a node knows only memberships that were made and contain it; a running node is a member now
  pub epoch_made : (node : ℕ) → w.epoch node ≤ length w.memberships
  pub is_member_there : (node : ℕ) → 0 < w.epoch node → is_member (membership_of w.memberships (w.epoch node)) node ≡ true
  pub running_is_member : (node : ℕ) → w.running node ≡ true → is_member (membership_of w.memberships (length w.memberships)) node ≡ true
  -- a node that knows no membership holds nothing and is not ready
  pub empty_at_first : (node : ℕ) → w.epoch node ≡ 0 → w.history node ≡ []
  pub ready_has_epoch : (node : ℕ) → w.ready node ≡ true → 0 < w.epoch node
  -- in the membership that a node knows, its elders hold its history
  pub elders_hold : (node elder : ℕ) → is_member (membership_of w.memberships (w.epoch node)) elder ≡ true → g.rank elder < g.rank node → IsPrefix (w.history node) (w.history elder)
  -- each message is of a member of its epoch, and true
  pub sender_is_member : (message : Message A) → Sent w.messages message → is_member (membership_of w.memberships message.epoch) message.from ≡ true
  pub truthful : (message : Message A) → Sent w.messages message → Truth w g message.epoch message.from message.to message.body
  -- the entries that a node knows to be committed are in its history, and are committed
  pub acknowledged_held : (node : ℕ) → w.acknowledged node ≤ length (w.history node)
  pub acknowledged_committed : (node : ℕ) → IsPrefix (take (w.acknowledged node) (w.history node)) w.log
  -- each ready member holds the log
  pub committed_held : (node : ℕ) → w.ready node ≡ true → is_member (membership_of w.memberships (length w.memberships)) node ≡ true → IsPrefix w.log (w.history node)
  -- the floor of a node was sent to it in its epoch
  pub floor_was_sent : (node count : ℕ) → w.floor node ≡ Some count → (from : ℕ) × Sent w.messages (record { epoch = w.epoch node; from = from; to = node; body = Floor count })
  -- the members that are elders of a ready node, ever, are ready
  pub elders_ready : (node elder : ℕ) → w.ready node ≡ true → is_member (membership_of w.memberships (length w.memberships)) elder ≡ true → g.rank elder < g.rank node → w.ready elder ≡ true
  -- a member that is an elder of a ready node was never last, from the epoch that it knows until
  -- the ready node joined
  pub never_last_before : (node elder epoch : ℕ) → w.ready node ≡ true → is_member (membership_of w.memberships (length w.memberships)) elder ≡ true → g.rank elder < g.rank node → w.epoch elder ≤ epoch → epoch < g.born node → is_last (membership_of w.memberships epoch) elder ≡ true → ⊥

-- the node holds exactly the log, and knows that all of it is committed
abbrev pub HoldsLog : {A : Type 0} → MachineState A → ℕ → Type 0
HoldsLog w node = (w.history node ≡ w.log) × (length (w.history node) ≤ w.acknowledged node)

pub record Invariant {A : Type 0} (w : MachineState A) : Type 0 where
  pub ages : Ages
  pub clauses : Clauses w ages
  pub tails : (node : ℕ) → w.running node ≡ true → w.ready node ≡ true → is_last (membership_of w.memberships (w.epoch node)) node ≡ true → HoldsLog w node
