-- The invariants of a chain: the properties of its nodes, of its messages and of its waiting
-- updates that each run preserves.
use Rattle.std.specs.Prelude.{◌≡◌, ◌<◌, ◌≤◌, ℕ, IsSome, true, List, Some, length, take}
use Rattle.std.specs.List.{AllByRecursion}
use Rattle.craq_commands.specs.SingleCopy.{after, after_entries, opening_state}
use Rattle.craq_commands.specs.declared.entry.Entry.{Entry}
use Rattle.craq_commands.specs.declared.state.State.{State}
use Rattle.craq_model.specs.Members.{is_member}
use Rattle.craq_model.specs.Parts.{part_of}
use Rattle.craq_model.specs.Plain.{Plain, id_of, is_tail, length_of}
use Rattle.craq_model.specs.declared.message.Body.TheVariants as bodies
use Rattle.craq_model.specs.declared.message.LinkMessage.{LinkMessage}
use Rattle.craq_model.specs.declared.message.StatePart.{StatePart}
use Rattle.craq_model.specs.declared.waiting.WaitingUpdate.{WaitingUpdate}
use Rattle.craq_runs.specs.Chain.{node_at}
use Rattle.craq_runs.specs.declared.run.Run.{Run}
use Rattle.craq_protocol.specs.Machine.{entry_at}
use Rattle.craq_protocol.specs.Promises.{Before, IsPrefix}
use Rattle.craq_refinement.specs.Follows.{IsHistory, IsPlaced}
use Rattle.craq_chain_invariants.specs.Kept.{HasReply, HasSender, IsNode, TellsVersion, WasSent, chain_after, committed_at, committed_in, history_of, updates_committed, updates_held}

-- ---- nodes

-- a node's base state is that after the first committed entries, as many as its base; the entries
-- of its whole history are at their positions, from 1 on; and replaying them is applying the
-- updates from which they were made on the single copy
pub record HistoriesAreWhole (chain : ℕ) (run : Run) : Type 0 where
  pub whole : (p : Plain) → IsNode (chain_after chain run) p → IsHistory p.past.base p.past.base_state p.past.entries (history_of (committed_in chain run) p)
  pub placed : (p : Plain) → IsNode (chain_after chain run) p → IsPlaced 0 (history_of (committed_in chain run) p)
  pub as_many : (p : Plain) → IsNode (chain_after chain run) p → length (updates_held chain run p) ≡ length_of p
  pub replayed : (p : Plain) (count : ℕ) → IsNode (chain_after chain run) p
      → after_entries opening_state (take count (history_of (committed_in chain run) p)) ≡ after (take count (updates_held chain run p))

-- each member of the master's membership is a node of the chain
abbrev pub MembersAreNodes : ℕ → Run → Type 0
MembersAreNodes chain run = (id : ℕ) → is_member (chain_after chain run).members id ≡ true → IsSome (node_at (chain_after chain run).nodes id)

-- the history of a later member is a prefix of that of each earlier one, in the master's membership
-- and in the one that the later member knows
pub record PredecessorsHoldMore (chain : ℕ) (run : Run) : Type 0 where
  pub current : (p q : Plain) → IsNode (chain_after chain run) p → IsNode (chain_after chain run) q
      → Before (chain_after chain run).members (id_of p) (id_of q)
      → IsPrefix (history_of (committed_in chain run) q) (history_of (committed_in chain run) p)
  pub known : (p q : Plain) → IsNode (chain_after chain run) p → IsNode (chain_after chain run) q
      → Before q.members (id_of p) (id_of q)
      → IsPrefix (history_of (committed_in chain run) q) (history_of (committed_in chain run) p)

-- the members before a ready one are ready
abbrev pub PredecessorsAreReady : ℕ → Run → Type 0
PredecessorsAreReady chain run =
    (p q : Plain) → IsNode (chain_after chain run) p → IsNode (chain_after chain run) q
    → Before (chain_after chain run).members (id_of p) (id_of q) → q.ready ≡ true → p.ready ≡ true

-- at most one running node is ready and last in the membership that it knows; its history is the
-- committed entries, so their updates are the committed updates, and it knows that all of them are
-- committed
pub record OneTailHoldsTheList (chain : ℕ) (run : Run) : Type 0 where
  pub one : (p q : Plain) → IsNode (chain_after chain run) p → IsNode (chain_after chain run) q
      → p.running ≡ true → is_tail p ≡ true → q.running ≡ true → is_tail q ≡ true → p ≡ q
  pub list : (p : Plain) → IsNode (chain_after chain run) p
      → p.running ≡ true → is_tail p ≡ true → history_of (committed_in chain run) p ≡ committed_in chain run
  pub updates : (p : Plain) → IsNode (chain_after chain run) p
      → p.running ≡ true → is_tail p ≡ true → updates_held chain run p ≡ updates_committed chain run
  pub known : (p : Plain) → IsNode (chain_after chain run) p
      → p.running ≡ true → is_tail p ≡ true → p.past.acknowledged ≡ length (updates_committed chain run)

-- the committed entries are a prefix of the history of each ready member of the master's
-- membership, so the committed updates are a prefix of the updates from which its entries were made
pub record ReadyMembersHoldTheList (chain : ℕ) (run : Run) : Type 0 where
  pub entries : (p : Plain) → IsNode (chain_after chain run) p → is_member (chain_after chain run).members (id_of p) ≡ true → p.ready ≡ true
      → IsPrefix (committed_in chain run) (history_of (committed_in chain run) p)
  pub updates : (p : Plain) → IsNode (chain_after chain run) p → is_member (chain_after chain run).members (id_of p) ≡ true → p.ready ≡ true
      → IsPrefix (updates_committed chain run) (updates_held chain run p)

-- the entries that a node knows to be committed are in its history, and are the first committed
-- ones
pub record AcknowledgedIsCommitted (chain : ℕ) (run : Run) : Type 0 where
  pub held : (p : Plain) → IsNode (chain_after chain run) p
      → p.past.acknowledged ≤ length_of p
  pub committed : (p : Plain) → IsNode (chain_after chain run) p
      → p.past.acknowledged ≤ length (updates_committed chain run)
  pub same : (p : Plain) → IsNode (chain_after chain run) p
      → take p.past.acknowledged (history_of (committed_in chain run) p) ≡ take p.past.acknowledged (committed_in chain run)

-- ---- messages

-- each state that was ever sent is that of the single copy after as many committed updates as it
-- says
pub record CopiesAreCommitted (chain : ℕ) (run : Run) : Type 0 where
  pub committed : (number : ℕ) (m : LinkMessage) (position : ℕ) (state : State)
      → WasSent (chain_after chain run) number m → m.body ≡ bodies.Copy position state
      → position ≤ length (updates_committed chain run)
  pub state : (number : ℕ) (m : LinkMessage) (position : ℕ) (state : State)
      → WasSent (chain_after chain run) number m → m.body ≡ bodies.Copy position state
      → after (take position (updates_committed chain run)) ≡ state

-- each part of a state that was ever sent is its share of the single copy's state after as many
-- committed updates as it says
pub record PartsAreShares (chain : ℕ) (run : Run) : Type 0 where
  pub committed : (number : ℕ) (m : LinkMessage) (part : StatePart)
      → WasSent (chain_after chain run) number m → m.body ≡ bodies.Part part
      → part.position ≤ length (updates_committed chain run)
  pub numbered : (number : ℕ) (m : LinkMessage) (part : StatePart)
      → WasSent (chain_after chain run) number m → m.body ≡ bodies.Part part
      → (1 ≤ part.number) × (part.number ≤ part.count)
  pub share : (number : ℕ) (m : LinkMessage) (part : StatePart)
      → WasSent (chain_after chain run) number m → m.body ≡ bodies.Part part
      → part_of part.position (after (take part.position (updates_committed chain run))) part.number ≡ part

-- each message that was ever sent agrees with its sender, a node of the chain: an entry, alone or
-- in a batch, is at its position in the sender's history; for an acknowledgement, a state or a part
-- of one, the sender knows that this number is committed; for a floor, the sender is ready and
-- holds this number of entries; and a sender that reports its length holds that number of entries
pub record MessagesAgreeWithSenders (chain : ℕ) (run : Run) : Type 0 where
  pub entry : (number : ℕ) (m : LinkMessage) (e : Entry)
      → WasSent (chain_after chain run) number m → m.body ≡ bodies.Entry e
      → HasSender (chain_after chain run) m (λ p. entry_at (history_of (committed_in chain run) p) e.position ≡ Some e)
  pub batch : (number : ℕ) (m : LinkMessage) (entries : List Entry)
      → WasSent (chain_after chain run) number m → m.body ≡ bodies.Batch entries
      → AllByRecursion (λ (e : Entry). HasSender (chain_after chain run) m (λ p. entry_at (history_of (committed_in chain run) p) e.position ≡ Some e)) entries
  pub ack : (number : ℕ) (m : LinkMessage) (position : ℕ)
      → WasSent (chain_after chain run) number m → m.body ≡ bodies.Ack position
      → HasSender (chain_after chain run) m (λ p. position ≤ p.past.acknowledged)
  pub copy : (number : ℕ) (m : LinkMessage) (position : ℕ) (state : State)
      → WasSent (chain_after chain run) number m → m.body ≡ bodies.Copy position state
      → HasSender (chain_after chain run) m (λ p. position ≤ p.past.acknowledged)
  pub part : (number : ℕ) (m : LinkMessage) (part : StatePart)
      → WasSent (chain_after chain run) number m → m.body ≡ bodies.Part part
      → HasSender (chain_after chain run) m (λ p. part.position ≤ p.past.acknowledged)
  pub floor : (number : ℕ) (m : LinkMessage) (count : ℕ)
      → WasSent (chain_after chain run) number m → m.body ≡ bodies.Floor count
      → HasSender (chain_after chain run) m (λ p. (p.ready ≡ true) × (count ≤ length_of p))
  pub blank : (number : ℕ) (m : LinkMessage) (count : ℕ)
      → WasSent (chain_after chain run) number m → m.body ≡ bodies.Blank count
      → HasSender (chain_after chain run) m (λ p. count ≤ length_of p)

-- each version that was ever reported names a strong read of its receiver, and is that of the
-- read's object on the single copy after the updates that were committed when it was sent
abbrev pub ReportedVersionsWereCommitted : ℕ → Run → Type 0
ReportedVersionsWereCommitted chain run =
    (number : ℕ) (m : LinkMessage) (ticket version : ℕ)
    → WasSent (chain_after chain run) number m → m.body ≡ bodies.VersionIs ticket version
    → TellsVersion chain run m.receiver ticket version (committed_at chain run number)

-- ---- waiting updates

-- each update that waits at a node waits for more entries than the node knows to be committed; it
-- was requested there, and its reply is the single copy's for its client and number after the
-- updates of the node's history that it waits for
pub record WaitingUpdatesAreOwed (chain : ℕ) (run : Run) : Type 0 where
  pub above : (p : Plain) → IsNode (chain_after chain run) p
      → AllByRecursion (λ (u : WaitingUpdate). p.past.acknowledged < u.position) p.waiting_updates
  pub reply : (p : Plain) → IsNode (chain_after chain run) p
      → AllByRecursion (HasReply chain run p) p.waiting_updates

-- ---- all of them

-- the run keeps all of these invariants
pub record HasInvariants (chain : ℕ) (run : Run) : Type 0 where
  pub histories : HistoriesAreWhole chain run
  pub members : MembersAreNodes chain run
  pub predecessors : PredecessorsHoldMore chain run
  pub readiness : PredecessorsAreReady chain run
  pub tail : OneTailHoldsTheList chain run
  pub ready_members : ReadyMembersHoldTheList chain run
  pub acknowledged : AcknowledgedIsCommitted chain run
  pub copies : CopiesAreCommitted chain run
  pub parts : PartsAreShares chain run
  pub messages : MessagesAgreeWithSenders chain run
  pub versions : ReportedVersionsWereCommitted chain run
  pub waiting : WaitingUpdatesAreOwed chain run
