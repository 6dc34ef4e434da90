-- Each invariant of a run, and all of them.
use Rattle.std.proofs.Common.{ℕ, sym, ◌∙◌, arith}
use Rattle.craq_runs.specs.Typed.{IsTypedRunOf}
use Rattle.craq_runs.specs.declared.run.Run.{Run}
use Rattle.craq_chain_invariants.specs.Invariants.{HistoriesAreWhole, MembersAreNodes, PredecessorsHoldMore, PredecessorsAreReady, OneTailHoldsTheList, ReadyMembersHoldTheList, AcknowledgedIsCommitted, CopiesAreCommitted, PartsAreShares, MessagesAgreeWithSenders, ReportedVersionsWereCommitted, WaitingUpdatesAreOwed, HasInvariants}
use Rattle.craq_chain_invariants.proofs.Clients.{replies, reported}
use Rattle.craq_chain_invariants.proofs.Messages.{copy_committed, copy_state, part_committed, part_numbered, part_share, entry_agrees, batch_agrees, ack_agrees, copy_agrees, part_agrees, floor_agrees, blank_agrees}
use Rattle.craq_chain_invariants.proofs.Nodes.{are_nodes, are_ready, held, committed, same, hold_list, hold_more, hold_more_known, one, list, known, whole, placed}
use Rattle.craq_updates.proofs.Replay.{as_many as all_updates}
use Rattle.craq_chain_invariants.proofs.Replayed.{as_many, replayed, list_updates, prefix_updates}
use Rattle.craq_chain_invariants.proofs.Waiting.{above}

pub histories_are_whole : (chain : ℕ) (run : Run) → IsTypedRunOf chain run → HistoriesAreWhole chain run
histories_are_whole chain run i =
    record {
      whole = λ p at. whole chain run p i at;
      placed = λ p at. placed chain run p i at;
      as_many = λ p at. as_many chain run p i at;
      replayed = λ p count at. replayed chain run p count i at;
    }

pub members_are_nodes : (chain : ℕ) (run : Run) → IsTypedRunOf chain run → MembersAreNodes chain run
members_are_nodes chain run i =
    λ id at. are_nodes chain run id i at

pub predecessors_hold_more : (chain : ℕ) (run : Run) → IsTypedRunOf chain run → PredecessorsHoldMore chain run
predecessors_hold_more chain run i =
    record {
      current = λ p q a b before. hold_more chain run p q i a b before;
      known = λ p q a b before. hold_more_known chain run p q i a b before;
    }

pub predecessors_are_ready : (chain : ℕ) (run : Run) → IsTypedRunOf chain run → PredecessorsAreReady chain run
predecessors_are_ready chain run i =
    λ p q a b before ready. are_ready chain run p q i a b before ready

pub one_tail_holds_the_list : (chain : ℕ) (run : Run) → IsTypedRunOf chain run → OneTailHoldsTheList chain run
one_tail_holds_the_list chain run i =
    record {
      one = λ p q a b r t s u. one chain run p q i a b r t s u;
      list = λ p a r t. list chain run p i a r t;
      updates = λ p a r t. list_updates chain run p i (list chain run p i a r t);
      known = λ p a r t. known chain run p i a r t ∙ sym (all_updates chain run i);
    }

pub ready_members_hold_the_list : (chain : ℕ) (run : Run) → IsTypedRunOf chain run → ReadyMembersHoldTheList chain run
ready_members_hold_the_list chain run i =
    record {
      entries = λ p at member ready. hold_list chain run p i at member ready;
      updates = λ p at member ready. prefix_updates chain run p i (hold_list chain run p i at member ready);
    }

pub acknowledged_is_committed : (chain : ℕ) (run : Run) → IsTypedRunOf chain run → AcknowledgedIsCommitted chain run
acknowledged_is_committed chain run i =
    record {
      held = λ p at. held chain run p i at;
      committed = λ p at. omega (arith, committed chain run p i at, all_updates chain run i);
      same = λ p at. same chain run p i at;
    }

pub copies_are_committed : (chain : ℕ) (run : Run) → IsTypedRunOf chain run → CopiesAreCommitted chain run
copies_are_committed chain run i =
    record {
      committed = λ number m position state at is. copy_committed chain run number m position state i at is;
      state = λ number m position state at is. copy_state chain run number m position state i at is;
    }

pub parts_are_shares : (chain : ℕ) (run : Run) → IsTypedRunOf chain run → PartsAreShares chain run
parts_are_shares chain run i =
    record {
      committed = λ number m part at is. part_committed chain run number m part i at is;
      numbered = λ number m part at is. part_numbered chain run number m part i at is;
      share = λ number m part at is. part_share chain run number m part i at is;
    }

pub messages_agree_with_senders : (chain : ℕ) (run : Run) → IsTypedRunOf chain run → MessagesAgreeWithSenders chain run
messages_agree_with_senders chain run i =
    record {
      entry = λ number m e at is. entry_agrees chain run number m e i at is;
      batch = λ number m es at is. batch_agrees chain run number m es i at is;
      ack = λ number m position at is. ack_agrees chain run number m position i at is;
      copy = λ number m position state at is. copy_agrees chain run number m position state i at is;
      part = λ number m part at is. part_agrees chain run number m part i at is;
      floor = λ number m count at is. floor_agrees chain run number m count i at is;
      blank = λ number m count at is. blank_agrees chain run number m count i at is;
    }

pub reported_versions_were_committed : (chain : ℕ) (run : Run) → IsTypedRunOf chain run → ReportedVersionsWereCommitted chain run
reported_versions_were_committed chain run i =
    λ number m ticket version at is. reported chain run number m ticket version i at is

pub waiting_updates_are_owed : (chain : ℕ) (run : Run) → IsTypedRunOf chain run → WaitingUpdatesAreOwed chain run
waiting_updates_are_owed chain run i =
    record {
      above = λ p at. above chain run p i at;
      reply = λ p at. replies chain run p i at;
    }

pub runs_keep_invariants : (chain : ℕ) (run : Run) → IsTypedRunOf chain run → HasInvariants chain run
runs_keep_invariants chain run i = record {
  histories = histories_are_whole chain run i;
  members = members_are_nodes chain run i;
  predecessors = predecessors_hold_more chain run i;
  readiness = predecessors_are_ready chain run i;
  tail = one_tail_holds_the_list chain run i;
  ready_members = ready_members_hold_the_list chain run i;
  acknowledged = acknowledged_is_committed chain run i;
  copies = copies_are_committed chain run i;
  parts = parts_are_shares chain run i;
  messages = messages_agree_with_senders chain run i;
  versions = reported_versions_were_committed chain run i;
  waiting = waiting_updates_are_owed chain run i;
}
