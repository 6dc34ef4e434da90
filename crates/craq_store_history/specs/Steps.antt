-- Knowledge that an author needs to add an entry to a store's history.
use Rattle.std.specs.Prelude.{◌≡◌, ◌≢◌, ◌<◌, ℕ, List, [], Option, Some, Ok}
use Rattle.std.specs.List.{AllByRecursion}
use Rattle.craq_names.specs.declared.name.NodeName.{NodeName}
use Rattle.craq_model.specs.declared.ask.Event.{Event}
use Rattle.craq_model.specs.Members.{IsMembership}
use Rattle.craq_model.specs.Node.{node_step}
use Rattle.craq_model.specs.Plain.{Plain}
use Rattle.craq_epochs.specs.Mastered.{Mastered}
use Rattle.craq_seat.specs.declared.journal.BookEvent.{BookEvent}
use Rattle.craq_seat.specs.declared.journal.Record.{Record}
use Rattle.craq_seat.specs.Books.{book_step}
use Rattle.craq_seat.specs.Merge.{AtNode}
use Rattle.craq_causality.specs.Authors.{IsMasterAfter, IsNodeAfter}
use Rattle.craq_causality.specs.Causal.{HasJoined, IsOfSent, IsOfStopped, IsOfType}
use Rattle.craq_ghost_history.specs.declared.author.Author.TheVariants.{Node}
use Rattle.craq_ghost_history.specs.Authors.{of}
use Rattle.craq_store_history.specs.declared.entry.CallId.{CallId}
use Rattle.craq_store_history.specs.declared.entry.HistoryEntry.{HistoryEntry}
use Rattle.craq_store_history.specs.Entries.{author_of, lines_in, members_in}
use Rattle.craq_store_history.specs.Chains.{Accepts, IsBelow}

-- this node has seen that its chain was opened and that it has joined it, and its own steps replay to `node` and `stamp`
pub record IsNodeAt (name : NodeName) (seen : List HistoryEntry) (node : Plain) (stamp : ℕ) : Type 0 where
  pub members : List ℕ
  pub opened : members_in name.chain seen ≡ Some members
  pub member : name.node ≢ 0
  pub joined : HasJoined members (lines_in name.chain seen) name.node
  pub after : IsNodeAfter name.chain members name.node (lines_in name.chain seen) node stamp

-- the master of a chain has seen that its chain was opened, and its own steps replay to `master` and `stamp`
pub record IsMasterAt (chain : ℕ) (seen : List HistoryEntry) (master : Mastered) (stamp : ℕ) : Type 0 where
  pub members : List ℕ
  pub opened : members_in chain seen ≡ Some members
  pub after : IsMasterAfter chain members (lines_in chain seen) master stamp

-- the node takes this step: the next of the node that its own steps lead to, of a message that was sent by the prefix that it learned,
-- or of a call that was made
pub record MayStep (name : NodeName) (seen reported : List HistoryEntry) (r : Record Event) (call : Option CallId) (next : Plain) : Type 0 where
  pub node : Plain
  pub stamp : ℕ
  pub at : IsNodeAt name seen node stamp
  pub step : node_step node r.event ≡ Ok (next, r.step)
  pub later : stamp < r.stamp
  pub sent : IsOfSent (lines_in name.chain reported) r.event
  pub typed : IsOfType (AtNode r.event)
  pub called : Accepts reported name r.event call

-- the master takes this step: a removal comes after the stop that it names
pub record MayOrder (chain : ℕ) (seen reported : List HistoryEntry) (r : Record BookEvent) (next : Mastered) : Type 0 where
  pub master : Mastered
  pub stamp : ℕ
  pub at : IsMasterAt chain seen master stamp
  pub step : book_step master r.event ≡ Ok (next, r.step)
  pub later : stamp < r.stamp
  pub stopped : IsOfStopped (lines_in chain reported) r.event

-- a chain is opened once, by its master, with members that may be a membership
pub record MayOpen (chain : ℕ) (seen : List HistoryEntry) (members : List ℕ) : Type 0 where
  pub first : of author_of (Node chain 0) seen ≡ []
  pub membership : IsMembership members

-- a client's call has a number above those of its calls before
abbrev pub MayMake : List HistoryEntry → CallId → Type 0
MayMake seen call = AllByRecursion (IsBelow call) seen
