-- The authors of a chain's lines, a node by its id and the master as 0, and what their lines replay to.
use Rattle.std.specs.Prelude.{◌≡◌, ℕ, ◌==◌, if◌then◌else◌, List, filter, map}
use Rattle.craq_model.specs.declared.ask.Event.{Event}
use Rattle.craq_model.specs.Members.{is_member}
use Rattle.craq_model.specs.Node.{node_step}
use Rattle.craq_model.specs.Plain.{Plain, opening_joined, opening_member}
use Rattle.craq_epochs.specs.Mastered.{Mastered}
use Rattle.craq_epochs.specs.Mastered as masters
use Rattle.craq_seat.specs.declared.journal.BookEvent.{BookEvent}
use Rattle.craq_seat.specs.declared.journal.Record.{Record}
use Rattle.craq_seat.specs.Books.{book_step}
use Rattle.craq_seat.specs.Journal.{Replays, RisesTo}
use Rattle.craq_seat.specs.Merge.{MergedStep, book_line, node_line}

-- the lines of one author
abbrev pub lines_of : ℕ → List MergedStep → List MergedStep
lines_of id lines = filter (λ (l : MergedStep). l.node == id) lines

-- a node before its first step: a first member, or one that joins
abbrev pub first_of : ℕ → List ℕ → ℕ → Plain
first_of chain members id =
    if is_member members id
    then opening_member (record { chain = chain; node = id }) members
    else opening_joined (record { chain = chain; node = id })

-- the lines of this node are a journal that replays to `node`; its stamps rise to `stamp`
pub record IsNodeAfter (chain : ℕ) (members : List ℕ) (id : ℕ) (lines : List MergedStep) (node : Plain) (stamp : ℕ) : Type 0 where
  pub records : List (Record Event)
  pub are : lines_of id lines ≡ map (node_line id) records
  pub replay : Replays node_step (first_of chain members id) records node
  pub low : ℕ  -- all stamps are above it
  pub stamps : RisesTo low records stamp

-- the lines of the master are a journal that replays to `master`; its stamps rise to `stamp`
pub record IsMasterAfter (chain : ℕ) (members : List ℕ) (lines : List MergedStep) (master : Mastered) (stamp : ℕ) : Type 0 where
  pub records : List (Record BookEvent)
  pub are : lines_of 0 lines ≡ map book_line records
  pub replay : Replays book_step (masters.opened_master chain members) records master
  pub stamps : RisesTo 0 records stamp
