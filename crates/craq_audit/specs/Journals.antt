-- The journals of cells, and the test that all cells keep one.
use Rattle.std.specs.Prelude.{ℕ, List, [], map, Option, Some, None}
use Rattle.std.specs.List.{AllByRecursion}
use Rattle.craq_model.specs.declared.ask.Event.{Event}
use Rattle.craq_epochs.specs.Mastered.{Mastered}
use Rattle.craq_seat.specs.declared.journal.BookEvent.{BookEvent}
use Rattle.craq_seat.specs.declared.journal.Record.{Record}
use Rattle.craq_seat.specs.Audits.{HasSender, id_of}
use Rattle.craq_seat.specs.Books.{members_of}
use Rattle.craq_seat.specs.Cells.{Celled}
use Rattle.craq_seat.specs.Merge.{Journals}

-- the records of a journal, none if none is kept
abbrev pub records_in : {E : Type 0} → Option (List (Record E)) → List (Record E)
records_in None = []
records_in (Some rs) = rs

-- a node's id and its records
abbrev pub kept_of : {C : Type 0} → Celled C Event → ℕ × List (Record Event)
kept_of c = (id_of c, records_in c.journal)

-- the journals of a master's cell and of nodes' cells
abbrev pub journals_of : {C : Type 0} → Celled Mastered BookEvent → List (Celled C Event) → Journals
journals_of {C} book cells =
    record {
      members = members_of book.opening.config;
      book = records_in book.journal;
      nodes = map (λ (c : Celled C Event). kept_of c) cells;
    }

-- each message that arrived was sent
abbrev pub AreSent : Journals → Type 0
AreSent j = AllByRecursion (λ (n : ℕ × List (Record Event)). AllByRecursion (HasSender j) n.1) j.nodes
