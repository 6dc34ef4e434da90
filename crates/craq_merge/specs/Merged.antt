-- Cells whose merged journals are a run.
use Rattle.std.specs.Prelude.{◌≡◌, ℕ, List, map}
use Rattle.std.specs.List.{AllByRecursion}
use Rattle.craq_model.specs.declared.ask.Event.{Event}
use Rattle.craq_model.specs.Plain.{Plain}
use Rattle.craq_epochs.specs.Mastered.{Mastered}
use Rattle.craq_seat.specs.declared.journal.BookEvent.{BookEvent}
use Rattle.craq_seat.specs.declared.journal.Record.{Record}
use Rattle.craq_seat.specs.Audits.{AreKept, AreOfChain, HasSender}
use Rattle.craq_seat.specs.Books.{IsBook}
use Rattle.craq_seat.specs.Cells.{Celled}
use Rattle.craq_seat.specs.Kept.{IsKept}
use Rattle.craq_seat.specs.Merge.{Journals, MergedStep, book_line, node_line}
use Rattle.craq_causality.specs.Authors.{lines_of}
use Rattle.craq_causality.specs.Causal.{AreFew}

-- the cells of a chain that keep these journals, in which each message that arrived was sent
pub record AreSeated {C : Type 0} (represents : C → Plain → Type 0) (book : Celled Mastered BookEvent) (cells : List (Celled C Event)) (j : Journals) : Type 0 where
  pub master : IsBook book
  pub nodes : AllByRecursion (λ (c : Celled C Event). IsKept represents c) cells
  pub journals : AreKept book cells j
  pub chain : AreOfChain book cells j
  pub sent : AllByRecursion (λ (n : ℕ × List (Record Event)). AllByRecursion (HasSender j) n.1) j.nodes

-- there are numbers for all these steps and for all their messages
abbrev pub CanBeNumbered : List MergedStep → Type 0
CanBeNumbered lines = AreFew lines

-- each journal has its author's lines among these
pub record AreOfLines (j : Journals) (lines : List MergedStep) : Type 0 where
  pub master : lines_of 0 lines ≡ map book_line j.book
  pub nodes : AllByRecursion (λ (n : ℕ × List (Record Event)). lines_of n.0 lines ≡ map (node_line n.0) n.1) j.nodes
