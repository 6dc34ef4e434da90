-- Cells that keep journals.
use Rattle.std.proofs.Common.{◌≡◌, List, [], ◌∷◌, map, Option, Some, None, refl}
use Rattle.std.specs.Prelude.{IsSome}
use Rattle.std.specs.Option.{option_copied}
use Rattle.std.specs.List.{AllByRecursion}
use Rattle.std.specs.Borrow.{Bor}
use Rattle.craq_model.specs.declared.ask.Event.{Event}
use Rattle.craq_model.specs.Plain.{Plain}
use Rattle.craq_epochs.specs.Mastered.{Mastered}
use Rattle.craq_seat.specs.declared.journal.BookEvent.{BookEvent}
use Rattle.craq_seat.specs.declared.journal.Record.{Record}
use Rattle.craq_seat.specs.Audits.{AreJournalsOf}
use Rattle.craq_seat.specs.Cells.{Celled}
use Rattle.craq_seat.specs.Kept.{IsKept}
use Rattle.craq_audit.specs.Audited.{AllKeep}
use Rattle.craq_audit.specs.Journals.{kept_of, records_in}
use Rattle.craq_audit.specs.Lookups.{KeepsJournal, KeepsType, cells_of}

abbrev Lent : Type 0 → Type 0
Lent C = Bor (Celled C Event)

some_records : {E : Type 0} (o : Option (List (Record E))) → IsSome o → o ≡ Some (records_in o)
some_records None h = cc
some_records (Some rs) h = refl

records_some : {E : Type 0} (o : Option (List (Record E))) (rs : List (Record E)) → o ≡ Some rs → IsSome o
records_some None rs h = cc
records_some (Some xs) rs h = refl

nodes_kept : {C : Type 0} (cs : List (Lent C)) → AllByRecursion KeepsJournal cs → AreJournalsOf (cells_of cs) (map (λ (c : Celled C Event). kept_of c) (cells_of cs))
nodes_kept [] h = tt
nodes_kept (c ∷ cs) h = ((refl, some_records c.now.journal h.0), nodes_kept cs h.1)

nodes_keep : {C : Type 0} (cs : List (Lent C)) → AreJournalsOf (cells_of cs) (map (λ (c : Celled C Event). kept_of c) (cells_of cs)) → AllByRecursion KeepsJournal cs
nodes_keep [] h = tt
nodes_keep (c ∷ cs) h = (records_some c.now.journal (records_in c.now.journal) h.0.1, nodes_keep cs h.1)

pub all_kept : {C : Type 0} (book : Celled Mastered BookEvent) (cs : List (Lent C)) → IsSome book.journal → AllByRecursion KeepsJournal cs → AllKeep book (cells_of cs)
all_kept book cs on h = record { members = refl; master = some_records book.journal on; nodes = nodes_kept cs h }

pub book_keeps : {C : Type 0} (book : Celled Mastered BookEvent) (cs : List (Lent C)) → AllKeep book (cells_of cs) → IsSome book.journal
book_keeps book cs h = records_some book.journal (records_in book.journal) h.master

pub nodes_do : {C : Type 0} (book : Celled Mastered BookEvent) (cs : List (Lent C)) → AllKeep book (cells_of cs) → AllByRecursion KeepsJournal cs
nodes_do book cs h = nodes_keep cs h.nodes

pub types_kept : {C : Type 0} (R : C → Plain → Type 0) (cs : List (Lent C)) → AllByRecursion (KeepsType R) cs → AllByRecursion (λ (c : Celled C Event). IsKept R c) (cells_of cs)
types_kept R [] h = tt
types_kept R (c ∷ cs) h = (h.0, types_kept R cs h.1)

pub some_value : {X : Type 0} (o : Option (Bor X)) (j : Option X) → IsSome o → option_copied o ≡ j → IsSome j
some_value None j h e = cc
some_value (Some x) None h e = cc
some_value (Some x) (Some y) h e = refl
