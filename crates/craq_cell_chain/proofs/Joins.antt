-- A node that joins is not the master.
use Rattle.std.proofs.Common.{◌≡◌, ◌≤◌, ℕ, Result, Ok, Err, refl, arith}
use Rattle.craq_names.specs.declared.refusal.Refusal.{Refusal}
use Rattle.craq_epochs.specs.Mastered.{Mastered, master_after_join}
use Rattle.craq_seat.specs.declared.journal.BookEvent.{BookEvent}
use Rattle.craq_seat.specs.declared.journal.BookEvent.TheVariants.{Join, Remove, Tick}
use Rattle.craq_seat.specs.Books.{book_step, tells}
use Rattle.craq_seat.specs.Cells.{Celled, cell_step, recorded, stamped}
use Rattle.craq_seat.specs.Stamps.{book_stamp, next_stamp}
use Rattle.craq_cell_chain.specs.Sending.{NamesNode}

joined_node : (m n : Mastered) (id : ℕ) → master_after_join m id ≡ Ok n → 1 ≤ id
unfolding master_after_join
joined_node m n id h = grind arith

by_join : (c new : Celled Mastered BookEvent) (id pass stamp : ℕ) (r : Result Mastered Refusal) → master_after_join c.inside id ≡ r → recorded c stamp (Join id) pass (tells r) ≡ Ok new → 1 ≤ id
by_join c new id pass stamp (Ok m) e h = joined_node c.inside m id e
by_join c new id pass stamp (Err x) e h = absurd (cc)

by_stamp : (c new : Celled Mastered BookEvent) (id pass : ℕ) (s : Result ℕ Refusal) → stamped book_step c (Join id) pass s ≡ Ok new → 1 ≤ id
by_stamp c new id pass (Ok stamp) h = by_join c new id pass stamp (master_after_join c.inside id) refl h
by_stamp c new id pass (Err x) h = absurd (cc)

-- an event at which a master took a step names a node
pub names_node : (old new : Celled Mastered BookEvent) (event : BookEvent) (pass : ℕ) → cell_step book_step old event (book_stamp event) pass ≡ Ok new → NamesNode event
unfolding cell_step
names_node old new (Join id) pass h = by_stamp old new id pass (next_stamp old.stamp pass 0) h
names_node old new (Remove stopped stop) pass h = tt
names_node old new Tick pass h = tt
