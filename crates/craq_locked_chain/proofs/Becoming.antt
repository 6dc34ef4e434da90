-- One more step keeps a master that came from the opened one.
use Rattle.std.proofs.Common.{◌≡◌, ℕ, ◌++◌, [], ◌∷◌, Result, Ok, Err, refl, sym, subst}
use Rattle.craq_names.specs.declared.refusal.Refusal.{Refusal}
use Rattle.craq_model.specs.declared.step.Step.{Step}
use Rattle.craq_epochs.specs.Mastered.{Mastered}
use Rattle.craq_seat.specs.declared.journal.BookEvent.{BookEvent}
use Rattle.craq_seat.specs.declared.journal.Receipt.{Receipt}
use Rattle.craq_seat.specs.declared.journal.Record.{Record}
use Rattle.craq_seat.specs.Books.{book_step, first_master}
use Rattle.craq_seat.specs.Cells.{Celled, cell_step, recorded, stamped, with_record}
use Rattle.craq_seat.specs.Stamps.{book_stamp, next_stamp}
use Rattle.craq_seat.specs.Taken.{TakesTransition}
use Rattle.craq_seat.proofs.Taking.{replays_more}
use Rattle.craq_locked_chain.specs.Membered.{CanBecome}

-- the master of a cell came from the opened one
abbrev Comes : Celled Mastered BookEvent → Type 0
Comes c = CanBecome (first_master c.opening) c.inside

same : (wanted new : Celled Mastered BookEvent) (r : Result (Celled Mastered BookEvent) Refusal) → r ≡ Ok wanted → r ≡ Ok new → wanted ≡ new
same wanted new r a b = cc

after_record : (old new : Celled Mastered BookEvent) (stamp : ℕ) (event : BookEvent) (pass : ℕ) (r : Result (Mastered × Step) Refusal) → book_step old.inside event ≡ r → recorded old stamp event pass r ≡ Ok new → Comes old → Comes new
after_record old new stamp event pass (Ok t) took is c =
    let last : Record BookEvent = record { stamp = stamp; event = event; pass = pass; step = t.1 } in
    subst Comes (same (with_record old t.0 last) new (recorded old stamp event pass (Ok t)) refl is)
    (c.0 ++ last ∷ [], replays_more book_step (first_master old.opening) old.inside t.0 c.0 last c.1 took)
after_record old new stamp event pass (Err e) took is c = absurd cc

after_stamp : (old new : Celled Mastered BookEvent) (event : BookEvent) (pass : ℕ) (n : Result ℕ Refusal) → stamped book_step old event pass n ≡ Ok new → Comes old → Comes new
after_stamp old new event pass (Ok stamp) is c = after_record old new stamp event pass (book_step old.inside event) refl is c
after_stamp old new event pass (Err e) is c = absurd cc

after_step : (old new : Celled Mastered BookEvent) (event : BookEvent) (pass : ℕ) → cell_step book_step old event (book_stamp event) pass ≡ Ok new → Comes old → Comes new
unfolding cell_step
after_step old new event pass is c = after_stamp old new event pass (next_stamp old.stamp pass (book_stamp event)) is c

pub becomes : (old new : Celled Mastered BookEvent) (event : BookEvent) (pass : ℕ) (result : Result Receipt Refusal) → TakesTransition old new event pass result → CanBecome (first_master old.opening) old.inside → CanBecome (first_master new.opening) new.inside
becomes old new event pass (Ok receipt) h c = after_step old new event pass h.0 c
becomes old new event pass (Err e) h c = subst Comes (sym h.1) c
