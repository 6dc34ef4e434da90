-- A step of a node's cell on an event, and of a master's.
use Rattle.std.specs.Prelude.{⊤, ℕ, IsOk, Result, Ok, Err}
use Rattle.craq_names.specs.Order.{RefusesWhere}
use Rattle.craq_names.specs.declared.refusal.Refusal.{Refusal}
use Rattle.craq_model.specs.declared.ask.Event.{Event}
use Rattle.craq_model.specs.declared.step.Step.{Step}
use Rattle.craq_model.specs.Node.{node_step}
use Rattle.craq_model.specs.Plain.{Plain}
use Rattle.craq_epochs.specs.Mastered.{Mastered}
use Rattle.craq_node.specs.Represented.{StepAnswers, uncounted_step}
use Rattle.craq_seat.specs.declared.journal.BookEvent.{BookEvent}
use Rattle.craq_seat.specs.declared.journal.Receipt.{Receipt}
use Rattle.craq_seat.specs.Books.{book_step}
use Rattle.craq_seat.specs.Cells.{CanWant, Celled, Takes, TakesFor, cell_step}
use Rattle.craq_seat.specs.Stamps.{book_stamp, event_stamp}

-- a core took its step or refused it, after memory was requested elsewhere: memory may have run out
-- before the core's step
abbrev pub AnswersAfter : (Plain → Type 0) → Plain → Event → Result Step Refusal → Type 0
AnswersAfter now old event (Ok step) = StepAnswers now old event (Ok step)
AnswersAfter now old event (Err e) = RefusesWhere ⊤ e (node_step old event) × now old

-- the cell of a core that stood for a plain node took the node's step, or refused it; without a
-- journal it is out of memory only where the node itself can be
abbrev pub TakesEvent : {C : Type 0} → (C → Plain → Type 0) → Celled C Event → Celled Plain Event → Event → ℕ → Result Receipt Refusal → Type 0
TakesEvent represents now old event pass result =
    TakesFor represents now old result (CanWant old (event_stamp event) pass (IsOk (uncounted_step old.inside event))) (cell_step node_step old event (event_stamp event) pass)

-- a master's cell took the master's step, or refused it; without a journal it is out of memory only
-- where a step is wanted
abbrev pub TakesTransition : Celled Mastered BookEvent → Celled Mastered BookEvent → BookEvent → ℕ → Result Receipt Refusal → Type 0
TakesTransition old new event pass result =
    Takes old new result (CanWant old (book_stamp event) pass (IsOk (book_step old.inside event))) (cell_step book_step old event (book_stamp event) pass)
