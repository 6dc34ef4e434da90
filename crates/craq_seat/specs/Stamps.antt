-- The stamp of a cell's next step.
use Rattle.std.specs.Prelude.{ℕ, ◌+◌, ◌==◌, max, if◌then◌else◌, Result, Ok, Err}
use Rattle.craq_names.specs.Limits.{greatest}
use Rattle.craq_names.specs.declared.refusal.Refusal.{Refusal}
use Rattle.craq_names.specs.declared.refusal.Refusal.TheVariants.{Exhausted}
use Rattle.craq_model.specs.declared.ask.Event.{Event}
use Rattle.craq_model.specs.declared.ask.Event.TheVariants as events
use Rattle.craq_seat.specs.declared.journal.BookEvent.{BookEvent}
use Rattle.craq_seat.specs.declared.journal.BookEvent.TheVariants as books

-- the stamp of an event: a message has that of its sending
abbrev pub event_stamp : Event → ℕ
event_stamp (events.Ask ask) = 0
event_stamp (events.Deliver m) = m.stamp
event_stamp events.Tick = 0
event_stamp events.Stop = 0

-- the stamp of a master's event: a removal has that of the stop
abbrev pub book_stamp : BookEvent → ℕ
book_stamp (books.Join id) = 0
book_stamp (books.Remove stopped stop) = stop.stamp
book_stamp books.Tick = 0

-- the largest stamp that a cell has seen: its own, the pass, and that of the event
abbrev pub largest : ℕ → ℕ → ℕ → ℕ
largest own pass borne = max (max own pass) borne

-- 1 above the largest, if there is such a stamp
unfoldable pub next_stamp : ℕ → ℕ → ℕ → Result ℕ Refusal
next_stamp own pass borne = if largest own pass borne == greatest then Err Exhausted else Ok (largest own pass borne + 1)
