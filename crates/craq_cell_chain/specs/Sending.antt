-- The messages that a step of a cell sent.
use Rattle.std.specs.Prelude.{◌≡◌, ◌≤◌, ⊤, List, ◌++◌, Option, Some, None, Result, Ok, Err}
use Rattle.craq_names.specs.declared.refusal.Refusal.{Refusal}
use Rattle.craq_names.specs.declared.refusal.Refusal.TheVariants as refusals
use Rattle.craq_model.specs.declared.message.LinkMessage.{LinkMessage}
use Rattle.craq_runs.specs.Chain.{sent_in}
use Rattle.craq_seat.specs.declared.journal.BookEvent.{BookEvent}
use Rattle.craq_seat.specs.declared.journal.BookEvent.TheVariants.{Join, Remove, Tick}
use Rattle.craq_seat.specs.declared.journal.Receipt.{Receipt}
use Rattle.craq_seat.specs.Numbered.{numbered_from}
use Rattle.craq_cell_chain.specs.declared.stepping.CellStep.{CellStep}

-- the messages of a step that a cell took, each named by the step's receipt
abbrev pub sent_of : CellStep → List LinkMessage
sent_of taken = numbered_from 0 taken.receipt (sent_in taken.step.outs)

-- the receipt of a step that was taken, or its refusal
abbrev pub receipt_in : Result CellStep Refusal → Result Receipt Refusal
receipt_in (Ok taken) = Ok taken.receipt
receipt_in (Err e) = Err e

-- the messages sent before and after a move: those of the step in addition; no more if no cell took
-- it or it was refused; and perhaps some more when out of memory
abbrev pub HasSent : List LinkMessage → List LinkMessage → Result (Option CellStep) Refusal → Type 0
HasSent old new (Ok (Some taken)) = new ≡ old ++ sent_of taken
HasSent old new (Ok None) = new ≡ old
HasSent old new (Err refusals.Memory) = (more : List LinkMessage) × (new ≡ old ++ more)
HasSent old new (Err refusal) = new ≡ old

-- a node that joins is not the master, which is 0
abbrev pub NamesNode : BookEvent → Type 0
NamesNode (Join id) = 1 ≤ id
NamesNode (Remove stopped stop) = ⊤
NamesNode Tick = ⊤
