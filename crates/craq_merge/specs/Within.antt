-- The calls of clients in a merge.
use Rattle.std.specs.Prelude.{◌≡◌, ◌<◌, ◌≤◌, ℕ, zero, suc, List, Option, Some, None, slice_get, Contains}
use Rattle.std.specs.List.{AllByRecursion}
use Rattle.craq_model.specs.declared.ask.Event.{Event}
use Rattle.craq_runs.specs.declared.run.Run.{Run}
use Rattle.craq_runs.specs.Seen.{Asked, Answered, ask_with, seen}
use Rattle.craq_seat.specs.declared.journal.Receipt.{Receipt}
use Rattle.craq_seat.specs.declared.journal.Record.{Record}
use Rattle.craq_seat.specs.Calls.{Called}
use Rattle.craq_seat.specs.Merge.{AtNode, Journals, MergedStep}
use Rattle.craq_causality.specs.Causal.{IsOfType}

-- each requested transaction in these journals is within the limits of its type
abbrev pub AreAsksOfType : Journals → Type 0
AreAsksOfType j =
    AllByRecursion (λ (n : ℕ × List (Record Event)). AllByRecursion (λ (r : Record Event). IsOfType (AtNode r.event)) n.1) j.nodes

-- the line of a number, counted from 1
abbrev pub line_at : List MergedStep → ℕ → Option MergedStep
line_at lines zero = None
line_at lines (suc i) = slice_get lines i

-- the move of this number is the step that the receipt names
abbrev pub IsMoveOf : List MergedStep → Receipt → ℕ → Type 0
IsMoveOf lines receipt move = (l : MergedStep) × (line_at lines move ≡ Some l) × (l.node ≡ receipt.node) × (l.stamp ≡ receipt.stamp)

-- a call as clients see it, requested and answered by the moves of these numbers
abbrev pub ask_of_call : Called → ℕ → Asked
ask_of_call c move = record { move = move; node = c.call.asked.node; ticket = Some c.call.ticket; ask = c.call.ask }

-- a call's reply as clients see it, given by the move of this number
abbrev pub run_answer_of_call : Called → ℕ → Answered
run_answer_of_call c move = record { move = move; node = c.call.asked.node; ticket = c.call.ticket; answer = c.answer }

-- a call is a request and its reply in the run of these lines, and its request follows each step
-- that its pass covers
pub record IsWithin (lines : List MergedStep) (run : Run) (c : Called) : Type 0 where
  pub asked : ℕ  -- the number of the move
  pub answered : ℕ
  pub is_ask : ask_with (seen run).asks c.call.asked.node c.call.ticket ≡ Some (ask_of_call c asked)
  pub is_answer : Contains (seen run).answers (run_answer_of_call c answered)
  pub asked_as : IsMoveOf lines c.call.asked asked
  pub answered_as : IsMoveOf lines c.answered answered
  pub in_order : c.call.asked.stamp ≤ c.answered.stamp → asked ≤ answered
  pub covered : (move : ℕ) (l : MergedStep) → line_at lines move ≡ Some l → l.stamp ≤ c.call.pass → move < asked
