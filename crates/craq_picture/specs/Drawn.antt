-- Defines the drawing of a run: where each move happens, and where each message was sent and
-- received.
use Rattle.std.specs.Prelude.{ℕ, zero, suc, ◌+◌, ◌==◌, Bool, false, true, if◌then◌else◌, List, [], ◌∷◌, ◌++◌, map, slice_index, length}
use Rattle.craq_model.specs.declared.step.Out.{Out}
use Rattle.craq_model.specs.declared.step.Out.TheVariants as outs
use Rattle.craq_runs.specs.declared.explanation.Explanation.{Explanation}
use Rattle.craq_runs.specs.declared.run.Move.{Move}
use Rattle.craq_runs.specs.declared.run.Move.TheVariants as moves
use Rattle.craq_runs.specs.declared.run.Run.{Run}
use Rattle.craq_runs.specs.declared.run.Taken.{Taken}
use Rattle.craq_runs.specs.Seen.{node_of}
use Rattle.craq_picture.specs.declared.drawing.MessageArrival.{MessageArrival}
use Rattle.craq_picture.specs.declared.drawing.Arrow.{Arrow}
use Rattle.craq_picture.specs.declared.drawing.Row.{Row}
use Rattle.craq_picture.specs.declared.drawing.SentMessage.{SentMessage}

-- the messages among the outputs of a row's move, after `earlier` messages and `place` outputs
abbrev pub sends_in : ℕ → ℕ → ℕ → List Out → List SentMessage
sends_in earlier row place [] = []
sends_in earlier row place (outs.Send to m ∷ os) =
    record { number = earlier + 1; row = row; place = place; from = m.sender; to = m.receiver } ∷ sends_in (earlier + 1) row (place + 1) os
sends_in earlier row place (outs.Answer ticket answer ∷ os) = sends_in earlier row (place + 1) os

-- the messages that moves send, the first of which is in this row, after `earlier` messages
abbrev pub sends_from : ℕ → ℕ → List Taken → List SentMessage
sends_from earlier row [] = []
sends_from earlier row (t ∷ ts) =
    let here = sends_in earlier row 0 t.step.outs in here ++ sends_from (earlier + length here) (row + 1) ts

-- a move that delivers the message of a number
abbrev pub delivers : ℕ → Move → Bool
delivers number (moves.Ask node ask) = false
delivers number (moves.Deliver delivered) = delivered == number
delivers number (moves.Tick node) = false
delivers number (moves.Stop node) = false
delivers number (moves.Remove node) = false
delivers number (moves.Join node) = false

-- the arrivals of the message of a number, by moves the first of which is in this row
abbrev pub arrivals_from : ℕ → ℕ → List Taken → List MessageArrival
arrivals_from number row [] = []
arrivals_from number row (t ∷ ts) =
    if delivers number t.chosen
    then record { row = row; ignored = t.step.ignored } ∷ arrivals_from number (row + 1) ts
    else arrivals_from number (row + 1) ts

-- a message with each of its arrivals
abbrev pub arrow_of : List Taken → SentMessage → Arrow
arrow_of ts sent = record { sent = sent; arrivals = arrivals_from sent.number 1 ts }

-- each message that was sent, with each of its arrivals
abbrev pub arrows_of : List Taken → List Arrow
arrows_of ts = map (arrow_of ts) (sends_from 0 1 ts)

-- the receiver of each message
abbrev pub receivers_of : List SentMessage → List ℕ
receivers_of = map (λ (sent : SentMessage). sent.to)

-- the node of each move, and the number of updates committed after it by the witness's lengths,
-- from index `place` of them on
abbrev pub rows_from : List ℕ → List ℕ → ℕ → List Taken → List Row
rows_from receivers lens place [] = []
rows_from receivers lens place (t ∷ ts) =
    record { node = node_of receivers t.chosen; committed = slice_index lens place } ∷ rows_from receivers lens (place + 1) ts

-- the nodes that moves add
abbrev pub joined_by : Move → List ℕ
joined_by (moves.Ask node ask) = []
joined_by (moves.Deliver number) = []
joined_by (moves.Tick node) = []
joined_by (moves.Stop node) = []
joined_by (moves.Remove node) = []
joined_by (moves.Join node) = node ∷ []

abbrev pub joined_in : List Taken → List ℕ
joined_in [] = []
joined_in (t ∷ ts) = joined_by t.chosen ++ joined_in ts

-- a move that happens at the master
abbrev pub is_at_master : Move → Bool
is_at_master (moves.Ask node ask) = false
is_at_master (moves.Deliver number) = false
is_at_master (moves.Tick node) = node == 0
is_at_master (moves.Stop node) = false
is_at_master (moves.Remove node) = true
is_at_master (moves.Join node) = true

-- the master, if one of these moves happens at it
abbrev pub master_in : List Taken → List ℕ
master_in [] = []
master_in (t ∷ ts) = if is_at_master t.chosen then 0 ∷ [] else master_in ts

-- the master if a move happens at it, the opening members, and each node that joined
abbrev pub columns_of : Run → List ℕ
columns_of run = (master_in run.moves ++ run.members) ++ joined_in run.moves
