-- The journals of a chain, and their merge: all their steps by stamp and, under one stamp, by node.
use Rattle.std.specs.Prelude.{◌≡◌, ◌<◌, ◌⊎◌, ℕ, ◌+◌, ◌==◌, ◌&&◌, if◌then◌else◌, ⊤, List, [], ◌∷◌, ◌++◌, map, length, flat_map, IsPermutation}
use Rattle.craq_model.specs.declared.ask.Event.{Event}
use Rattle.craq_model.specs.declared.ask.Event.TheVariants as events
use Rattle.craq_model.specs.declared.message.LinkMessage.{LinkMessage}
use Rattle.craq_model.specs.declared.step.Step.{Step}
use Rattle.craq_runs.specs.declared.run.Move.{Move}
use Rattle.craq_runs.specs.declared.run.Move.TheVariants as moves
use Rattle.craq_runs.specs.declared.run.Run.{Run}
use Rattle.craq_runs.specs.Chain.{sent_in}
use Rattle.craq_seat.specs.declared.journal.BookEvent.{BookEvent}
use Rattle.craq_seat.specs.declared.journal.BookEvent.TheVariants as books
use Rattle.craq_seat.specs.declared.journal.Record.{Record}

-- the journals of a chain: its first members, the master's journal, and that of each node that ever
-- was a member
pub record Journals : Type 0 where
  pub members : List ℕ
  pub book : List (Record BookEvent)
  pub nodes : List (ℕ × List (Record Event))  -- by the nodes' ids

-- an event at a node, or at the master
pub data Happening : Type 0 where
  AtNode : (event : Event) → Happening
  AtMaster : (event : BookEvent) → Happening

-- a step of a chain
pub record MergedStep : Type 0 where
  pub node : ℕ  -- the node that took it; 0: the master
  pub stamp : ℕ
  pub event : Happening
  pub step : Step

-- the line of a node's record
abbrev pub node_line : ℕ → Record Event → MergedStep
node_line node r = record { node = node; stamp = r.stamp; event = AtNode r.event; step = r.step }

-- the line of a master's record
abbrev pub book_line : Record BookEvent → MergedStep
book_line r = record { node = 0; stamp = r.stamp; event = AtMaster r.event; step = r.step }

-- the lines of all records: the master's, then each node's
abbrev pub all_lines : Journals → List MergedStep
all_lines j = map book_line j.book ++ flat_map (λ n. map (node_line n.0) n.1) j.nodes

-- one line precedes another
abbrev pub IsBefore : MergedStep → MergedStep → Type 0
IsBefore a b = (a.stamp < b.stamp) ⊎ ((a.stamp ≡ b.stamp) × (a.node < b.node))

-- each line precedes the next
abbrev pub AreInOrder : List MergedStep → Type 0
AreInOrder [] = ⊤
AreInOrder (a ∷ []) = ⊤
AreInOrder (a ∷ b ∷ ls) = IsBefore a b × AreInOrder (b ∷ ls)

-- the merge of journals: all their steps, in order
pub record IsMerge (j : Journals) (lines : List MergedStep) : Type 0 where
  pub all : IsPermutation (all_lines j) lines
  pub order : AreInOrder lines

-- the number of a message, from 1, among all messages sent in these steps: after those of earlier
-- steps, and after those before it in its own
unfoldable pub number_among : List MergedStep → LinkMessage → ℕ
number_among [] m = 0
number_among (l ∷ ls) m =
    if (l.node == m.sender) && (l.stamp == m.stamp) then m.index + 1 else length (sent_in l.step.outs) + number_among ls m

-- the event as a move of the run that these steps make
abbrev pub move_among : List MergedStep → ℕ → Happening → Move
move_among lines node (AtNode (events.Ask ask)) = moves.Ask node ask
move_among lines node (AtNode (events.Deliver m)) = moves.Deliver (number_among lines m)
move_among lines node (AtNode events.Tick) = moves.Tick node
move_among lines node (AtNode events.Stop) = moves.Stop node
move_among lines node (AtMaster (books.Join id)) = moves.Join id
move_among lines node (AtMaster (books.Remove stopped stop)) = moves.Remove stopped.node
move_among lines node (AtMaster books.Tick) = moves.Tick 0

-- the run of these steps, from the first members
abbrev pub run_of : List ℕ → List MergedStep → Run
run_of members lines =
    record {
      members = members;
      moves = map (λ (l : MergedStep). record { chosen = move_among lines l.node l.event; step = l.step }) lines;
    }
