-- An operation of a running store's client in the run that the store's history makes of its chain,
-- and in the explanation of that run.
use Rattle.std.specs.Prelude.{◌≡◌, ◌<◌, ◌≤◌, ℕ, List, ◌∷◌, ◌++◌, Some, Contains, length, slice_get, take}
use mathlib.Core.List.{IsPrefix}
use Rattle.craq_causality.specs.Causal.{AreFew}
use Rattle.craq_commands.specs.declared.command.Update.{Update}
use Rattle.craq_commands.specs.SingleCopy.{after}
use Rattle.craq_names.specs.declared.name.NodeName.{NodeName}
use Rattle.craq_model.specs.declared.ask.Answer.{Answer}
use Rattle.craq_model.specs.declared.ask.Ask.{Ask}
use Rattle.craq_model.specs.declared.ask.Ask.TheVariants as asks
use Rattle.craq_model.specs.declared.ask.Event.TheVariants as events
use Rattle.craq_model.specs.declared.step.Out.TheVariants as outs
use Rattle.craq_runs.specs.declared.explanation.Explanation.{Explanation}
use Rattle.craq_runs.specs.declared.explanation.Place.{Place}
use Rattle.craq_runs.specs.declared.run.Run.{Run}
use Rattle.craq_runs.specs.Explain.{explain}
use Rattle.craq_runs.specs.Seen.{Answered, Asked, Seen, ask_with, seen}
use Rattle.craq_runs.specs.Valid.{IsSaid, LookHolds, ReadAnswer, committed, committed_after, committed_before, look_by}
use Rattle.craq_seat.specs.Calls.{Called}
use Rattle.craq_seat.specs.Merge.{AtNode, MergedStep, run_of}
use Rattle.craq_store_history.specs.declared.entry.CallId.{CallId}
use Rattle.craq_store_history.specs.declared.entry.HistoryEntry.{HistoryEntry}
use Rattle.craq_store_history.specs.Chains.{IsHistory, WasCalled}
use Rattle.craq_store_history.specs.Entries.{lines_in, members_in}
use Rattle.craq_store_parts.specs.Recorded.{HasAccepted}
use Rattle.craq_store_parts.specs.Witnessed.{IsWitnessed}
use Rattle.craq_updates.specs.ValidEntries.{IsBeginning}

-- the run that the history makes of a chain with these first members
abbrev pub run_in : ℕ → List ℕ → List HistoryEntry → Run
run_in chain members log = run_of members (lines_in chain log)

-- in the lines of its chain the node accepted the request under the receipt's ticket, after all
-- lines of `old`; and it gave the receipt's answer under that ticket, in a line that is among those
-- of `new`. The receipt has the stamps of both lines
pub record IsCallInHistory (old new : List HistoryEntry) (node : NodeName) (ask : Ask) (receipt : Called) (log : List HistoryEntry) : Type 0 where
  pub members : List ℕ
  pub opened : members_in node.chain log ≡ Some members
  pub asked_place : ℕ
  pub asked : MergedStep
  pub asked_at : slice_get (lines_in node.chain log) asked_place ≡ Some asked
  pub asked_node : asked.node ≡ node.node
  pub asked_stamp : asked.stamp ≡ receipt.call.asked.stamp
  pub event : asked.event ≡ AtNode (events.Ask ask)
  pub ticket : asked.step.ticket ≡ Some receipt.call.ticket
  pub later : length (lines_in node.chain old) ≤ asked_place
  pub answered_place : ℕ
  pub answered : MergedStep
  pub answered_at : slice_get (lines_in node.chain log) answered_place ≡ Some answered
  pub answered_node : answered.node ≡ node.node
  pub stamp : answered.stamp ≡ receipt.answered.stamp
  pub out : Contains answered.step.outs (outs.Answer receipt.call.ticket receipt.answer)
  pub by_then : answered_place < length (lines_in node.chain new)

-- clients see the request of a call at the move `asked` of a run, and its reply at the move
-- `answered`, no earlier; moves count from 1. The receipt's ticket ties both to the call: no other
-- request at the node has it, and the reply is given under it
pub record IsCallInRun (node : NodeName) (ask : Ask) (receipt : Called) (asked answered : ℕ) (run : Run) : Type 0 where
  pub is_ask : ask_with (seen run).asks node.node receipt.call.ticket ≡ Some (record { move = asked; node = node.node; ticket = Some receipt.call.ticket; ask = ask })
  pub only : (other : Asked) → Contains (seen run).asks other → other.node ≡ node.node → other.ticket ≡ Some receipt.call.ticket → other.move ≡ asked
  pub is_answer : Contains (seen run).answers (record { move = answered; node = node.node; ticket = receipt.call.ticket; answer = receipt.answer })
  pub in_order : asked ≤ answered

-- ---- operations, and the list that explains their replies

-- an operation of a client: its request at a node, and the reply with its receipt. The client had
-- seen the history `old` before, and has seen `new` since
pub record Operation : Type 0 where
  pub old : List HistoryEntry
  pub node : NodeName
  pub ask : Ask
  pub answer : Answer
  pub receipt : Called
  pub new : List HistoryEntry

-- the client made this call and got this reply, as the history shows: `Client::call` ensures it
abbrev pub IsOperationOf : ℕ → Operation → Type 0
IsOperationOf client o = IsWitnessed client o.old o.node o.ask o.answer o.receipt o.new

-- in this history the client made a call of the operation's request, and the node accepted it as the
-- receipt says: under its ticket and its stamp, with its pass
pub record IsAcceptedIn (client : ℕ) (o : Operation) (log : List HistoryEntry) : Type 0 where
  pub call : CallId
  pub caller : call.client ≡ client
  pub made : WasCalled log call o.node o.ask
  pub accepted : HasAccepted log o.node call o.receipt.call

-- a store's history in which the chain was opened with these first members, and has fewer than
-- 2 ^ 64 steps and messages
pub record HasChain (chain : ℕ) (members : List ℕ) (log : List HistoryEntry) : Type 0 where
  pub history : IsHistory log
  pub opened : members_in chain log ≡ Some members
  pub few : AreFew (lines_in chain log)

-- the clients' view of the chain's run
abbrev pub view_of_chain : ℕ → List ℕ → List HistoryEntry → Seen
view_of_chain chain members log = seen (run_in chain members log)

-- the explanation of the chain's run, with the commit index before and after each move
abbrev pub explanation_of_chain : ℕ → List ℕ → List HistoryEntry → Explanation
explanation_of_chain chain members log = explain chain (run_in chain members log)

-- the chain's list: the committed updates, in order
abbrev pub updates_of_chain : ℕ → List ℕ → List HistoryEntry → List Update
updates_of_chain chain members log = committed (view_of_chain chain members log) (explanation_of_chain chain members log)

-- in this history a client made a call of this update, at a node of the chain
pub record WasAsked (chain : ℕ) (log : List HistoryEntry) (update : Update) : Type 0 where
  pub node : NodeName
  pub call : CallId
  pub of_chain : node.chain ≡ chain
  pub made : WasCalled log call node (asks.Update update)

-- the request of an operation is the move `asked` of its chain's run, and its reply is given in the
-- move `answered`. The node accepted this very call under the receipt's ticket (`IsWitnessed`), so
-- `is_call` ties the numbers to this request and to this reply. The request follows all moves that
-- the client had seen before, and the reply is among those that it has seen since
pub record HasMoves (o : Operation) (members : List ℕ) (log : List HistoryEntry) : Type 0 where
  pub asked : ℕ  -- the number of the move, from 1
  pub answered : ℕ
  pub is_call : IsCallInRun o.node o.ask o.receipt asked answered (run_in o.node.chain members log)
  pub is_answer : o.receipt.answer ≡ o.answer
  pub later : length (lines_in o.node.chain o.old) < asked
  pub by_then : answered ≤ length (lines_in o.node.chain o.new)

-- the linearization point of an operation's reply: after this many updates
abbrev pub point_at : Operation → ℕ → Place
point_at o position = record { node = o.node.node; ticket = o.receipt.call.ticket; position = position }

-- a single copy gives this reply after the first `position` updates of the chain's list: after all
-- that were committed before the request, and none that were not committed when the reply was given.
-- The explanation has this point for the reply
pub record AnswersAsOneCopy (o : Operation) (members : List ℕ) (log : List HistoryEntry) : Type 0 where
  pub moves : HasMoves o members log
  pub position : ℕ
  pub is_point : Contains (explanation_of_chain o.node.chain members log).places (point_at o position)
  pub not_before : committed_before (explanation_of_chain o.node.chain members log) moves.asked ≤ position
  pub not_beyond : position ≤ committed_after (explanation_of_chain o.node.chain members log) moves.answered
  pub is_said : IsSaid (after (take position (updates_of_chain o.node.chain members log))) o.ask o.answer

-- the reply of an operation, given at this move
abbrev pub reply_at : Operation → ℕ → Answered
reply_at o move = record { move = move; node = o.node.node; ticket = o.receipt.call.ticket; answer = o.answer }

-- the operation is a read, and its reply meets the guarantee of its mode, beside the replies that
-- the run has before it (`LookHolds`: `IsEventual` of an eventual read, `IsBounded` of a bounded one)
pub record AnswersByMode (o : Operation) (members : List ℕ) (log : List HistoryEntry) : Type 0 where
  pub moves : HasMoves o members log
  pub read : ReadAnswer
  pub is_read : look_by o.ask o.answer ≡ Some read
  pub holds : (earlier rest : List Answered) → earlier ++ reply_at o moves.answered ∷ rest ≡ (view_of_chain o.node.chain members log).answers
      → LookHolds (view_of_chain o.node.chain members log) (explanation_of_chain o.node.chain members log) earlier (reply_at o moves.answered) read.mode read

-- the chain's list in one history is a prefix of its list in another; and so are the commit indexes
-- and the linearization points
pub record ListGrows (chain : ℕ) (members : List ℕ) (log more : List HistoryEntry) : Type 0 where
  pub updates : IsPrefix (updates_of_chain chain members log) (updates_of_chain chain members more)
  pub kept : IsBeginning (explanation_of_chain chain members log) (explanation_of_chain chain members more)
