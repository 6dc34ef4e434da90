-- Replies of a store's request handler.
use Rattle.std.specs.Prelude.{◌≡◌, ◌⊎◌, ℕ, List, [], ◌∷◌, ◌++◌, max}
use Rattle.craq_names.specs.declared.name.NodeName.{NodeName}
use Rattle.craq_names.specs.declared.refusal.Refusal.{Refusal}
use Rattle.craq_names.specs.declared.refusal.Refusal.TheVariants.{BadFrame, Memory}
use Rattle.craq_commands.specs.Evaluation.{chain_of_first}
use Rattle.craq_model.specs.Asks.{asked_objects}
use Rattle.craq_model.specs.declared.ask.Answer.{Answer}
use Rattle.craq_model.specs.declared.ask.Answer.TheVariants as answers
use Rattle.craq_model.specs.declared.ask.Ask.{Ask}
use Rattle.craq_model.specs.declared.ask.Ask.TheVariants as asks
use Rattle.craq_frames.specs.declared.ask.ClientMessage.{ClientMessage}
use Rattle.craq_frames.specs.declared.ask.ClientMessage.TheVariants as messages
use Rattle.craq_frames.specs.declared.answer.ClientReply.{ClientReply}
use Rattle.craq_frames.specs.declared.answer.ClientReply.TheVariants as replies
use Rattle.craq_frames.specs.Allowed.{IsAllowed}
use Rattle.craq_seat.specs.Calls.{Called}
use Rattle.craq_event_loop.specs.declared.door_calls.ReceiptPolicy.{ReceiptPolicy}
use Rattle.craq_event_loop.specs.declared.door_calls.ReceiptPolicy.TheVariants.{KeepAll, KeepNone}

-- the message that asks a node with this pass
abbrev pub message_of : ℕ → ℕ → Ask → ClientMessage
message_of node pass (asks.Update update) = messages.Update node pass update
message_of node pass (asks.Read mode object) = messages.Read node pass mode object

-- the reply with an answer and a pass
abbrev pub reply_of : ℕ → Answer → ClientReply
reply_of pass (answers.Update reply) = replies.Update pass reply
reply_of pass (answers.Read version value) = replies.Read pass version value

-- the message asks what the call asked, with the pass that the call showed, and the reply has the call's answer, with the
-- larger of that pass and the answer's stamp
pub record IsReplyOf (message : ClientMessage) (reply : ClientReply) (c : Called) : Type 0 where
  pub asked : message ≡ message_of c.call.asked.node c.call.pass c.call.ask
  pub answered : reply ≡ reply_of (max c.call.pass c.answered.stamp) c.answer

-- the receipts that a door still has as a turn begins: those of earlier turns, if they are kept
abbrev pub kept : ReceiptPolicy → List Called → List Called
kept KeepAll receipts = receipts
kept KeepNone receipts = []

-- the reply is that of a call whose receipt came in this turn: it stands behind those that the door had
abbrev pub IsCalled : List Called → ClientMessage → ClientReply → List Called → Type 0
IsCalled old message reply new = (c : Called) × (IsReplyOf message reply c × (new ≡ old ++ c ∷ []))

-- the reply to a message that is not refused: that of an update or a read is the reply of a call; a status is given where it is
-- asked for, has a text of the store, and is no call
abbrev pub IsReplied : (List ℕ → Type 0) → List Called → ClientMessage → ClientReply → List Called → Type 0
IsReplied tells old message (replies.Update pass reply) new = IsCalled old message (replies.Update pass reply) new
IsReplied tells old message (replies.Read pass version value) new = IsCalled old message (replies.Read pass version value) new
IsReplied tells old message (replies.Status text) new = (message ≡ messages.Status) × tells text × (new ≡ old)
IsReplied tells old message (replies.Refused refusal) new = ⊥

-- a node of the chain of an ask's first object
abbrev pub name_of : ℕ → Ask → NodeName
name_of node ask = record { chain = chain_of_first (asked_objects ask); node = node }

-- the refusals of a call at a node, with a pass
abbrev pub Refusing : Type 1
Refusing = NodeName → ℕ → Ask → Refusal → Type 0

-- refuses only when out of memory
abbrev pub for_memory : Refusing
for_memory node pass ask e = e ≡ Memory

-- a status is refused when out of memory; or as BadFrame, where a text of the store is too long for a reply
abbrev pub IsStatusRefused : (List ℕ → Type 0) → Refusal → Type 0
IsStatusRefused tells e = (e ≡ Memory) ⊎ ((e ≡ BadFrame) × ((text : List ℕ) × tells text × (¬ IsAllowed (replies.Status text))))

-- the refusals of a message: of a call those with which it may be refused, or those of a status
abbrev pub MayReplyRefused : (List ℕ → Type 0) → Refusing → ClientMessage → Refusal → Type 0
MayReplyRefused tells refuses (messages.Update node pass update) e = refuses (name_of node (asks.Update update)) pass (asks.Update update) e
MayReplyRefused tells refuses (messages.Read node pass mode object) e = refuses (name_of node (asks.Read mode object)) pass (asks.Read mode object) e
MayReplyRefused tells refuses messages.Status e = IsStatusRefused tells e

-- a turn of a door that has these receipts as it begins. No receipt came of a message that is refused
abbrev pub IsAnswered : (List ℕ → Type 0) → Refusing → List Called → ClientMessage → ClientReply → List Called → Type 0
IsAnswered tells refuses old message (replies.Refused refusal) new = MayReplyRefused tells refuses message refusal × (new ≡ old)
IsAnswered tells refuses old message reply new = IsReplied tells old message reply new

-- a turn of a request handler that keeps its receipts or not. A status has a text of the store, and a call is refused as it may be
abbrev pub IsTurn : (List ℕ → Type 0) → Refusing → ReceiptPolicy → List Called → ClientMessage → ClientReply → List Called → Type 0
IsTurn tells refuses policy old message reply new = IsAnswered tells refuses (kept policy old) message reply new
