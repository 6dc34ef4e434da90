-- The conditions for a pending request, for its reply, and for a message about a version.
use Rattle.std.proofs.Common.{◌≡◌, ◌⊎◌, ℕ, ◌+◌, ◌-◌, ◌≤◌, ◌==◌, true, ◌&&◌, List, ◌∷◌, length, take, find, slice_index, Option, Some}
use Rattle.craq_names.specs.declared.name.ObjectId.{ObjectId}
use Rattle.craq_commands.specs.declared.command.Update.{Update}
use Rattle.craq_commands.specs.declared.entry.Entry.{Entry}
use Rattle.craq_commands.specs.declared.reply.Reply.{Reply}
use Rattle.craq_commands.specs.declared.read_mode.ReadMode.TheVariants.{Strong, Eventual, Bounded}
use Rattle.craq_commands.specs.Objects.{object_of, version_of}
use Rattle.craq_commands.specs.declared.state.State.{State}
use Rattle.craq_commands.specs.SingleCopy.{opening_state, after_entries, said}
use Rattle.craq_model.specs.declared.ask.Ask.{Ask}
use Rattle.craq_model.specs.declared.ask.Ask.TheVariants as asks
use Rattle.craq_model.specs.declared.ask.Answer.{Answer}
use Rattle.craq_model.specs.declared.ask.Answer.TheVariants as answers
use Rattle.craq_model.specs.declared.message.LinkMessage.{LinkMessage}
use Rattle.craq_model.specs.declared.waiting.WaitingUpdate.{WaitingUpdate}
use Rattle.craq_model.specs.declared.waiting.WaitingRead.{WaitingRead}
use Rattle.craq_protocol.specs.Machine.{MachineState}
use Rattle.craq_protocol.specs.Promises.{IsPrefix}
use Rattle.craq_runs.specs.declared.explanation.Place.{Place}
use Rattle.craq_runs.specs.Seen.{Asked, ask_with}
use Rattle.craq_runs.specs.Explain.{Account}
use Rattle.craq_strong_answers.proofs.Outs.{Says}

-- the state after the first count entries
abbrev pub state_after : ℕ → List Entry → State
state_after count es = after_entries opening_state (take count es)

-- the number committed before a request
abbrev pub before : Account → Asked → ℕ
before a ask = slice_index (0 ∷ a.lens) (ask.move - 1)

-- the pending place of an update request
abbrev pub pending_of : List Place → ℕ → ℕ → Option Place
pending_of pending node ticket = find (λ (p : Place). (p.node == node) && (p.ticket == ticket)) pending

-- an update that waits: its place is reached with its position, and its reply is the single copy's
-- there
pub record PendingUpdate (a : Account) (w : MachineState Entry) (id : ℕ) (u : WaitingUpdate) : Type 0 where
  pub ready : w.ready id ≡ true
  pub ask : Asked
  pub update : Update
  pub is_ask : ask_with a.asks id u.ticket ≡ Some ask
  pub is : ask.ask ≡ asks.Update update
  pub place : Place
  pub pending : pending_of a.pending id u.ticket ≡ Some place
  pub not_before : before a ask ≤ place.position
  pub reached : (place.position ≤ u.position) ⊎ (place.position ≤ length w.log)
  pub held : place.position ≤ length (w.history id)
  pub is_said : said (state_after place.position (w.history id)) update.client update.number ≡ Some u.reply
  pub newest : u.position ≤ length (w.history id)
  pub is_newest : said (state_after u.position (w.history id)) update.client update.number ≡ Some u.reply

-- a strong read that was requested under a ticket
pub record AskedRead (a : Account) (id ticket : ℕ) (key : List ℕ) : Type 0 where
  pub ask : Asked
  pub object : ObjectId
  pub is_ask : ask_with a.asks id ticket ≡ Some ask
  pub is : ask.ask ≡ asks.Read Strong object
  pub key_is : object.key ≡ key

pub record PendingRead (a : Account) (w : MachineState Entry) (id : ℕ) (r : WaitingRead) : Type 0 where
  pub ready : w.ready id ≡ true
  pub asked : AskedRead a id r.ticket r.key

-- a version that was reported: the object's, after this number of committed updates
pub record ReportedVersion (a : Account) (w : MachineState Entry) (id ticket version sent : ℕ) : Type 0 where
  pub ask : Asked
  pub object : ObjectId
  pub is_ask : ask_with a.asks id ticket ≡ Some ask
  pub is : ask.ask ≡ asks.Read Strong object
  pub not_before : before a ask ≤ sent
  pub committed : sent ≤ length w.log
  pub version_is : version_of (state_after sent w.log).objects object.key ≡ version

-- a message, sent when this number was committed, is true
abbrev pub IsReported : Account → MachineState Entry → LinkMessage → ℕ → Type 0
IsReported a w m sent = Says (λ sender ticket key. AskedRead a sender ticket key) (λ receiver ticket version. ReportedVersion a w receiver ticket version sent) m.sender m.receiver m.body

-- ---- replies

pub record UpdateReported (a : Account) (w : MachineState Entry) (id ticket : ℕ) (ask : Asked) (u : Update) (reply : Reply) : Type 0 where
  pub place : Place
  pub pending : pending_of a.pending id ticket ≡ Some place
  pub not_before : before a ask ≤ place.position
  pub not_beyond : place.position ≤ length w.log
  pub is_said : said (state_after place.position w.log) u.client u.number ≡ Some reply
  pub known : ℕ
  pub acknowledged : known ≤ w.acknowledged id
  pub is_known : said (state_after known (w.history id)) u.client u.number ≡ Some reply

pub record StrongReported (a : Account) (w : MachineState Entry) (id position : ℕ) (ask : Asked) (object : ObjectId) (version : ℕ) (value : List ℕ) : Type 0 where
  pub not_before : before a ask ≤ position
  pub not_beyond : position ≤ length w.log
  pub begins : IsPrefix w.log (w.history id)
  pub is_said : object_of (state_after position w.log).objects object.key ≡ (version, value)

-- a reply from the node's whole history, or from a prefix of it
pub record HistoryReported (w : MachineState Entry) (id : ℕ) (object : ObjectId) (version : ℕ) (value : List ℕ) : Type 0 where
  pub begins : IsPrefix w.log (w.history id)
  pub is_said : object_of (after_entries opening_state (w.history id)).objects object.key ≡ (version, value)

pub record BeginningReported (w : MachineState Entry) (id k : ℕ) (object : ObjectId) (version : ℕ) (value : List ℕ) : Type 0 where
  pub begins : IsPrefix w.log (w.history id)
  pub count : ℕ
  pub short : count ≤ length (w.history id)
  pub is_said : object_of (state_after count (w.history id)).objects object.key ≡ (version, value)
  pub near : version ≤ version_of (after_entries opening_state w.log).objects object.key + k
  pub near_clean : version ≤ version_of (state_after (w.acknowledged id) (w.history id)).objects object.key + k
  pub most : (c : ℕ) → w.acknowledged id ≤ c → version_of (state_after c (w.history id)).objects object.key ≤ version_of (state_after (w.acknowledged id) (w.history id)).objects object.key + k
      → version_of (state_after c (w.history id)).objects object.key ≤ version

-- the properties that a request demands of its reply; a strong read has this place
abbrev pub Owed : Account → MachineState Entry → (List ℕ → ℕ) → ℕ → ℕ → Asked → Ask → Answer → Type 0
Owed a w position id ticket ask (asks.Update u) (answers.Update reply) = UpdateReported a w id ticket ask u reply
Owed a w position id ticket ask (asks.Update u) (answers.Read version value) = ⊥
Owed a w position id ticket ask (asks.Read mode object) (answers.Update reply) = ⊥
Owed a w position id ticket ask (asks.Read Strong object) (answers.Read version value) = StrongReported a w id (position object.key) ask object version value
Owed a w position id ticket ask (asks.Read Eventual object) (answers.Read version value) = HistoryReported w id object version value
Owed a w position id ticket ask (asks.Read (Bounded k) object) (answers.Read version value) = BeginningReported w id k object version value

-- a reply to the request of its ticket
pub record IsAnswer (a : Account) (w : MachineState Entry) (position : List ℕ → ℕ) (id ticket : ℕ) (answer : Answer) : Type 0 where
  pub ask : Asked
  pub is_ask : ask_with a.asks id ticket ≡ Some ask
  pub owed : Owed a w position id ticket ask ask.ask answer
