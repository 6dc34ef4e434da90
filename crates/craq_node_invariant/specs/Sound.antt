-- The invariant of a node, and which of its outputs have an encoding.
use Rattle.std.specs.Prelude.{◌≡◌, ◌≤◌, ⊤, ℕ, ◌+◌, T, true, false, List, [], ◌∷◌, length, Option, Some, None}
use Rattle.std.specs.List.{AllByRecursion}
use Rattle.std.specs.Ordering.{nat_cmp}
use Rattle.std.specs.FinMap.Entries.{is_sorted}
use Rattle.craq_names.specs.Maps.{key_cmp}
use Rattle.craq_commands.specs.declared.command.Command.{Command}
use Rattle.craq_commands.specs.declared.command.Command.TheVariants.{Put, TestAndSet, Append, Prepend, Increment, Decrement, Mini}
use Rattle.craq_commands.specs.Kept.{Window}
use Rattle.craq_commands.specs.declared.entry.Entry.{Entry}
use Rattle.craq_commands.specs.declared.state.State.{State}
use Rattle.craq_commands.specs.Transaction.{IsWithinLimits}
use Rattle.craq_model.specs.declared.ask.Answer.{Answer}
use Rattle.craq_model.specs.declared.ask.Answer.TheVariants as answers
use Rattle.craq_model.specs.declared.ask.Ask.{Ask}
use Rattle.craq_model.specs.declared.ask.Ask.TheVariants as asks
use Rattle.craq_model.specs.declared.ask.Event.{Event}
use Rattle.craq_model.specs.declared.ask.Event.TheVariants as events
use Rattle.craq_model.specs.declared.step.Out.{Out}
use Rattle.craq_model.specs.declared.step.Out.TheVariants as outs
use Rattle.craq_model.specs.declared.waiting.WaitingRead.{WaitingRead}
use Rattle.craq_model.specs.declared.waiting.WaitingUpdate.{WaitingUpdate}
use Rattle.craq_model.specs.declared.gathering.Gathering.{Gathering}
use Rattle.craq_model.specs.Deliveries.{are_applicable}
use Rattle.craq_model.specs.Parts.{joined_state}
use Rattle.craq_model.specs.Plain.{Plain, id_of, length_of}
use Rattle.craq_model.specs.Encodable.{IsObjectRead, IsReply, IsEncodable, IsEncodableEntry, IsEncodableWindow}

-- a state that has an encoding if its counts fit
pub record IsSoundState (s : State) : Type 0 where
  pub versions : AllByRecursion (λ (o : List ℕ × (ℕ × List ℕ)). 1 ≤ o.1.0) s.objects  -- each object in the list was written
  pub windows : AllByRecursion (λ (k : ℕ × Window). IsEncodableWindow k.1) s.kept  -- each client has 1 to 8 kept replies, to updates that were new
  pub keys_rise : T (is_sorted key_cmp s.objects)  -- the keys are strictly increasing
  pub clients_rise : T (is_sorted nat_cmp s.kept)  -- the clients are strictly increasing

-- consecutive entries: their positions go up one by one from this one
abbrev pub AreInRow : ℕ → List Entry → Type 0
AreInRow position [] = ⊤
AreInRow position (e ∷ es) = (e.position ≡ position) × AreInRow (position + 1) es

-- the gathered parts of a state are in order, and together they are a state with an encoding
pub record IsSoundGathering (g : Gathering) : Type 0 where
  pub numbers_rise : T (is_sorted nat_cmp g.parts)
  pub state : IsSoundState (joined_state g.parts)

abbrev pub IsSoundIfAny : Option Gathering → Type 0
IsSoundIfAny None = ⊤
IsSoundIfAny (Some g) = IsSoundGathering g

-- the invariant of a node
pub record IsSound (p : Plain) : Type 0 where
  pub own : 1 ≤ id_of p  -- 0 is the master's id
  pub ids : AllByRecursion (λ (id : ℕ). 1 ≤ id) p.members  -- no member is the master
  pub unknown : p.epoch ≡ 0 → p.members ≡ []  -- before its first membership it knows no members
  pub known : 1 ≤ p.epoch → 1 ≤ length p.members  -- a membership is not empty
  pub in_epoch : p.ready ≡ true → 1 ≤ p.epoch  -- a ready node has a membership
  pub idle_updates : p.ready ≡ false → p.waiting_updates ≡ []  -- a node that is not ready accepts no requests: no update waits
  pub idle_reads : p.ready ≡ false → p.waiting_reads ≡ []  -- and no read waits
  pub based : p.past.base ≤ p.past.acknowledged  -- entries that only its state represents are committed
  pub within : p.past.acknowledged ≤ length_of p  -- it holds its committed entries
  pub state : IsSoundState p.past.base_state  -- the state before its entries
  pub entries : AllByRecursion IsEncodableEntry p.past.entries  -- each may be sent again
  pub placed : AreInRow (p.past.base + 1) p.past.entries  -- consecutive entries are sent as one message
  pub applicable : are_applicable p.past.base_state p.past.entries ≡ true  -- each writes the next versions of its objects, under a new request number
  pub gathering : IsSoundIfAny p.gathering  -- the gathered state may replace its history
  pub replies : AllByRecursion (λ (u : WaitingUpdate). IsReply u.reply) p.waiting_updates  -- each waiting update has a valid reply
  pub tickets : AllByRecursion (λ (r : WaitingRead). 1 ≤ r.ticket) p.waiting_reads  -- tickets count from 1

-- a command whose transaction is within its limits
abbrev pub IsEncodableCommand : Command → Type 0
IsEncodableCommand (Put object value) = ⊤
IsEncodableCommand (TestAndSet object expect value) = ⊤
IsEncodableCommand (Append object value) = ⊤
IsEncodableCommand (Prepend object value) = ⊤
IsEncodableCommand (Increment object by) = ⊤
IsEncodableCommand (Decrement object by) = ⊤
IsEncodableCommand (Mini t) = IsWithinLimits t

abbrev pub IsEncodableAsk : Ask → Type 0
IsEncodableAsk (asks.Update u) = IsEncodableCommand u.command
IsEncodableAsk (asks.Read mode object) = ⊤

-- the event has an encoding
abbrev pub IsEncodableEvent : Event → Type 0
IsEncodableEvent (events.Ask ask) = IsEncodableAsk ask
IsEncodableEvent (events.Deliver m) = IsEncodable m
IsEncodableEvent events.Tick = ⊤
IsEncodableEvent events.Stop = ⊤

-- a reply that has an encoding: an absent object has no bytes
abbrev pub IsEncodableAnswer : Answer → Type 0
IsEncodableAnswer (answers.Update reply) = IsReply reply
IsEncodableAnswer (answers.Read version value) = IsObjectRead (version, value)

-- the message has an encoding, and goes to its receiver
abbrev pub IsEncodableOut : Out → Type 0
IsEncodableOut (outs.Send to m) = IsEncodable m × (to ≡ m.receiver)
IsEncodableOut (outs.Answer ticket answer) = IsEncodableAnswer answer

-- all outs of a step have an encoding
abbrev pub AreEncodable : List Out → Type 0
AreEncodable os = AllByRecursion IsEncodableOut os
