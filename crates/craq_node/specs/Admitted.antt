-- A node's refusals and ignored messages, before the rules of updates, reads and messages apply.
use Rattle.std.specs.Prelude.{◌≡◌, ◌<◌, ⊤, true, false, Bool, ◌==◌, ◌||◌, if◌then◌else◌, Result, Ok, Err}
use Rattle.craq_names.specs.Limits.{greatest}
use Rattle.craq_names.specs.declared.refusal.Refusal.{Refusal}
use Rattle.craq_names.specs.declared.refusal.Refusal.TheVariants as refusals
use Rattle.craq_commands.specs.SingleCopy.{said}
use Rattle.craq_model.specs.declared.ask.Ask.{Ask}
use Rattle.craq_model.specs.declared.ask.Ask.TheVariants as asks
use Rattle.craq_model.specs.declared.ask.Event.{Event}
use Rattle.craq_model.specs.declared.ask.Event.TheVariants as events
use Rattle.craq_model.specs.declared.message.Body.{Body}
use Rattle.craq_model.specs.declared.message.Body.TheVariants.{Config}
use Rattle.craq_model.specs.declared.message.LinkMessage.{LinkMessage}
use Rattle.craq_model.specs.Asks.{ask_transition, read_transition, update_transition}
use Rattle.craq_model.specs.Node.{event_transition, is_for}
use Rattle.craq_model.specs.Plain.{Plain, newest}
use Rattle.craq_model.specs.Settle.{Transition}

-- the result of the rules of updates, or of reads, for a request
abbrev pub ruled_transition : Plain → Ask → Result Transition Refusal
ruled_transition p (asks.Update u) = update_transition p u (said (newest p) u.client u.number)
ruled_transition p (asks.Read mode object) = read_transition p mode object.key

-- the request has a next ticket, and the node's step is that of the rules
pub record IsAdmittedAsk (p : Plain) (ask : Ask) : Type 0 where
  pub ticket : p.last_ticket < greatest
  pub ruled : ask_transition p ask ≡ ruled_transition p ask

-- a request is admitted, or refused as a running node refuses it
abbrev pub AdmitsAsk : Plain → Ask → Result Unit Refusal → Type 0
AdmitsAsk p ask (Ok u) = IsAdmittedAsk p ask
AdmitsAsk p ask (Err e) = ask_transition p ask ≡ Err e

-- a request is left to the rules; a message is for this node
abbrev pub IsAdmitted : Plain → Event → Type 0
IsAdmitted p (events.Ask ask) = IsAdmittedAsk p ask
IsAdmitted p (events.Deliver m) = is_for p m ≡ true
IsAdmitted p events.Tick = ⊤
IsAdmitted p events.Stop = ⊤

-- a step before its counts are tested: the number of its sends and of the items in a message
abbrev pub uncounted_step : Plain → Event → Result Transition Refusal
uncounted_step p e = if p.running then event_transition p e else Err refusals.Stopped

-- the node runs and the event is admitted; or it is refused as the node refuses it
abbrev pub Admits : Plain → Event → Result Unit Refusal → Type 0
Admits p e (Ok u) = (p.running ≡ true) × IsAdmitted p e
Admits p e (Err x) = uncounted_step p e ≡ Err x

-- the message is a membership
abbrev pub tells_membership : Body → Bool
tells_membership (Config members) = true
tells_membership body = false

-- the message has the node's epoch, or is a membership
abbrev pub is_heeded : Plain → LinkMessage → Bool
is_heeded p m = tells_membership m.body || (m.epoch == p.epoch)
