-- One step of a node.
use Rattle.std.specs.Prelude.{◌+◌, ◌==◌, nat_le, Bool, true, false, ◌&&◌, if◌then◌else◌, List, [], length, count_by, Result, Ok, Err}
use Rattle.std.specs.List.{list_all}
use Rattle.craq_names.specs.Limits.{greatest_count}
use Rattle.craq_names.specs.declared.refusal.Refusal.{Refusal}
use Rattle.craq_names.specs.declared.refusal.Refusal.TheVariants as refusals
use Rattle.craq_model.specs.declared.message.Body.{Body}
use Rattle.craq_model.specs.declared.message.Body.TheVariants.{Copy, Part}
use Rattle.craq_model.specs.declared.message.LinkMessage.{LinkMessage}
use Rattle.craq_model.specs.declared.ask.Event.{Event}
use Rattle.craq_model.specs.declared.ask.Event.TheVariants.{Ask, Deliver, Tick, Stop}
use Rattle.craq_model.specs.declared.step.Out.{Out}
use Rattle.craq_model.specs.declared.step.Out.TheVariants.{Send, Answer}
use Rattle.craq_model.specs.Plain.{Plain, id_of}
use Rattle.craq_model.specs.Sends.{tick_sends}
use Rattle.craq_model.specs.Settle.{Transition, transition_with}
use Rattle.craq_model.specs.Asks.{ask_transition}
use Rattle.craq_model.specs.Deliveries.{delivery_transition}

-- the message is for this node
abbrev pub is_for : Plain → LinkMessage → Bool
is_for p m = (m.chain == p.name.chain) && (m.receiver == id_of p)

-- the step on an event at a running node
abbrev pub event_transition : Plain → Event → Result Transition Refusal
event_transition p (Ask ask) = ask_transition p ask
event_transition p (Deliver m) = if is_for p m then Ok (delivery_transition p m) else Err refusals.WrongNode
event_transition p Tick = Ok (transition_with p (tick_sends p))
event_transition p Stop = Ok (transition_with (record p { running = false }) [])

-- the state's counts fit in a message
abbrev pub counts_fit : Body → Bool
counts_fit (Copy position state) = nat_le (length state.objects) greatest_count && nat_le (length state.kept) greatest_count
counts_fit (Part part) = nat_le part.count greatest_count
counts_fit body = true

abbrev pub out_fits : Out → Bool
out_fits (Send to m) = counts_fit m.body
out_fits (Answer ticket answer) = true

abbrev pub is_send : Out → Bool
is_send (Send to m) = true
is_send (Answer ticket answer) = false

-- the sends can be numbered from 0, and their counts fit in a message
unfoldable pub outs_fit : List Out → Bool
outs_fit outs = nat_le (count_by is_send outs) (greatest_count + 1) && list_all out_fits outs

-- a step whose outs do not fit is refused with `Exhausted`
abbrev pub within_counts : Result Transition Refusal → Result Transition Refusal
within_counts (Ok t) = if outs_fit t.1.outs then Ok t else Err refusals.Exhausted
within_counts (Err e) = Err e

-- one step of a node: the node after it and its outputs, or a refusal
unfoldable pub node_step : Plain → Event → Result Transition Refusal
node_step p e = if p.running then within_counts (event_transition p e) else Err refusals.Stopped
