-- Each step keeps a node sound, and its outs have an encoding.
use Rattle.std.proofs.Common.{◌≡◌, ◌≤◌, ◌==◌, nat_le, true, ◌+◌, cond, List, [], ◌∷◌, count_by, Result, Ok, Err, subst, arith}
use Rattle.std.proofs.lemmas.Bool.{cond_both, and_parts, eqb-true}
use Rattle.std.specs.List.{list_all}
use Rattle.craq_names.specs.Limits.{greatest_count}
use Rattle.craq_names.specs.declared.refusal.Refusal.{Refusal}
use Rattle.craq_names.specs.declared.refusal.Refusal.TheVariants as refusals
use Rattle.craq_model.specs.declared.ask.Event.{Event}
use Rattle.craq_model.specs.declared.ask.Event.TheVariants as events
use Rattle.craq_model.specs.declared.message.Body.{Body}
use Rattle.craq_model.specs.declared.message.Body.TheVariants as bodies
use Rattle.craq_model.specs.declared.message.LinkMessage.{LinkMessage}
use Rattle.craq_model.specs.declared.step.Out.{Out}
use Rattle.craq_model.specs.declared.step.Step.{Step}
use Rattle.craq_model.specs.declared.step.Why.TheVariants.{OtherEpoch}
use Rattle.craq_model.specs.Deliveries.{body_transition, delivery_transition, transition_in_epoch, entries_transition, part_transition, ack_transition, query_transition, version_transition, blank_transition, copy_transition, floor_transition}
use Rattle.craq_model.specs.Node.{is_for, event_transition, is_send, out_fits, outs_fit, within_counts, node_step}
use Rattle.craq_model.specs.Plain.{Plain}
use Rattle.craq_model.specs.Settle.{Transition, transition_ignoring}
use Rattle.craq_model.specs.Encodable.{IsEncodableBody, IsFromItsSender}
use Rattle.craq_node_invariant.specs.Sound.{IsSound, AreEncodable, IsEncodableEvent}
use Rattle.craq_node_invariant.proofs.Acks.{ack_is}
use Rattle.craq_node_invariant.proofs.Asks.{ask_is}
use Rattle.craq_node_invariant.proofs.Configs.{config_is}
use Rattle.craq_node_invariant.proofs.Copies.{blank_is, copy_is, part_is, floor_is}
use Rattle.craq_node_invariant.proofs.Entries.{entries_are}
use Rattle.craq_node_invariant.proofs.Queries.{query_is, version_is}
use Rattle.craq_node_invariant.proofs.Sends.{AreEncodableIfFitting, Speaks, tick_sent}
use Rattle.craq_node_invariant.proofs.Settling.{IsSoundTransition, ignoring}
use Rattle.craq_node_invariant.proofs.Updates.{IsSoundIfTaken}

-- ---- messages

-- a message of the node's epoch: the node has a membership
in_epoch : (p : Plain) (m : LinkMessage) (transition : Transition) → IsSound p → 1 ≤ m.epoch → (Speaks p → IsSoundTransition transition) → IsSoundTransition (transition_in_epoch p m transition)
in_epoch p m transition s h f =
    cond_both (m.epoch == p.epoch) transition (transition_ignoring p OtherEpoch) (λ (t : Transition). IsSoundTransition t)
    (λ e. let same : m.epoch ≡ p.epoch = eqb-true m.epoch p.epoch e in f (s.own, omega (arith, same, h)))
    (λ e. ignoring p OtherEpoch s)

body_is : (p : Plain) (m : LinkMessage) (b : Body) → IsSound p → 1 ≤ m.epoch → IsFromItsSender m.sender b → IsEncodableBody b → IsSoundTransition (body_transition p m b)
body_is p m (bodies.Config members) s h from b = config_is p m.epoch members s h b
body_is p m (bodies.Entry e) s h from b = in_epoch p m (entries_transition p m.sender (e ∷ [])) s h (λ w. entries_are p m.sender (e ∷ []) s w (b, tt) tt)
body_is p m (bodies.Batch es) s h from b = in_epoch p m (entries_transition p m.sender es) s h (λ w. entries_are p m.sender es s w b.entries b.consecutive)
body_is p m (bodies.Part part) s h from b = in_epoch p m (part_transition p m.sender part) s h (λ w. part_is p m.sender part s w (assumption))
body_is p m (bodies.Ack position) s h from b = in_epoch p m (ack_transition p m.sender position) s h (λ w. ack_is p m.sender position s w)
body_is p m (bodies.Query ticket key) s h from b = in_epoch p m (query_transition p m.sender ticket key) s h (λ w. query_is p m.sender ticket key s w from b)
body_is p m (bodies.VersionIs ticket version) s h from b = in_epoch p m (version_transition p m.sender ticket version) s h (λ w. version_is p m.sender ticket version s)
body_is p m (bodies.Blank count) s h from b = in_epoch p m (blank_transition p m.sender count) s h (λ w. blank_is p m.sender count s w from)
body_is p m (bodies.Copy position state) s h from b =
    in_epoch p m (copy_transition p m.sender position state) s h (λ w. copy_is p m.sender position state s w (assumption))
body_is p m (bodies.Floor count) s h from b = in_epoch p m (floor_transition p m.sender count) s h (λ w. floor_is p m.sender count s w)

-- ---- events

event_is : (p : Plain) (e : Event) → IsSound p → IsEncodableEvent e → IsSoundIfTaken (event_transition p e)
event_is p (events.Ask ask) s h = ask_is p ask s h
event_is p (events.Deliver m) s h =
    cond_both (is_for p m) (Ok (delivery_transition p m)) (Err refusals.WrongNode) (λ (r : Result Transition Refusal). IsSoundIfTaken r)
    (λ e. body_is p m m.body s h.epoch h.sender h.body)
    (λ e. tt)
event_is p events.Tick s h = (s, tick_sent p s)
event_is p events.Stop s h = (assumption, tt)

-- ---- the counts fit

all_encodable : (os : List Out) → list_all out_fits os ≡ true → AreEncodableIfFitting os → AreEncodable os
all_encodable [] f a = tt
all_encodable (o ∷ os) f a =
    let parts : (out_fits o ≡ true) × (list_all out_fits os ≡ true) = and_parts (out_fits o) (list_all out_fits os) f in (a.0 parts.0, all_encodable os parts.1 a.1)

-- an accepted transition is sound
abbrev IsEncodableIfTaken : Result Transition Refusal → Type 0
IsEncodableIfTaken (Ok t) = IsSound t.0 × AreEncodable t.1.outs
IsEncodableIfTaken (Err e) = Unit {0}

within_is : (r : Result Transition Refusal) → IsSoundIfTaken r → IsEncodableIfTaken (within_counts r)
unfolding outs_fit
within_is (Ok t) h =
    cond_both (outs_fit t.1.outs) (Ok t) (Err refusals.Exhausted) (λ (r : Result Transition Refusal). IsEncodableIfTaken r)
    (λ e.
    let parts : (nat_le (count_by is_send t.1.outs) (greatest_count + 1) ≡ true) × (list_all out_fits t.1.outs ≡ true) =
    and_parts (nat_le (count_by is_send t.1.outs) (greatest_count + 1)) (list_all out_fits t.1.outs) e
    in
    (h.0, all_encodable t.1.outs parts.1 h.1))
    (λ e. tt)
within_is (Err e) h = tt

pub transition_is_sound : (p q : Plain) (e : Event) (s : Step) → IsSound p → IsEncodableEvent e → within_counts (event_transition p e) ≡ Ok (q, s) → IsSound q × AreEncodable s.outs
transition_is_sound p q e s i h is = subst IsEncodableIfTaken is (within_is (event_transition p e) (event_is p e i h))

pub step_is_sound : (p q : Plain) (e : Event) (s : Step) → IsSound p → IsEncodableEvent e → node_step p e ≡ Ok (q, s) → IsSound q × AreEncodable s.outs
unfolding node_step
step_is_sound p q e s i h is =
    let whole : IsEncodableIfTaken (cond p.running (within_counts (event_transition p e)) (Err refusals.Stopped)) =
    cond_both p.running (within_counts (event_transition p e)) (Err refusals.Stopped) (λ (r : Result Transition Refusal). IsEncodableIfTaken r) (λ r. within_is (event_transition p e) (event_is p e i h)) (λ r. tt)
    in
    subst IsEncodableIfTaken is whole
