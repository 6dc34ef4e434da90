-- A step keeps the node's invariant, and all its sends have an encoding.
use Rattle.std.proofs.Common.{◌≡◌, ◌≤◌, true, false, Ok, Err, [], refl, sym, ap, ◌∙◌, subst}
use Rattle.std.proofs.Math.Bool.{or-false}
use Rattle.std.specs.Prelude.{Bool, Result, IfOk, ◌==◌, not}
use Rattle.craq_names.specs.declared.name.NodeName.{NodeName}
use Rattle.craq_names.specs.declared.refusal.Refusal.{Refusal}
use Rattle.craq_model.specs.declared.ask.Event.{Event}
use Rattle.craq_model.specs.declared.config.Config.{Config}
use Rattle.craq_model.specs.declared.step.Step.{Step}
use Rattle.craq_model.specs.declared.ask.Ask.{Ask}
use Rattle.craq_model.specs.declared.ask.Event.TheVariants as events
use Rattle.craq_model.specs.declared.message.LinkMessage.{LinkMessage}
use Rattle.craq_model.specs.Asks.{ask_transition}
use Rattle.craq_model.specs.Deliveries.{delivery_transition, transition_in_epoch}
use Rattle.craq_model.specs.Node.{event_transition, is_for, outs_fit, within_counts}
use Rattle.craq_model.specs.Settle.{Transition}
use Rattle.craq_model.specs.Encodable.{IsEncodable}
use Rattle.craq_history.specs.declared.change.Change.{Change}
use Rattle.craq_history.specs.Change.{changed, no_change}
use Rattle.craq_node_invariant.specs.Compacted.{remembered, remembered_transition}
use Rattle.craq_node_invariant.proofs.CompactedSoundness.{remembered_is}
use Rattle.craq_node.specs.Admitted.{is_heeded, tells_membership}
use Rattle.craq_node.proofs.Transitions.{transition_in}
use Rattle.craq_model.specs.Plain.{Plain, opening_member}
use Rattle.craq_node_invariant.specs.Sound.{AreEncodable, IsSound, IsEncodableEvent}
use Rattle.craq_node_invariant.proofs.Openings.{member_is_sound, joined_is_sound}
use Rattle.craq_node_invariant.proofs.Steps.{transition_is_sound}
use Rattle.craq_node.specs.Represented.{StepGives, IsFirstWith, LeadsToSound}

-- a transition whose remembered part is this node and step
pub taken : (forgets : Bool) (r : Result Transition Refusal) (n : Plain) (s : Step) → remembered_transition forgets r ≡ Ok (n, s) → (q : Plain) × (r ≡ Ok (q, s)) × (remembered forgets q ≡ n)
taken forgets (Ok t) n s e =
    let same : (remembered forgets t.0, t.1) ≡ (n, s) = ap (transition_in t) e in
    (t.0, ap (λ (x : Step). Ok (t.0, x)) (ap (λ (x : Transition). x.1) same), ap (λ (x : Transition). x.0) same)
taken forgets (Err x) n s e = absurd (let w : Err x ≡ Ok (n, s) = e in cc)

pub sound_after : (forgets : Bool) (p q : Plain) (e : Event) (r : Result Step Refusal) → StepGives forgets p q r (event_transition p e) → IsSound p → IsEncodableEvent e → IsSound q
sound_after forgets p q e (Ok s) given h a =
    let t = taken forgets (within_counts (event_transition p e)) q s given in
    subst IsSound t.2 (remembered_is forgets t.0 (transition_is_sound p t.0 e s h a t.1).0)
sound_after forgets p q e (Err refusal) given h a = subst IsSound (sym given.1) h

pub said_encodable : (forgets : Bool) (p q : Plain) (e : Event) (r : Result Step Refusal) → StepGives forgets p q r (event_transition p e) → IsSound p → IsEncodableEvent e → IfOk r (λ s. AreEncodable s.outs)
said_encodable forgets p q e (Ok s) given h a =
    let t = taken forgets (within_counts (event_transition p e)) q s given in
    (transition_is_sound p t.0 e s h a t.1).1
said_encodable forgets p q e (Err refusal) given h a = tt

-- a transition whose counts fit leads to a node that satisfies the invariant
sound_transition : (p q : Plain) (e : Event) (s : Step) → IsSound p → IsEncodableEvent e → event_transition p e ≡ Ok (q, s) → outs_fit s.outs ≡ true → IsSound q
sound_transition p q e s h a is fits =
    let transition : Result Transition Refusal = Ok (q, s) in
    let fitting : within_counts transition ≡ transition = rw fits refl in
    (transition_is_sound p q e s h a (ap (λ (r : Result Transition Refusal). within_counts r) is ∙ fitting)).0

pub ask_leads : (p : Plain) (ask : Ask) (wanted : Result Transition Refusal) → IsSound p → IsEncodableEvent (events.Ask ask) → ask_transition p ask ≡ wanted → LeadsToSound wanted
ask_leads p ask wanted h a is = record { sound = λ q s e fits. sound_transition p q (events.Ask ask) s h a (is ∙ e) fits }

pub delivery_leads : (p : Plain) (m : LinkMessage) (transition : Transition) → IsSound p → IsEncodable m → is_for p m ≡ true → delivery_transition p m ≡ transition → LeadsToSound (Ok transition)
delivery_leads p m transition h a here is = record { sound = λ q s e fits. sound_transition p q (events.Deliver m) s h a (rw here (ap (λ (t : Transition). Ok t) is ∙ e)) fits }

-- so does a current message other than a membership: it has the node's epoch
pub in_epoch_leads : (p : Plain) (m : LinkMessage) (transition : Transition) → IsSound p → IsEncodable m → is_for p m ≡ true → is_heeded p m ≡ true → tells_membership m.body ≡ false → delivery_transition p m ≡ transition_in_epoch p m transition → LeadsToSound (Ok transition)
in_epoch_leads p m transition h a here heeded tells is =
    let same : (m.epoch == p.epoch) ≡ true = rw tells at heeded in
    delivery_leads p m transition h a here (is ∙ rw same refl)

-- a change planned for a transition leads to the node of the transition
pub planned_sound : (p : Plain) (c : Change) (s : Step) (wanted : Result Transition Refusal) → LeadsToSound wanted → wanted ≡ Ok (changed p c, s) → outs_fit s.outs ≡ true → IsSound (changed p c)
planned_sound p c s wanted leads is fits = leads.sound (changed p c) s is fits

pub transition_sound : (p : Plain) (c : Change) (s : Step) (transition : Transition) → LeadsToSound (Ok transition) → transition ≡ (changed p c, s) → outs_fit s.outs ≡ true → IsSound (changed p c)
transition_sound p c s transition leads is fits = leads.sound (changed p c) s (ap (λ (t : Transition). Ok t) is) fits

-- the empty change keeps the invariant
pub still_sound : (p : Plain) (c : Change) → c ≡ no_change → IsSound p → IsSound (changed p c)
still_sound p c is s =
    let same : changed p no_change ≡ p = ap (λ (b : Bool). record p { ready = b }) (or-false p.ready) in
    subst IsSound (sym (ap (λ (x : Change). changed p x) is ∙ same)) s

pub sound_member : (p : Plain) (name : NodeName) (config : Config) → p ≡ record (opening_member name config.members) { epoch = config.epoch; ready = not (config.epoch == 0) } → (1 ≤ name.node) × IsFirstWith name config → IsSound p
sound_member p name config is h =
    subst IsSound (sym (is ∙ ap (λ n. record (opening_member name config.members) { epoch = n; ready = not (n == 0) }) h.1.epoch)) (member_is_sound name config.members h.0 h.1.members)

pub sound_joined : (p : Plain) (name : NodeName) → p ≡ record (opening_member name []) { epoch = 0; ready = false } → 1 ≤ name.node → IsSound p
sound_joined p name is h = subst IsSound (sym is) (joined_is_sound name h)
