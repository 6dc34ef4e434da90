-- The remembered part of a sound node decides its steps.
use Rattle.std.proofs.Common.{◌≡◌, ◌==◌, ℕ, Bool, true, false, [], ◌∷◌, Result, Ok, Err, refl, sym, ap, ◌∙◌}
use Rattle.craq_names.specs.declared.refusal.Refusal.{Refusal}
use Rattle.craq_names.specs.declared.refusal.Refusal.TheVariants as refusals
use Rattle.craq_model.specs.declared.ask.Event.{Event}
use Rattle.craq_model.specs.declared.ask.Event.TheVariants as events
use Rattle.craq_model.specs.declared.message.Body.{Body}
use Rattle.craq_model.specs.declared.message.Body.TheVariants as bodies
use Rattle.craq_model.specs.declared.message.LinkMessage.{LinkMessage}
use Rattle.craq_model.specs.declared.step.Step.{Step}
use Rattle.craq_model.specs.declared.step.Why.TheVariants.{OtherEpoch}
use Rattle.craq_model.specs.Deliveries.{transition_in_epoch, body_transition, delivery_transition, entries_transition, ack_transition, query_transition, version_transition, blank_transition, copy_transition, part_transition, floor_transition}
use Rattle.craq_model.specs.Node.{is_for, event_transition, outs_fit, within_counts, node_step}
use Rattle.craq_model.specs.Past.{Past}
use Rattle.craq_model.specs.Plain.{Plain}
use Rattle.craq_model.specs.Sends.{tick_sends}
use Rattle.craq_model.specs.Settle.{Transition, transition_ignoring}
use Rattle.craq_node_invariant.specs.Sound.{IsSound}
use Rattle.craq_node_invariant.specs.Compacted.{compacted_in, remembered, remembered_transition, HoldsCommitted}
use Rattle.craq_node_invariant.proofs.CompactedPasts.{AreAlike, alike_compacted}
use Rattle.craq_node_invariant.proofs.CompactedPositions.{AreLast, last_in, last_compacted}
use Rattle.craq_node_invariant.proofs.CompactedTransitions.{with_past, SameTransition, branch, same_node, same_outs, same_ignoring, same_tick_sends}
use Rattle.craq_node_invariant.proofs.CompactedMessages.{same_config, same_floor, same_entries_transition, same_ack, same_query, same_version}
use Rattle.craq_node_invariant.proofs.CompactedCopies.{same_blank, same_copy, same_part}
use Rattle.craq_node_invariant.proofs.CompactedAsks.{SameResult, same_ask}

-- ---- alike pasts

in_epoch : (p : Plain) (h k : Past) (m : LinkMessage) (t u : Transition) → AreAlike h k → SameTransition t u → SameTransition (transition_in_epoch (with_past p h) m t) (transition_in_epoch (with_past p k) m u)
in_epoch p h k m t u a s =
    branch SameTransition (m.epoch == p.epoch) (m.epoch == p.epoch) t (transition_ignoring (with_past p h) OtherEpoch) u (transition_ignoring (with_past p k) OtherEpoch) refl (λ e. s) (λ e. same_ignoring p h k OtherEpoch a)

same_body : (p : Plain) (h k : Past) (m : LinkMessage) (b : Body) → AreAlike h k → SameTransition (body_transition (with_past p h) m b) (body_transition (with_past p k) m b)
same_body p h k m (bodies.Config members) a = same_config p h k m.epoch members a
same_body p h k m (bodies.Entry e) a =
    in_epoch p h k m (entries_transition (with_past p h) m.sender (e ∷ [])) (entries_transition (with_past p k) m.sender (e ∷ [])) a (same_entries_transition p h k m.sender (e ∷ []) a)
same_body p h k m (bodies.Batch es) a = in_epoch p h k m (entries_transition (with_past p h) m.sender es) (entries_transition (with_past p k) m.sender es) a (same_entries_transition p h k m.sender es a)
same_body p h k m (bodies.Ack position) a = in_epoch p h k m (ack_transition (with_past p h) m.sender position) (ack_transition (with_past p k) m.sender position) a (same_ack p h k m.sender position a)
same_body p h k m (bodies.Query ticket key) a =
    in_epoch p h k m (query_transition (with_past p h) m.sender ticket key) (query_transition (with_past p k) m.sender ticket key) a (same_query p h k m.sender ticket key a)
same_body p h k m (bodies.VersionIs ticket version) a =
    in_epoch p h k m (version_transition (with_past p h) m.sender ticket version) (version_transition (with_past p k) m.sender ticket version) a (same_version p h k m.sender ticket version a)
same_body p h k m (bodies.Blank count) a = in_epoch p h k m (blank_transition (with_past p h) m.sender count) (blank_transition (with_past p k) m.sender count) a (same_blank p h k m.sender count a)
same_body p h k m (bodies.Copy position state) a =
    in_epoch p h k m (copy_transition (with_past p h) m.sender position state) (copy_transition (with_past p k) m.sender position state) a (same_copy p h k m.sender position state a)
same_body p h k m (bodies.Part part) a = in_epoch p h k m (part_transition (with_past p h) m.sender part) (part_transition (with_past p k) m.sender part) a (same_part p h k m.sender part a)
same_body p h k m (bodies.Floor count) a = in_epoch p h k m (floor_transition (with_past p h) m.sender count) (floor_transition (with_past p k) m.sender count) a (same_floor p h k m.sender count a)

same_event : (p : Plain) (h k : Past) (e : Event) → AreAlike h k → ((client : ℕ) → AreLast k (last_in h client) (last_in k client)) → SameResult (event_transition (with_past p h) e) (event_transition (with_past p k) e)
same_event p h k (events.Ask ask) a b = same_ask p h k ask a b
same_event p h k (events.Deliver m) a b =
    branch SameResult (is_for p m) (is_for p m) (Ok (delivery_transition (with_past p h) m)) (Err refusals.WrongNode) (Ok (delivery_transition (with_past p k) m)) (Err refusals.WrongNode) refl
    (λ t. same_body p h k m m.body a)
    (λ t. refl)
same_event p h k events.Tick a b = same_outs p h k (tick_sends (with_past p h)) (tick_sends (with_past p k)) a (same_tick_sends p h k a)
same_event p h k events.Stop a b = (same_node (record p { running = false }) h k a, refl)

same_counts : (r s : Result Transition Refusal) → SameResult r s → SameResult (within_counts r) (within_counts s)
same_counts (Ok t) (Ok u) h =
    branch SameResult (outs_fit t.1.outs) (outs_fit u.1.outs) (Ok t) (Err refusals.Exhausted) (Ok u) (Err refusals.Exhausted) (ap (λ (x : Step). outs_fit x.outs) h.1) (λ e. h) (λ e. refl)
same_counts (Ok t) (Err f) h = absurd h
same_counts (Err e) (Ok u) h = absurd h
same_counts (Err e) (Err f) h = h

same_step : (p : Plain) (h k : Past) (e : Event) → SameResult (event_transition (with_past p h) e) (event_transition (with_past p k) e) → SameResult (node_step (with_past p h) e) (node_step (with_past p k) e)
unfolding node_step
same_step p h k e s =
    branch SameResult p.running p.running (within_counts (event_transition (with_past p h) e)) (Err refusals.Stopped) (within_counts (event_transition (with_past p k) e)) (Err refusals.Stopped) refl
    (λ t. same_counts (event_transition (with_past p h) e) (event_transition (with_past p k) e) s)
    (λ t. refl)

equal_transitions : (r s : Result Transition Refusal) → SameResult r s → remembered_transition true r ≡ remembered_transition true s
equal_transitions (Ok t) (Ok u) h =
    ap (λ (q : Plain). Ok (q, t.1)) h.0 ∙ ap (λ (x : Step). Ok (remembered true u.0, x)) h.1
equal_transitions (Ok t) (Err f) h = absurd h
equal_transitions (Err e) (Ok u) h = absurd h
equal_transitions (Err e) (Err f) h = ap (λ (x : Refusal). Err x) h

-- ---- a sound node and its remembered part

within : (p : Plain) → IsSound p → HoldsCommitted p.past
within p s = record { based = s.based; within = s.within }

alike : (p : Plain) → IsSound p → AreAlike (compacted_in p.past) p.past
alike p s = alike_compacted p.past (within p s)

same_compacted : (p : Plain) (e : Event) → IsSound p → SameResult (event_transition (remembered true p) e) (event_transition p e)
same_compacted p e s = same_event p (compacted_in p.past) p.past e (alike p s) (λ client. last_compacted p.past client (within p s) s.placed)

pub transition_remembered : (forgets : Bool) (p : Plain) (e : Event) → IsSound p → remembered_transition forgets (event_transition (remembered forgets p) e) ≡ remembered_transition forgets (event_transition p e)
transition_remembered true p e s = equal_transitions (event_transition (remembered true p) e) (event_transition p e) (same_compacted p e s)
transition_remembered false p e s = refl

pub step_remembered : (forgets : Bool) (p : Plain) (e : Event) → IsSound p → remembered_transition forgets (node_step (remembered forgets p) e) ≡ remembered_transition forgets (node_step p e)
step_remembered true p e s =
    equal_transitions (node_step (remembered true p) e) (node_step p e) (same_step p (compacted_in p.past) p.past e (same_compacted p e s))
step_remembered false p e s = refl

pub delivery_remembered : (forgets : Bool) (p : Plain) (m : LinkMessage) → IsSound p → (delivery_transition (remembered forgets p) m).1 ≡ (delivery_transition p m).1
delivery_remembered true p m s = (same_body p (compacted_in p.past) p.past m m.body (alike p s)).1
delivery_remembered false p m s = refl

-- nodes with the same remembered part
pub alike_steps : (forgets : Bool) (p q : Plain) (e : Event) → IsSound p → IsSound q → remembered forgets p ≡ remembered forgets q → remembered_transition forgets (node_step p e) ≡ remembered_transition forgets (node_step q e)
alike_steps forgets p q e s t same =
    sym (step_remembered forgets p e s) ∙ ap (λ (x : Plain). remembered_transition forgets (node_step x e)) same ∙ step_remembered forgets q e t
