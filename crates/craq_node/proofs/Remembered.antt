-- A core is seen as the remembered part of each node that it represents.
use Rattle.std.proofs.Common.{◌≡◌, true, false, cond, [], None, Some, Ok, Err, inl, inr, refl, sym, ap, ◌∙◌, subst}
use Rattle.std.specs.Prelude.{Bool, Result, IsOk, IsSome}
use Rattle.craq_names.specs.declared.refusal.Refusal.{Refusal}
use Rattle.craq_names.specs.declared.refusal.Refusal.TheVariants as refusals
use Rattle.craq_model.specs.declared.ask.Event.{Event}
use Rattle.craq_model.specs.declared.ask.Event.TheVariants.{Ask, Deliver, Tick, Stop}
use Rattle.craq_model.specs.declared.message.LinkMessage.{LinkMessage}
use Rattle.craq_model.specs.declared.step.Step.{Step}
use Rattle.craq_model.specs.declared.step.Why.TheVariants.{OtherEpoch}
use Rattle.craq_model.specs.Deliveries.{delivery_transition}
use Rattle.craq_model.specs.Node.{event_transition, is_for, node_step, outs_fit, within_counts}
use Rattle.craq_model.specs.Past.{Past, no_past}
use Rattle.craq_model.specs.Plain.{Plain}
use Rattle.craq_model.specs.Settle.{Transition, transition_ignoring}
use Rattle.craq_node_invariant.specs.Sound.{IsSound, IsEncodableEvent}
use Rattle.craq_node_invariant.proofs.Steps.{step_is_sound}
use Rattle.craq_node_invariant.specs.Compacted.{remembered_in, remembered, remembered_transition}
use Rattle.craq_node_invariant.proofs.CompactedPasts.{compacted_twice}
use Rattle.craq_node_invariant.proofs.CompactedSteps.{transition_remembered, step_remembered, delivery_remembered}
use Rattle.craq_history.specs.declared.change.Change.{Change}
use Rattle.craq_history.specs.Change.{changed}
use Rattle.craq_node.specs.Represented.{StepAnswers, StepGives, IsFree, IsRemembered, uncounted_step}
use Rattle.craq_node.proofs.Kept.{taken}
use Rattle.craq_node.proofs.Stops.{nothing_fits}

-- ---- the remembered part

remembered_twice : (forgets : Bool) (p : Plain) → remembered forgets (remembered forgets p) ≡ remembered forgets p
remembered_twice true p = ap (λ (h : Past). record p { past = h }) (compacted_twice p.past)
remembered_twice false p = refl

refused : (forgets : Bool) (r : Result Transition Refusal) (x : Refusal) → remembered_transition forgets r ≡ Err x → r ≡ Err x
refused forgets (Ok t) x e = absurd (let w : Ok (remembered forgets t.0, t.1) ≡ Err x = e in cc)
refused forgets (Err y) x e = e

ok_of : (forgets : Bool) (r : Result Transition Refusal) → IsOk (remembered_transition forgets r) → IsOk r
ok_of forgets (Ok t) h = refl
ok_of forgets (Err y) h = h

of_ok : (forgets : Bool) (r : Result Transition Refusal) → IsOk r → IsOk (remembered_transition forgets r)
of_ok forgets (Ok t) h = refl
of_ok forgets (Err y) h = h

-- ---- applying a change

pub made_given : (forgets : Bool) (old new : Plain) (c : Change) (s : Step) → outs_fit s.outs ≡ true → new ≡ remembered forgets (changed old c) → StepGives forgets old new (Ok s) (Ok (changed old c, s))
made_given forgets old new c s fits e =
    let transition : Result Transition Refusal = Ok (changed old c, s) in
    let fitting : within_counts transition ≡ transition = rw fits refl in
    ap (λ (r : Result Transition Refusal). remembered_transition forgets r) fitting ∙ ap (λ (q : Plain). Ok (q, s)) (sym e)

-- an ignored message leaves the remembered part unchanged
pub ignored_gives : (forgets : Bool) (p : Plain) (m : LinkMessage) (s : Step) → remembered forgets p ≡ p → is_for p m ≡ true → delivery_transition p m ≡ transition_ignoring p OtherEpoch → s ≡ record { ticket = None; outs = []; ignored = Some OtherEpoch } → StepGives forgets p p (Ok s) (event_transition p (Deliver m))
ignored_gives forgets p m s same here is said =
    let transition : Result Transition Refusal = Ok (transition_ignoring p OtherEpoch) in
    let fitting : within_counts transition ≡ transition = rw (nothing_fits [] refl) refl in
    rw (here, is, said) (ap (λ (r : Result Transition Refusal). remembered_transition forgets r) fitting ∙ ap (λ (q : Plain). Ok (q, (transition_ignoring p OtherEpoch).1)) same)

-- ---- a step of the seen node

seen_transition : (forgets : Bool) (p c : Plain) (e : Event) → IsRemembered forgets p c → remembered_transition forgets (event_transition p e) ≡ remembered_transition forgets (event_transition c e)
seen_transition forgets p c e h = sym (transition_remembered forgets p e h.sound) ∙ ap (λ (x : Plain). remembered_transition forgets (event_transition x e)) h.same

seen_step : (forgets : Bool) (p c : Plain) (e : Event) → IsRemembered forgets p c → remembered_transition forgets (node_step p e) ≡ remembered_transition forgets (node_step c e)
seen_step forgets p c e h = sym (step_remembered forgets p e h.sound) ∙ ap (λ (x : Plain). remembered_transition forgets (node_step x e)) h.same

seen_uncounted : (forgets : Bool) (p c : Plain) (e : Event) → IsRemembered forgets p c → remembered_transition forgets (uncounted_step p e) ≡ remembered_transition forgets (uncounted_step c e)
seen_uncounted forgets p c e h =
    let runs : p.running ≡ c.running = ap (λ (x : Plain). x.running) h.same in
    let by : (b : Bool) → remembered_transition forgets (cond b (event_transition p e) (Err refusals.Stopped)) ≡ remembered_transition forgets (cond b (event_transition c e) (Err refusals.Stopped)) = elim [
      | true ↦ seen_transition forgets p c e h
      | false ↦ refl
    ] in
    by p.running ∙ ap (λ (b : Bool). remembered_transition forgets (cond b (event_transition c e) (Err refusals.Stopped))) runs

-- the core's step, as seen, is a step of each node that it represents
pub seen_answers : (forgets : Bool) (p c n : Plain) (e : Event) (r : Result Step Refusal) → IsRemembered forgets p c → IsEncodableEvent e → StepAnswers (λ q. remembered forgets q ≡ n) c e r → StepAnswers (λ q. IsRemembered forgets q n) p e r
seen_answers forgets p c n e (Ok s) h a given =
    let t = taken forgets (node_step p e) n s (seen_step forgets p c e h ∙ ap (λ (x : Result Transition Refusal). remembered_transition forgets x) given.1 ∙ ap (λ (q : Plain). Ok (q, s)) given.2) in
    (t.0, t.1, record { sound = (step_is_sound p t.0 e s h.sound a t.1).0; same = t.2 })
seen_answers forgets p c n e (Err x) h a given =
    let same : remembered forgets p ≡ n = sym (remembered_twice forgets p) ∙ ap (λ (y : Plain). remembered forgets y) h.same ∙ given.1 in
    let kept : IsRemembered forgets p n = record { sound = h.sound; same = same } in (
      elim given.0 [
        | inl w ↦ inl (w.0, ok_of forgets (uncounted_step p e) (subst (λ (y : Result Transition Refusal). IsOk y) (sym (seen_uncounted forgets p c e h)) (of_ok forgets (uncounted_step c e) w.1)))
        | inr w ↦ inr (refused forgets (node_step p e) x (seen_step forgets p c e h ∙ ap (λ (y : Result Transition Refusal). remembered_transition forgets y) w))
      ],
      kept,
    )

-- ---- events without allocation, and the switch

free_remembered : (forgets : Bool) (p : Plain) (e : Event) → IsSound p → IsFree p e → IsFree (remembered forgets p) e
free_remembered forgets p (Deliver m) s f =
    let P : Step → Type 0 = λ x. IsSome x.ignored in
    (f.0, f.1, subst P (sym (delivery_remembered forgets p m s)) f.2)
free_remembered forgets p (Ask ask) s f = absurd f
free_remembered forgets p Tick s f = absurd f
free_remembered forgets p Stop s f = f

pub seen_free : (forgets : Bool) (p c : Plain) (e : Event) → IsRemembered forgets p c → IsFree p e → IsFree c e
seen_free forgets p c e h f =
    let P : Plain → Type 0 = λ x. IsFree x e in
    subst P h.same (free_remembered forgets p e h.sound f)

pub seen_name : (forgets : Bool) (p c : Plain) → IsRemembered forgets p c → c.name ≡ p.name
seen_name forgets p c h = ap (λ (x : Plain). x.name) (sym h.same)

pub seen_running : (forgets : Bool) (p c : Plain) → IsRemembered forgets p c → c.running ≡ p.running
seen_running forgets p c h = ap (λ (x : Plain). x.running) (sym h.same)

pub seen_node : (forgets : Bool) (p c : Plain) → IsRemembered forgets p c → record c { running = true } ≡ remembered forgets (record p { running = true })
seen_node forgets p c h = ap (λ (x : Plain). record x { running = true }) (sym h.same)

-- ---- before the first step

nothing_remembered : (forgets : Bool) → remembered_in forgets no_past ≡ no_past
nothing_remembered true = refl
nothing_remembered false = refl

pub opening_seen : (forgets : Bool) (p c : Plain) → p.past ≡ no_past → c ≡ p → IsSound p → IsRemembered forgets p c
opening_seen forgets p c e is s = record {
  sound = s;
  same = ap (λ (h : Past). record p { past = remembered_in forgets h }) e ∙ ap (λ (h : Past). record p { past = h }) (nothing_remembered forgets ∙ sym e) ∙ sym is;
}
