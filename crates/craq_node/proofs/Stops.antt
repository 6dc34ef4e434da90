-- Stopping a running node.
use Rattle.std.proofs.Common.{◌≡◌, true, false, Bool, List, [], None, Ok, Err, inl, inr, refl, sym, ap, ◌∙◌}
use Rattle.craq_model.specs.declared.ask.Event.{Event}
use Rattle.craq_model.specs.declared.ask.Event.TheVariants.{Ask, Deliver, Tick, Stop}
use Rattle.craq_model.specs.declared.step.Out.{Out}
use Rattle.craq_model.specs.declared.step.Step.{Step}
use Rattle.craq_model.specs.Plain.{Plain}
use Rattle.craq_names.specs.declared.refusal.Refusal.{Refusal}
use Rattle.craq_model.specs.Deliveries.{delivery_transition}
use Rattle.craq_model.specs.Node.{event_transition, node_step, outs_fit}
use Rattle.craq_node.specs.Admitted.{uncounted_step}
use Rattle.craq_model.specs.Settle.{Transition}
use Rattle.craq_node.specs.Represented.{StepGives, IsFree}
use Rattle.craq_write.specs.Sent.{LacksOrOutgrows}

-- an event that allocates nothing is admitted
pub free_is_admitted : (p : Plain) (e : Event) (x : Refusal) → IsFree p e → ¬ (uncounted_step p e ≡ Err x)
free_is_admitted p (Deliver m) x f refused =
    let taken : uncounted_step p (Deliver m) ≡ Ok (delivery_transition p m) = rw (f.0, f.1) refl in
    absurd (let w : Ok (delivery_transition p m) ≡ Err x = sym taken ∙ refused in cc)
free_is_admitted p (Ask ask) x f refused = f
free_is_admitted p Tick x f refused = f
free_is_admitted p Stop x f refused =
    let taken : uncounted_step p Stop ≡ event_transition p Stop = rw f refl in
    absurd (let w : event_transition p Stop ≡ Err x = sym taken ∙ refused in cc)

pub stops : (p : Plain) (e : Event) (step : Step) → p.running ≡ true → e ≡ Stop → step ≡ record { ticket = None; outs = []; ignored = None } → node_step p e ≡ Ok (record p { running = false }, step)
unfolding node_step outs_fit
stops p e step r h s = rw (h, s, r) refl

pub nothing_fits : (os : List Out) → os ≡ [] → outs_fit os ≡ true
unfolding outs_fit
nothing_fits os e = rw e refl

-- the transition is refused: out of memory, or its sends cannot be counted
pub transition_refused : (forgets : Bool) (p q : Plain) (transition : Transition) (e : Refusal) → LacksOrOutgrows transition e → q ≡ p → StepGives forgets p q (Err e) (Ok transition)
transition_refused forgets p q transition e (inl lacks) same = (inl (lacks, refl), same)
transition_refused forgets p q transition e (inr grown) same = rw grown.1 (inr (ap Err (sym grown.0)), same)
