-- Messages that the node uses: its steps on them ignore nothing.
use Rattle.std.proofs.Common.{◌≡◌, Bool, true, false, List, Option, None, refl}
use Rattle.std.specs.Prelude.{not, ◌&&◌, if◌then◌else◌}
use Rattle.craq_commands.specs.declared.entry.Entry.{Entry}
use Rattle.craq_model.specs.declared.step.Why.{Why}
use Rattle.craq_model.specs.declared.gathering.Gathering.{Gathering}
use Rattle.craq_model.specs.Deliveries.{forwarding_transition, gathered_transition, taken_entries_transition, with_copy}
use Rattle.craq_model.specs.Parts.{is_whole, joined_state}
use Rattle.craq_model.specs.Plain.{Plain, is_tail, length_of}
use Rattle.craq_model.specs.Settle.{Transition, is_reached, settling_transition, readiness_transition}

abbrev why : Transition → Option Why
why t = t.1.ignored

of_two : (b : Bool) (t u : Transition) → why t ≡ None → why u ≡ None → why (if b then t else u) ≡ None
of_two true t u h k = h
of_two false t u h k = k

settling_heard : (p : Plain) → (settling_transition p).1.ignored ≡ None
unfolding settling_transition
settling_heard p = of_two (is_tail p) _ _ refl refl

pub readiness_heard : (p : Plain) → (readiness_transition p).1.ignored ≡ None
unfolding readiness_transition
readiness_heard p = of_two (not p.ready && is_reached p.floor (length_of p)) _ _ (settling_heard (record p { ready = true; gathering = None })) refl

forwarding_heard : (p : Plain) (es : List Entry) → (forwarding_transition p es).1.ignored ≡ None
unfolding forwarding_transition
forwarding_heard p es = of_two (is_tail p) _ _ refl refl

pub taken_heard : (p : Plain) (es : List Entry) → (taken_entries_transition p es).1.ignored ≡ None
taken_heard p es = of_two p.ready (forwarding_transition p es) (readiness_transition p) (forwarding_heard p es) (readiness_heard p)

pub gathered_heard : (p : Plain) (g : Gathering) → (gathered_transition p g).1.ignored ≡ None
gathered_heard p g = of_two (is_whole g) (readiness_transition (with_copy p g.position (joined_state g.parts))) _ (readiness_heard (with_copy p g.position (joined_state g.parts))) refl
