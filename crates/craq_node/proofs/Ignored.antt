-- A message that is not current is ignored.
use Rattle.std.proofs.Common.{◌≡◌, true, false, refl}
use Rattle.craq_model.specs.declared.message.Body.{Body}
use Rattle.craq_model.specs.declared.message.Body.TheVariants as bodies
use Rattle.craq_model.specs.declared.message.LinkMessage.{LinkMessage}
use Rattle.craq_model.specs.declared.step.Why.TheVariants.{OtherEpoch}
use Rattle.craq_model.specs.Deliveries.{body_transition, delivery_transition}
use Rattle.craq_model.specs.Plain.{Plain}
use Rattle.craq_model.specs.Settle.{transition_ignoring}
use Rattle.craq_node.specs.Admitted.{is_heeded, tells_membership}
use Rattle.std.specs.Prelude.{◌==◌, ◌||◌}

body_ignored : (p : Plain) (m : LinkMessage) (b : Body) → (tells_membership b || (m.epoch == p.epoch)) ≡ false → body_transition p m b ≡ transition_ignoring p OtherEpoch
body_ignored p m (bodies.Config members) h = absurd (let w : true ≡ false = h in cc)
body_ignored p m (bodies.Entry e) h = rw h refl
body_ignored p m (bodies.Batch es) h = rw h refl
body_ignored p m (bodies.Ack position) h = rw h refl
body_ignored p m (bodies.Query ticket key) h = rw h refl
body_ignored p m (bodies.VersionIs ticket version) h = rw h refl
body_ignored p m (bodies.Blank count) h = rw h refl
body_ignored p m (bodies.Copy position state) h = rw h refl
body_ignored p m (bodies.Part part) h = rw h refl
body_ignored p m (bodies.Floor count) h = rw h refl

pub not_heeded : (p : Plain) (m : LinkMessage) → is_heeded p m ≡ false → delivery_transition p m ≡ transition_ignoring p OtherEpoch
not_heeded p m h = body_ignored p m m.body h
