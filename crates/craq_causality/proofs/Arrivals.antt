-- A numbered message stands for the one in its sender's step.
use Rattle.std.proofs.Common.{◌≡◌, ℕ, zero, suc, ◌+◌, List, [], ◌∷◌, Some, refl, sym, ap, arith, ◌∙◌}
use Rattle.std.specs.Prelude.{slice_get}
use Rattle.craq_model.specs.declared.ask.Event.TheVariants as events
use Rattle.craq_model.specs.declared.message.Body.{Body}
use Rattle.craq_model.specs.declared.message.Body.TheVariants as bodies
use Rattle.craq_model.specs.declared.message.LinkMessage.{LinkMessage}
use Rattle.craq_model.specs.Deliveries.{body_transition}
use Rattle.craq_model.specs.Node.{node_step}
use Rattle.craq_model.specs.Plain.{Plain}
use Rattle.craq_seat.specs.declared.journal.Receipt.{Receipt}
use Rattle.craq_seat.specs.Numbered.{named, numbered_from}

some_same : {X : Type 0} (x y : X) → Some x ≡ Some y → x ≡ y
some_same x y h = cc

-- the message of an index
named_at : (k i : ℕ) (receipt : Receipt) (ms : List LinkMessage) (m : LinkMessage) → slice_get (numbered_from k receipt ms) i ≡ Some m → (n : LinkMessage) × (slice_get ms i ≡ Some n) × (named receipt (k + i) n ≡ m)
named_at k i receipt [] m h = cc
named_at k zero receipt (x ∷ ms) m h =
    let e : k + 0 ≡ k = omega arith in (x, refl, rw e (some_same (named receipt k x) m h))
named_at k (suc i) receipt (x ∷ ms) m h =
    let t = named_at (k + 1) i receipt ms m h in
    let e : k + suc i ≡ k + 1 + i = omega arith in
    (t.0, t.1, rw e t.2)

pub named_from : (i : ℕ) (receipt : Receipt) (ms : List LinkMessage) (m : LinkMessage) → slice_get (numbered_from 0 receipt ms) i ≡ Some m → (n : LinkMessage) × (slice_get ms i ≡ Some n) × (named receipt i n ≡ m)
named_from i receipt ms m h =
    let t = named_at 0 i receipt ms m h in
    let e : 0 + i ≡ i = omega arith in
    (t.0, t.1, ap (λ j. named receipt j t.0) (sym e) ∙ t.2)

-- a node ignores the stamp and the index of a message
abbrev stamped : LinkMessage → ℕ → ℕ → LinkMessage
stamped m stamp index = record m { stamp = stamp; index = index }

same_body : (p : Plain) (m : LinkMessage) (stamp index : ℕ) (b : Body) → body_transition p (stamped m stamp index) b ≡ body_transition p m b
same_body p m stamp index (bodies.Config members) = refl
same_body p m stamp index (bodies.Entry e) = refl
same_body p m stamp index (bodies.Batch es) = refl
same_body p m stamp index (bodies.Ack position) = refl
same_body p m stamp index (bodies.Query ticket key) = refl
same_body p m stamp index (bodies.VersionIs ticket version) = refl
same_body p m stamp index (bodies.Blank count) = refl
same_body p m stamp index (bodies.Copy position state) = refl
same_body p m stamp index (bodies.Part part) = refl
same_body p m stamp index (bodies.Floor count) = refl

unstamped : (p : Plain) (m : LinkMessage) (stamp index : ℕ) → node_step p (events.Deliver (stamped m stamp index)) ≡ node_step p (events.Deliver m)
unfolding node_step
unstamped p m stamp index = rw (same_body p m stamp index m.body) refl

-- so a message of the sender has the same effect with and without its number
pub unnamed : (p : Plain) (receipt : Receipt) (index : ℕ) (n : LinkMessage) → n.sender ≡ receipt.node → node_step p (events.Deliver (named receipt index n)) ≡ node_step p (events.Deliver n)
unnamed p receipt index n e =
    ap (λ s. node_step p (events.Deliver (record n { sender = s; stamp = receipt.stamp; index = index }))) (sym e) ∙ unstamped p n receipt.stamp index
