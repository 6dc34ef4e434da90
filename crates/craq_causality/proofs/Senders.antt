-- The messages among a node's outputs.
use Rattle.std.proofs.Common.{◌≡◌, ℕ, List, [], ◌∷◌, map, refl, sym, ap, ◌∙◌, inl, inr}
use Rattle.craq_model.specs.declared.message.LinkMessage.{LinkMessage}
use Rattle.craq_model.specs.declared.step.Out.{Out}
use Rattle.craq_model.specs.declared.step.Out.TheVariants as outs
use Rattle.craq_runs.specs.Chain.{sent_in}
use Rattle.craq_runs.specs.Seen.{receivers_in}
use Rattle.craq_seat.specs.Numbered.{AreFrom}
use Rattle.craq_causality.proofs.Orders.{IsIn}

-- each message among a node's outputs is from it
pub message_from : (id : ℕ) (os : List Out) (m : LinkMessage) → AreFrom id os → IsIn (sent_in os) m → m.sender ≡ id
unfolding sent_in
message_from id [] m a i = absurd i
message_from id (outs.Send to x ∷ os) m a (inl e) = ap (λ (y : LinkMessage). y.sender) (sym e) ∙ a.0
message_from id (outs.Send to x ∷ os) m a (inr i) = message_from id os m a.2 i
message_from id (outs.Answer ticket answer ∷ os) m a i = message_from id os m a i

-- the receivers of the outputs are those that the messages name
pub receivers_same : (id : ℕ) (os : List Out) → AreFrom id os → receivers_in os ≡ map (λ (m : LinkMessage). m.receiver) (sent_in os)
unfolding sent_in receivers_in
receivers_same id [] a = refl
receivers_same id (outs.Send to m ∷ os) a = let e = a.1 in rw (e, receivers_same id os a.2) refl
receivers_same id (outs.Answer ticket answer ∷ os) a = receivers_same id os a
