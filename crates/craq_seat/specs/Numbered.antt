-- The messages of a step, each with its name.
use Rattle.std.specs.Prelude.{◌≡◌, ◌≤◌, ◌^◌, ⊤, ℕ, ◌+◌, List, [], ◌∷◌, length}
use Rattle.craq_model.specs.declared.message.LinkMessage.{LinkMessage}
use Rattle.craq_model.specs.declared.step.Out.{Out}
use Rattle.craq_model.specs.declared.step.Out.TheVariants as outs
use Rattle.craq_runs.specs.Chain.{sent_in}
use Rattle.craq_node_invariant.specs.Sound.{AreEncodable}
use Rattle.craq_seat.specs.declared.journal.Receipt.{Receipt}

-- a message is named by its sender, and by the stamp and index of its sending
abbrev pub named : Receipt → ℕ → LinkMessage → LinkMessage
named receipt index m = record m { sender = receipt.node; stamp = receipt.stamp; index = index }

-- the messages in order, with indexes from this one on
abbrev pub numbered_from : ℕ → Receipt → List LinkMessage → List LinkMessage
numbered_from index receipt [] = []
numbered_from index receipt (m ∷ ms) = named receipt index m ∷ numbered_from (index + 1) receipt ms

-- each message of the outputs is from this node, and goes to the receiver that it names
abbrev pub AreFrom : ℕ → List Out → Type 0
AreFrom id [] = ⊤
AreFrom id (outs.Send to m ∷ os) = (m.sender ≡ id) × (m.receiver ≡ to) × AreFrom id os
AreFrom id (outs.Answer ticket answer ∷ os) = AreFrom id os

-- each message of the outputs, numbered under the step's receipt, has an encoding
pub record CanBeSent (receipt : Receipt) (os : List Out) : Type 0 where
  pub stamp : 1 ≤ receipt.stamp
  pub senders : AreFrom receipt.node os
  pub spelled : AreEncodable os
  pub few : length (sent_in os) ≤ 2 ^ 32
