-- The steps that a batch of a node takes, the acknowledgement that it owes, and the entries that it holds back.
use Rattle.std.specs.Prelude.{◌≡◌, ◌⊎◌, ℕ, List, Option, [], ◌∷◌, IfSome, IsSome}
use Rattle.craq_model.specs.declared.ask.Event.{Event}
use Rattle.craq_model.specs.declared.ask.Event.TheVariants as events
use Rattle.craq_model.specs.declared.message.LinkMessage.{LinkMessage}
use Rattle.craq_model.specs.declared.step.Step.{Step}
use Rattle.craq_model.specs.Plain.{Plain}
use Rattle.craq_runs.specs.Chain.{sent_in}
use Rattle.craq_seat.specs.Cells.{Celled, receipt_of}
use Rattle.craq_seat.specs.Numbered.{numbered_from}
use Rattle.craq_running_node.specs.declared.steps.SeatedNode.{SeatedNode}
use Rattle.craq_running_node.specs.declared.encoding.Kind.TheVariants as kinds
use Rattle.craq_running_node.specs.Encoded.{OnlySends, lone_position}
use Rattle.craq_running_chain.specs.declared.held_back.HeldBack.{HeldBack}
use Rattle.craq_wire.specs.Encoding.{Encodes}
use Rattle.craq_running_node.specs.declared.inbox.Delivery.{Delivery}
use Rattle.craq_running_node.specs.declared.inbox.Delivery.TheVariants as brings
use Rattle.craq_running_chain.specs.declared.held_back.HeldBack.TheVariants as held_back
use Rattle.craq_running_node.specs.Replies.{PendingReplies, ReactsTo}

-- a node reacts to the message that these bytes encode; out of memory, or if they encode none, it is as it was
abbrev pub TakesMessage : {C : Type 0} → (C → Plain → Type 0) → SeatedNode C → SeatedNode C → List ℕ → PendingReplies → PendingReplies → Type 0
TakesMessage represents old new bytes before after =
    ((m : LinkMessage) × Encodes m bytes × ReactsTo represents old new (events.Deliver m) before after) ⊎ ((new ≡ old) × (after ≡ before))

-- a node reacts to the item that was brought: to its message, or to a tick
abbrev pub TakesBrought : {C : Type 0} → (C → Plain → Type 0) → SeatedNode C → SeatedNode C → Delivery C → PendingReplies → PendingReplies → Type 0
TakesBrought represents old new (brings.Message wire) before after = TakesMessage represents old new wire.bytes before after
TakesBrought represents old new (brings.Ack wire) before after = TakesMessage represents old new wire.bytes before after
TakesBrought represents old new (brings.Blank wire) before after = TakesMessage represents old new wire.bytes before after
TakesBrought represents old new brings.Tick before after = ReactsTo represents old new events.Tick before after

-- if a cell's last step only acknowledges, that acknowledgement is owed
abbrev pub OwesLast : {C : Type 0} → Celled C Event → Option LinkMessage → Type 0
OwesLast cell owed = IfSome cell.last (λ (s : Step). OnlySends kinds.Ack s.outs → IsSome owed × IfSome owed (λ (ack : LinkMessage). numbered_from 0 (receipt_of cell) (sent_in s.outs) ≡ ack ∷ []))

-- if the step sends nothing, the acknowledgement that was owed still is
abbrev pub OwesStill : {C : Type 0} → Celled C Event → Option LinkMessage → Option LinkMessage → Type 0
OwesStill cell old new = IfSome cell.last (λ (s : Step). sent_in s.outs ≡ [] → new ≡ old)

-- the entries held back once one of this position is held back too
abbrev pub with_entry : ℕ → HeldBack → HeldBack
with_entry position held_back.Nothing = held_back.Last position
with_entry position (held_back.Last first) = held_back.Several first
with_entry position (held_back.Several first) = held_back.Several first

-- the entries held back after a step that sends its messages itself: the last of them is no longer that of the last step
abbrev pub after_another : HeldBack → HeldBack
after_another held_back.Nothing = held_back.Nothing
after_another (held_back.Last first) = held_back.Several first
after_another (held_back.Several first) = held_back.Several first

-- the entry of a cell's last step is held back if the step only sends it; the entries held back before still are
abbrev pub HoldsBack : {C : Type 0} → Celled C Event → HeldBack → HeldBack → Type 0
HoldsBack cell old new =
    IfSome cell.last (λ (s : Step). (OnlySends kinds.Entry s.outs → new ≡ with_entry (lone_position s.outs) old) × (¬ (OnlySends kinds.Entry s.outs) → new ≡ after_another old))
