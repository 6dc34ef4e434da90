-- A step that sends nothing leaves the owed acknowledgement; a step that only sends an entry does not only acknowledge.
use Rattle.std.proofs.Common.{◌≡◌, ◌⊎◌, ◌==◌, true≢false, ℕ, Bool, true, false, List, Option, None, Some, [], ◌∷◌, IfSome, length, inl, inr, refl, sym, ap, subst, ◌∙◌}
use Rattle.craq_model.specs.declared.ask.Event.{Event}
use Rattle.craq_model.specs.declared.message.LinkMessage.{LinkMessage}
use Rattle.craq_model.specs.declared.step.Step.{Step}
use Rattle.craq_model.specs.declared.step.Out.{Out}
use Rattle.craq_model.specs.declared.step.Out.TheVariants as outs
use Rattle.craq_runs.specs.Chain.{sent_in}
use Rattle.craq_seat.specs.declared.journal.Receipt.{Receipt}
use Rattle.craq_seat.specs.Cells.{Celled}
use Rattle.craq_seat.specs.Numbered.{numbered_from}
use Rattle.craq_running_node.specs.declared.encoding.Kind.{Kind}
use Rattle.craq_running_node.specs.declared.encoding.Kind.TheVariants as kinds
use Rattle.craq_running_node.specs.declared.encoding.Sent.{Sent}
use Rattle.craq_running_node.specs.Encoded.{AreSentAs, OnlySends, Sends}
use Rattle.craq_running_chain.specs.Batches.{OwesStill}

as_none : (sent : List Sent) → AreSentAs sent [] → sent ≡ []
as_none [] is = refl
as_none (s ∷ ss) is = absurd is

nothing : (sent : List Sent) (receipt : Receipt) (ms : List LinkMessage) → ms ≡ [] → (sent ≡ []) ⊎ AreSentAs sent (numbered_from 0 receipt ms) → sent ≡ []
nothing sent receipt ms none (inl e) = e
nothing sent receipt ms none (inr is) = as_none sent (subst (λ (all : List LinkMessage). AreSentAs sent (numbered_from 0 receipt all)) none is)

some_sent : (sent : List Sent) (count : ℕ) (empty : Bool) → count ≡ length sent → empty ≡ (count == 0) → empty ≡ false → sent ≡ [] → ⊥
some_sent sent count empty counts tells some none = true≢false (sym (tells ∙ ap (λ (n : ℕ). n == 0) (counts ∙ ap (λ (ss : List Sent). length ss) none)) ∙ some)

still_after : (last : Option Step) (receipt : Receipt) (sent : List Sent) (old new : Option LinkMessage) → (sent ≡ [] → ⊥)
    → IfSome last (λ (s : Step). (sent ≡ []) ⊎ AreSentAs sent (numbered_from 0 receipt (sent_in s.outs))) → IfSome last (λ (s : Step). sent_in s.outs ≡ [] → new ≡ old)
still_after None receipt sent old new some is = tt
still_after (Some s) receipt sent old new some is = λ none. absurd (some (nothing sent receipt (sent_in s.outs) none is))

pub still : {C : Type 0} (cell : Celled C Event) (last : Option Step) (receipt : Receipt) (sent : List Sent) (count : ℕ) (old new : Option LinkMessage) (empty : Bool) → last ≡ cell.last
    → count ≡ length sent → empty ≡ (count == 0) → empty ≡ false → IfSome last (λ (s : Step). (sent ≡ []) ⊎ AreSentAs sent (numbered_from 0 receipt (sent_in s.outs))) → OwesStill cell old new
still cell last receipt sent count old new empty same counts tells some is =
    subst (λ (l : Option Step). IfSome l (λ (s : Step). sent_in s.outs ≡ [] → new ≡ old)) same (still_after last receipt sent old new (some_sent sent count empty counts tells some) is)

abbrev is_entry : Kind → Bool
is_entry kinds.Entry = true
is_entry kinds.Ack = false
is_entry kinds.Blank = false
is_entry kinds.Other = false

one_message : (out : Out) → Sends kinds.Entry out → Sends kinds.Ack out → ⊥
one_message (outs.Send to m) entry ack = true≢false (ap is_entry (sym entry ∙ ack))
one_message (outs.Answer ticket answer) entry ack = entry

-- a step that only sends an entry does not only acknowledge
pub one_kind : (os : List Out) → OnlySends kinds.Entry os → OnlySends kinds.Ack os → ⊥
one_kind [] entry ack = entry
one_kind (o ∷ []) entry ack = one_message o entry ack
one_kind (o ∷ p ∷ os) entry ack = entry
