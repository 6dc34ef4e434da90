-- The outcome of a request that is put to a node of a running store.
use Rattle.std.specs.Prelude.{◌≡◌, ◌⊎◌, ℕ, Bool, true, false, [], Option, Some, None, Result, Ok, Err}
use Rattle.craq_seat.specs.RefusedCalls.{IsUpdate}
use Rattle.craq_seat.specs.declared.token.CallToken.{CallToken}
use Rattle.craq_model.specs.declared.ask.Ask.{Ask}
use Rattle.craq_model.specs.Plain.{Plain}
use Rattle.craq_names.specs.declared.refusal.Refusal.{Refusal}
use Rattle.craq_seat.specs.Calls.{Called}
use Rattle.craq_names.specs.declared.name.NodeName.{NodeName}
use Rattle.craq_running_node.specs.declared.steps.SeatedNode.{SeatedNode}
use Rattle.craq_running_chain.specs.Missed.{IsMissed}
use Rattle.craq_running_node.specs.Replies.{ClosesOwn, PendingReplies, RefusesOwn, TakesOwn}

-- a batch that has no reply yet
abbrev pub no_replies : PendingReplies
no_replies = record { replies = []; short = false }

-- a node at hand took the step of the request, or refused it, or is closed; and this is in hand, or a completion will come
abbrev pub IsServed : {C : Type 0} → (C → Plain → Type 0) → NodeName → Ask → ℕ → CallToken → Option (Result Called Refusal) → Type 0
IsServed {C} represents name ask pass token hand =
    (old : SeatedNode C) × (new : SeatedNode C) × (after : PendingReplies)
    × (TakesOwn represents old new ask pass token hand no_replies after ⊎ RefusesOwn represents old new name ask pass hand no_replies after ⊎ ClosesOwn old new hand no_replies after)

-- no node was asked: there was none to ask, or no memory
abbrev pub IsRejected : Option (Result Called Refusal) → Type 0
IsRejected None = ⊥
IsRejected (Some (Ok receipt)) = ⊥
IsRejected (Some (Err e)) = IsMissed e

-- the request waits in its node's queue: an update may, and a read too where the chain has no thread of its own
abbrev pub IsQueued : Bool → Ask → Option (Result Called Refusal) → Type 0
IsQueued chain_threads ask None = (chain_threads ≡ false) ⊎ IsUpdate ask
IsQueued chain_threads ask (Some outcome) = ⊥

-- a request was served by a node on the spot, where the chain has a thread of its own; or it was rejected, or queued
abbrev pub IsPut : {C : Type 0} → (C → Plain → Type 0) → Bool → NodeName → Ask → ℕ → CallToken → Option (Result Called Refusal) → Type 0
IsPut represents chain_threads name ask pass token hand = ((chain_threads ≡ true) × IsServed represents name ask pass token hand) ⊎ IsRejected hand ⊎ IsQueued chain_threads ask hand
