-- A step that is taken or refused, and a message that may be delivered.
use Rattle.std.proofs.Common.{◌≡◌, ℕ, Bool, true, false, List, None, refl, subst}
use Rattle.craq_names.specs.declared.name.NodeName.{NodeName}
use Rattle.craq_model.specs.declared.ask.Event.TheVariants as events
use Rattle.craq_model.specs.declared.message.LinkMessage.{LinkMessage}
use Rattle.craq_causality.specs.Causal.{WasSent}
use Rattle.craq_store_history.specs.declared.entry.HistoryEntry.{HistoryEntry}
use Rattle.craq_store_history.specs.Entries.{lines_in}
use Rattle.craq_store_parts.specs.Recorded.{MayHappen}

pub taken_or_refused : {X : Type 0} (b : Bool) → (b ≡ true → X) → (b ≡ false → X) → X
taken_or_refused true taken refused = taken refl
taken_or_refused false taken refused = refused refl

-- a message that was sent in the node's chain may be delivered
pub may_take : (log : List HistoryEntry) (name : NodeName) (chain : ℕ) (m : LinkMessage) → chain ≡ name.chain → WasSent (lines_in chain log) m → MayHappen log name (events.Deliver m) None
may_take log name chain m own sent = record { sent = subst (λ (c : ℕ). WasSent (lines_in c log) m) own sent; called = tt }
