-- Refusals of a call of a running store, and what they say of its step.
use Rattle.std.specs.Prelude.{◌≡◌, ◌⊎◌, ⊤, ℕ, List}
use mathlib.Core.List.{IsPrefix}
use Rattle.craq_names.specs.declared.name.NodeName.{NodeName}
use Rattle.craq_names.specs.declared.refusal.Refusal.{Refusal}
use Rattle.craq_names.specs.declared.refusal.Refusal.TheVariants as refusals
use Rattle.craq_model.specs.declared.ask.Ask.{Ask}
use Rattle.craq_store_history.specs.declared.entry.CallId.{CallId}
use Rattle.craq_store_history.specs.declared.entry.HistoryEntry.{HistoryEntry}
use Rattle.craq_store_history.specs.Chains.{IsHistory}
use Rattle.craq_store_parts.specs.Sent.{IsMade}
use Rattle.craq_store_parts.specs.Witnessed.{HasRefusedCall, IsNeverAccepted, IsRefusedAfter}
use Rattle.craq_running_chain.specs.Missed.{IsMissed}

-- a call that is refused so may have been accepted: an update may have taken effect
abbrev pub LeavesOpen : Refusal → Type 0
LeavesOpen refusals.Stopped = ⊤
LeavesOpen refusals.Memory = ⊤
LeavesOpen refusals.Closed = ⊤
LeavesOpen e = ⊥

-- the refusal came before a step of the call's node; or the node refuses the call with this pass by its rules, as this history has the
-- node at a moment after the call was made
abbrev pub IsJustified : List HistoryEntry → CallId → ℕ → Refusal → Type 0
IsJustified seen call pass e = IsMissed e ⊎ ((moment : List HistoryEntry) × IsPrefix moment seen × HasRefusedCall moment call pass e)

-- no step accepts the call that was refused so, in this history or in any that goes on from it; and the refusal is justified
abbrev pub IsGivenUp : List HistoryEntry → CallId → ℕ → Refusal → Type 0
IsGivenUp seen call pass e = IsNeverAccepted seen call × IsHistory seen × IsJustified seen call pass e

-- the client made a call of this request at this node, after all of `old`; and no step accepts it, in `new` or in any history that goes
-- on from it. The refusal came before a step of the node, or the node refused the call with this pass by its rules after it was made
pub record IsRefusedCall (client : ℕ) (old : List HistoryEntry) (node : NodeName) (ask : Ask) (pass : ℕ) (e : Refusal) (new : List HistoryEntry) : Type 0 where
  pub call : CallId
  pub caller : call.client ≡ client
  pub mid : List HistoryEntry
  pub made : IsMade old call node ask mid
  pub later : IsPrefix mid new
  pub never : IsNeverAccepted new call
  pub history : IsHistory new
  pub refused : IsMissed e ⊎ IsRefusedAfter mid node ask pass e new

-- a refusal of the client's request with this pass says that no step was taken for it, and why: it has no such chain, and no call was
-- made; or no step accepts the call, and its node refuses it. Three refusals leave that open
abbrev pub IsUntaken : ℕ → List HistoryEntry → NodeName → Ask → ℕ → List HistoryEntry → Refusal → Type 0
IsUntaken client old node ask pass new refusals.Stopped = ⊤
IsUntaken client old node ask pass new refusals.Memory = ⊤
IsUntaken client old node ask pass new refusals.Closed = ⊤
IsUntaken client old node ask pass new refusals.UnknownChain = (new ≡ old)
IsUntaken client old node ask pass new e = IsRefusedCall client old node ask pass e new
