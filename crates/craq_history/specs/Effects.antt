-- A change and a step that are planned before they are applied.
use Rattle.std.specs.Prelude.{◌≡◌, ◌<◌, ◌≤◌, ⊤, ℕ, ◌+◌, length, true, [], IsSome, Result, Ok, Err}
use Rattle.craq_names.specs.Limits.{greatest}
use Rattle.craq_names.specs.Order.{Refuses}
use Rattle.craq_names.specs.declared.refusal.Refusal.{Refusal}
use Rattle.craq_model.specs.declared.step.Step.{Step}
use Rattle.craq_commands.specs.declared.state.State.{State}
use Rattle.craq_model.specs.Deliveries.{are_applicable}
use Rattle.craq_model.specs.Plain.{Plain, length_of}
use Rattle.craq_model.specs.Settle.{Transition}
use Rattle.craq_history.specs.declared.change.Change.{Change}
use Rattle.craq_history.specs.declared.change.HistoryChange.{HistoryChange}
use Rattle.craq_history.specs.declared.change.HistoryChange.TheVariants as histories
use Rattle.craq_history.specs.declared.change.GatheringChange.{GatheringChange}
use Rattle.craq_history.specs.declared.change.GatheringChange.TheVariants as gatherings
use Rattle.craq_model.specs.Encodable.{IsEncodableEntry}
use Rattle.std.specs.List.{AllByRecursion}
use Rattle.craq_node_invariant.specs.Sound.{AreInRow, IsSoundState}
use Rattle.craq_history.specs.Change.{changed, no_change}

-- the entries to append have positions after a history of this length
abbrev pub CanGrow : ℕ → HistoryChange → Type 0
CanGrow count histories.Stays = ⊤
CanGrow count (histories.Grows entries) = count + length entries ≤ greatest
CanGrow count (histories.IsCopied position state) = ⊤

-- the entries to append follow a history of this length consecutively
abbrev pub FollowsInRow : ℕ → HistoryChange → Type 0
FollowsInRow count histories.Stays = ⊤
FollowsInRow count (histories.Grows entries) = AreInRow (count + 1) entries
FollowsInRow count (histories.IsCopied position state) = ⊤

-- the entries to append are applicable from this state on, one after another
abbrev pub IsApplicable : State → HistoryChange → Type 0
IsApplicable s histories.Stays = ⊤
IsApplicable s (histories.Grows entries) = are_applicable s entries ≡ true
IsApplicable s (histories.IsCopied position state) = ⊤

-- the entries to append have an encoding
abbrev pub IsEncodableGrowth : HistoryChange → Type 0
IsEncodableGrowth histories.Stays = ⊤
IsEncodableGrowth (histories.Grows entries) = AllByRecursion IsEncodableEntry entries
IsEncodableGrowth (histories.IsCopied position state) = ⊤

-- a state that replaces the history is sound
abbrev pub IsSoundCopy : HistoryChange → Type 0
IsSoundCopy histories.Stays = ⊤
IsSoundCopy (histories.Grows entries) = ⊤
IsSoundCopy (histories.IsCopied position state) = IsSoundState state

-- a part is gained only if the history is unchanged
abbrev pub IsApart : GatheringChange → HistoryChange → Type 0
IsApart gatherings.Stays history = ⊤
IsApart (gatherings.Gains part) history = history ≡ histories.Stays
IsApart gatherings.Dropped history = ⊤

-- the change has its next ticket and its positions
pub record CanMake (p : Plain) (c : Change) : Type 0 where
  pub ticket : c.accepted ≡ true → p.last_ticket < greatest
  pub position : CanGrow (length_of p) c.history
  pub apart : IsApart c.gathering c.history

-- the change, which can be applied, and the step are those of a transition; an ignored message
-- changes nothing and sends nothing
pub record IsEffectOf (p : Plain) (r : Change × Step) (transition : Transition) : Type 0 where
  pub is : transition ≡ (changed p r.0, r.1)
  pub can : CanMake p r.0
  pub still : IsSome r.1.ignored → (r.0 ≡ no_change) × (r.1.outs ≡ [])

-- the change, which can be applied, and the step are those of the wanted transition
abbrev pub IsComputed : Plain → Change × Step → Result Transition Refusal → Type 0
IsComputed p r wanted = (wanted ≡ Ok (changed p r.0, r.1)) × CanMake p r.0

-- the plan of the wanted transition, or the wanted refusal, or `Memory` instead of a transition
abbrev pub Computes : Plain → Result (Change × Step) Refusal → Result Transition Refusal → Type 0
Computes p (Ok r) wanted = IsComputed p r wanted
Computes p (Err e) wanted = Refuses e wanted
