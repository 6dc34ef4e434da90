-- Refusals of a stop, a removal and a join in a running store.
use Rattle.std.specs.Prelude.{◌≡◌, ◌⊎◌, ⊤}
use Rattle.craq_names.specs.declared.refusal.Refusal.{Refusal}
use Rattle.craq_names.specs.declared.refusal.Refusal.TheVariants as refusals
use Rattle.craq_running_chain.specs.Missed.{IsMissed}

-- a node that is to stop has stopped before, or it has no further stamp, or there is no such node
abbrev pub CanStop : Refusal → Type 0
CanStop e = IsMissed e ⊎ (e ≡ refusals.Exhausted)

-- a master does not take the step of a removal
abbrev pub IsKeptIn : Refusal → Type 0
IsKeptIn refusals.NotMember = ⊤
IsKeptIn refusals.LastNode = ⊤
IsKeptIn refusals.Exhausted = ⊤
IsKeptIn refusals.Memory = ⊤
IsKeptIn e = ⊥

-- so a node is not removed, or since it runs, or there is no such node
abbrev pub CanRemove : Refusal → Type 0
CanRemove e = IsMissed e ⊎ IsKeptIn e ⊎ (e ≡ refusals.NotStopped)

-- a node does not join: its id was used, the chain is full, there is no further stamp or epoch, the store is out of memory or closed
abbrev pub CanJoin : Refusal → Type 0
CanJoin refusals.UsedId = ⊤
CanJoin refusals.ChainFull = ⊤
CanJoin refusals.Exhausted = ⊤
CanJoin refusals.Memory = ⊤
CanJoin refusals.Closed = ⊤
CanJoin e = ⊥
