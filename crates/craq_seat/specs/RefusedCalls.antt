-- Refusals of a call, by the kind of its request.
use Rattle.std.specs.Prelude.{◌≤◌, ⊤}
use Rattle.craq_names.specs.declared.refusal.Refusal.{Refusal}
use Rattle.craq_names.specs.declared.refusal.Refusal.TheVariants as refusals
use Rattle.craq_commands.specs.declared.read_mode.ReadMode.TheVariants as modes
use Rattle.craq_model.specs.declared.ask.Ask.{Ask}
use Rattle.craq_model.specs.declared.ask.Ask.TheVariants as asks

-- an update, which the head alone takes
abbrev pub IsUpdate : Ask → Type 0
IsUpdate (asks.Update update) = ⊤
IsUpdate (asks.Read mode object) = ⊥

-- an ask that may wait at its node for the other nodes: an update, or a strong read
abbrev pub CanWait : Ask → Type 0
CanWait (asks.Update update) = ⊤
CanWait (asks.Read modes.Strong object) = ⊤
CanWait (asks.Read modes.Eventual object) = ⊥
CanWait (asks.Read (modes.Bounded k) object) = ⊥

-- the refusals of a request at a node of a chain: NotHead only for an update, with a head that is a node, and PendingFull only for a
-- request that may wait. Any request may be refused because the chain has no such node, the store is closed, or the server is out of memory
abbrev pub CanRefuse : Ask → Refusal → Type 0
CanRefuse ask refusals.TwoChains = ⊤
CanRefuse ask (refusals.NotHead head) = IsUpdate ask × (1 ≤ head)
CanRefuse ask refusals.NotReady = ⊤
CanRefuse ask refusals.Stopped = ⊤
CanRefuse ask refusals.PendingFull = CanWait ask
CanRefuse ask refusals.Exhausted = ⊤
CanRefuse ask refusals.Memory = ⊤
CanRefuse ask refusals.WrongNode = ⊤
CanRefuse ask refusals.Closed = ⊤
CanRefuse ask e = ⊥
