-- With what a chain that runs refuses to give a node.
use Rattle.std.specs.Prelude.{⊤}
use Rattle.craq_names.specs.declared.refusal.Refusal.{Refusal}
use Rattle.craq_names.specs.declared.refusal.Refusal.TheVariants as refusals

-- its store is closed, it never had the node, the node was removed and dropped, or memory is out
abbrev pub IsMissed : Refusal → Type 0
IsMissed refusals.Closed = ⊤
IsMissed refusals.WrongNode = ⊤
IsMissed refusals.Stopped = ⊤
IsMissed refusals.Memory = ⊤
IsMissed e = ⊥
