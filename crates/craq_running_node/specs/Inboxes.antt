-- The items that wait at a node.
use Rattle.std.specs.Prelude.{◌≡◌, Option, Some, IfSome}
use Rattle.craq_running_node.specs.declared.messages.Wire.{Wire}
use Rattle.craq_running_node.specs.declared.inbox.Delivery.{Delivery}
use Rattle.craq_running_node.specs.declared.inbox.Delivery.TheVariants as brings
use Rattle.craq_running_node.specs.declared.inbox.Waiting.{Waiting}
use Rattle.craq_running_node.specs.declared.inbox.Waiting.TheVariants as waits

-- a message waits as it was brought; of each other kind at most one item waits
abbrev pub WaitsAs : {N : Type 0} → Delivery N → Option (Waiting N) → Type 0
WaitsAs (brings.Message wire) waiting = waiting ≡ Some (waits.Message wire)
WaitsAs {N} (brings.Ack wire) waiting = IfSome waiting (λ (w : Waiting N). w ≡ waits.Ack)
WaitsAs {N} (brings.Blank wire) waiting = IfSome waiting (λ (w : Waiting N). w ≡ waits.Blank)
WaitsAs {N} brings.Tick waiting = IfSome waiting (λ (w : Waiting N). w ≡ waits.Tick)

-- the place of a message gives that message; of each other kind it gives one of that kind, if any
abbrev pub Gives : {N : Type 0} → Waiting N → Option (Delivery N) → Type 0
Gives (waits.Message wire) given = given ≡ Some (brings.Message wire)
Gives {N} waits.Ack given = IfSome given (λ (d : Delivery N). (wire : Wire N) × (d ≡ brings.Ack wire))
Gives {N} waits.Blank given = IfSome given (λ (d : Delivery N). (wire : Wire N) × (d ≡ brings.Blank wire))
Gives waits.Tick given = given ≡ Some brings.Tick
