-- Borrowed parts of a run and of its nodes, as contracts see them.
use Rattle.std.specs.Prelude.{ℕ, true, List, [], ◌∷◌, Option, Some, None}
use Rattle.std.specs.Option.{option_map}
use Rattle.std.specs.Borrow.{Bor}
use Rattle.craq_model.specs.declared.ask.Ask.{Ask}
use Rattle.craq_model.specs.Past.{Past}
use Rattle.craq_model.specs.Plain.{Plain}
use Rattle.craq_history.specs.declared.node.Node.{Node}
use Rattle.craq_history.specs.Nodes.{plain_of}
use Rattle.craq_runs.specs.declared.explanation.Place.{Place}
use Rattle.craq_runs.specs.Seen.{Asked}

-- the request of the move of a number at a node, if it got this ticket
abbrev pub asked_as : ℕ → ℕ → ℕ → Option Ask → Option Asked
asked_as number node ticket None = None
asked_as number node ticket (Some ask) = Some (record { move = number; node = node; ticket = Some ticket; ask = ask })

-- the plain node of a borrowed node, as it was while it ran
abbrev pub plain_in : {H : Type 0} → (H → Past) → Option (Bor (Node H)) → Option Plain
plain_in {H} past node = option_map (λ (n : Bor (Node H)). plain_of past n.now) node

-- the place, if there is one
abbrev pub places_in : Option Place → List Place
places_in None = []
places_in (Some p) = p ∷ []

-- the node, as it was while it ran
abbrev pub as_running : Option Plain → Option Plain
as_running node = option_map (λ (p : Plain). record p { running = true }) node
