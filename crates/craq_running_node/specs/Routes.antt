-- The routing entry of a node that is removed, or whose store closes.
use Rattle.std.specs.Prelude.{ℕ, ◌==◌, Option, None, if◌then◌else◌}
use Rattle.craq_running_node.specs.declared.node.Removed.{Removed}
use Rattle.craq_running_node.specs.declared.node.Removed.TheVariants as removes
use Rattle.craq_running_node.specs.declared.node.Route.{Route}

-- the ways to the node are dropped
abbrev pub shut : {C : Type 0} → Route C → Route C
shut route = record route { entrances = None }

-- the part of a removed node that is kept
abbrev pub left_of : {A : Type 0} → Removed → Option A → Option A
left_of removes.Kept node = node
left_of removes.Dropped _ = None

-- of the node of this id the ways to it are dropped, and the node too unless it is kept
abbrev pub retired : {C : Type 0} → ℕ → Removed → Route C → Route C
retired id removed route = if route.name.node == id then record route { node = left_of removed route.node; entrances = None } else route
