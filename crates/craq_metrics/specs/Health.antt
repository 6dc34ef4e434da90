-- The health of a server.
use Rattle.std.specs.Prelude.{ℕ, Bool, ◌&&◌, not, List, ◌++◌, Option, None, Some, codes, string_bytes}
use Rattle.std.specs.List.{list_any}
use Rattle.craq_metrics.specs.declared.figures.ChainFigures.{ChainFigures}
use Rattle.craq_metrics.specs.declared.figures.NodeFigures.{NodeFigures}

-- the node runs and holds its chain's history
abbrev pub can_answer : NodeFigures → Bool
can_answer node = node.is_ready && node.is_running

-- some node of the chain can answer reads
abbrev pub is_served : ChainFigures → Bool
is_served chain = list_any can_answer chain.nodes.items

abbrev pub is_unserved : ChainFigures → Bool
is_unserved chain = not (is_served chain)

-- the line for the first chain that is not served, if there is one
abbrev pub health_text : Option ChainFigures → List ℕ
health_text None = codes "ok\n"
health_text (Some chain) = codes "chain " ++ string_bytes chain.name ++ codes " has no ready node\n"
