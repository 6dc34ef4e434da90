-- The figures have no floating-point number.
use Rattle.std.proofs.Common.{◌≡◌, ℕ, false, List, [], ◌∷◌, map, refl}
use Rattle.serde_json.specs.View.{items_of}
use Rattle.serde_json.specs.Written.{has_float, items_have_float}
use Rattle.craq_metrics.specs.declared.figures.ServerFigures.{ServerFigures}
use Rattle.craq_metrics.specs.declared.figures.ChainFigures.{ChainFigures}
use Rattle.craq_metrics.specs.declared.figures.NodeFigures.{NodeFigures}
use Rattle.craq_metrics.specs.Status.{number_of, node_data, chain_data, status_data}

numbers : (ns : List ℕ) → items_have_float (items_of (map number_of ns)) ≡ false
numbers [] = refl
numbers (n ∷ ns) = numbers ns

nodes : (ns : List NodeFigures) → items_have_float (items_of (map node_data ns)) ≡ false
unfolding node_data
nodes [] = refl
nodes (n ∷ ns) = nodes ns

chains : (cs : List ChainFigures) → items_have_float (items_of (map chain_data cs)) ≡ false
chains [] = refl
chains (c ∷ cs) = rw (nodes c.nodes.items) (chains cs)

pub none_in : (s : ServerFigures) (cs : List ChainFigures) → has_float (status_data s cs) ≡ false
unfolding status_data
none_in s cs = rw (chains cs, numbers s.refused) refl
