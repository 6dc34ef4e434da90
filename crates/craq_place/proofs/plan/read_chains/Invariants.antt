use Rattle.std.proofs.Common.{◌≡◌, map, drop, []}
use Rattle.toml.specs.View.{view, items_of}
use Rattle.craq_place.specs.Chains.{chains_of}
use Rattle.craq_place.specs.Reading.{chains_from}
use Rattle.craq_place.proofs.plan.read_chains.Given as goal

abbrev pub invariant-loop-value : goal.invariant-loop-value
invariant-loop-value l = chains_from [] (items_of (map view l.items)) ≡ chains_from (chains_of l.chains.entries) (items_of (map view (drop l.value-index l.items)))
