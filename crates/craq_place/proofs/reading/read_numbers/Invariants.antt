use Rattle.std.proofs.Common.{◌≡◌, map, drop, []}
use Rattle.toml.specs.View.{view, items_of}
use Rattle.craq_place.specs.Reading.{numbers_from}
use Rattle.craq_place.proofs.reading.read_numbers.Given as goal

abbrev pub invariant-loop-value : goal.invariant-loop-value
invariant-loop-value l = numbers_from [] (items_of (map view l.items)) ≡ numbers_from l.list.items (items_of (map view (drop l.value-index l.items)))
