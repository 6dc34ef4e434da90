use Rattle.std.proofs.Common.{◌≡◌, take}
use Rattle.craq_cell_chain.specs.Named.{ids_in}
use Rattle.craq_cell_chain.proofs.cell_chain.opening_seats.Given as goal

abbrev pub invariant-loop-node : goal.invariant-loop-node
invariant-loop-node g l = ids_in l.seats.items ≡ take l.node-index l.node-items
