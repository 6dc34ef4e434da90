use Rattle.std.proofs.Common.{◌≡◌, ◌≤◌, ◌+◌, ◌-◌, length, take, vec_capacity, vec_len}
use Rattle.std.specs.Prelude.{map}
use Rattle.craq_audit.specs.Lookups.{cells_of}
use Rattle.craq_locked_chain.specs.Held.{cell_in}
use Rattle.craq_locked_chain.proofs.locked_chain.cells_in.Given as goal

-- the cells of the seats so far, and room for the others
abbrev pub invariant-loop-seat : goal.invariant-loop-seat
invariant-loop-seat g l = (cells_of l.cells.items ≡ map cell_in (take l.seat-index l.seats)) × (vec_len l.cells + (length l.seats - l.seat-index) ≤ vec_capacity l.cells)
