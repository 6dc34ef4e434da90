use Rattle.std.proofs.Common.{◌≡◌, take}
use Rattle.craq_compact_state.proofs.held.replies_placed.Given as goal

-- the table has the replies of the visited clients
abbrev pub invariant-loop-client : goal.invariant-loop-client
invariant-loop-client l = l.table.kept ≡ take l.client-index l.fn.kept
