use Rattle.std.proofs.Common.{◌≡◌, ◌++◌, ℕ, true, length}
use Rattle.std.specs.List.{list_any}
use Rattle.craq_node_invariant.specs.Sound.{AreEncodable}
use Rattle.craq_seat.specs.Calls.{answers_to, called_in, waiting_after}
use Rattle.craq_seat.proofs.calls.take_answered.Given as goal

abbrev pub invariant-loop-out : goal.invariant-loop-out
invariant-loop-out l =
    (l.receipts.items ++ called_in l.waiting.items l.answered l.rest ≡ called_in l.fn.waiting.items l.answered l.outs)
    × (waiting_after l.waiting.items l.outs ≡ waiting_after l.fn.waiting.items l.outs)
    × ((ticket : ℕ) → list_any (answers_to ticket) l.rest ≡ true → list_any (answers_to ticket) l.outs ≡ true)
    × AreEncodable l.rest

abbrev pub decreases-loop-out : goal.decreases-loop-out
decreases-loop-out l = length l.rest
