use Rattle.std.proofs.Common.{◌≡◌, ◌++◌, map, drop}
use Rattle.craq_model.specs.Deliveries.{pending_updates}
use Rattle.craq_model.specs.Settle.{answer_outs, update_given}
use Rattle.craq_write.proofs.deliveries.answer_pending.Given as goal

abbrev pub invariant-loop-place : goal.invariant-loop-place
invariant-loop-place l =
    l.outs.items ++ answer_outs (map update_given (pending_updates l.position (drop l.place l.updates.items))) ≡ l.initial.outs.items ++ answer_outs (map update_given (pending_updates l.position l.updates.items))
