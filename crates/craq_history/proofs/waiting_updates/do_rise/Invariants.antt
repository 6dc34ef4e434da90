use Rattle.std.proofs.Common.{◌≡◌, drop}
use Rattle.craq_history.specs.Waiting.{rise, rise_from}
use Rattle.craq_history.proofs.waiting_updates.do_rise.Given as goal

abbrev pub invariant-loop-place : goal.invariant-loop-place
invariant-loop-place l = rise_from l.low (drop l.place l.items.items) ≡ rise l.items.items
