use Rattle.std.proofs.Common.{◌≡◌, ◌++◌, map, length}
use Rattle.craq_model.specs.declared.message.Body.TheVariants.{Part}
use Rattle.craq_history.specs.Standing.{sent_from}
use Rattle.craq_write.proofs.sending_states.send_parts.Given as goal

-- the sends so far and the remaining parts are all sends
abbrev pub invariant-loop-part : goal.invariant-loop-part
invariant-loop-part l =
    l.outs.items ++ map (sent_from l.sender.name l.sender.epoch l.to) (map Part l.parts.items) ≡ l.fn.outs.items ++ map (sent_from l.sender.name l.sender.epoch l.to) (map Part l.fn.parts.items)

abbrev pub decreases-loop-part : goal.decreases-loop-part
decreases-loop-part l = length l.parts.items
