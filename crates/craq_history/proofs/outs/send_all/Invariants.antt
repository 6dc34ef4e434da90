use Rattle.std.proofs.Common.{◌≡◌, ◌++◌, map}
use Rattle.craq_history.specs.Standing.{sent_from}
use Rattle.craq_history.proofs.outs.send_all.Given as goal

-- the messages taken so far are sent
abbrev pub invariant-loop-body : goal.invariant-loop-body
invariant-loop-body l = l.outs.items ≡ l.initial.outs.items ++ map (sent_from l.sender.name l.sender.epoch l.to) l.yielded
