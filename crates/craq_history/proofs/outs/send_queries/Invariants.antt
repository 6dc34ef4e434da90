use Rattle.std.proofs.Common.{◌≡◌, ◌++◌, map, take}
use Rattle.craq_model.specs.declared.message.Body.TheVariants as bodies
use Rattle.craq_model.specs.declared.waiting.WaitingRead.{WaitingRead}
use Rattle.craq_history.specs.Standing.{sent_from}
use Rattle.craq_history.proofs.outs.send_queries.Given as goal

abbrev pub invariant-loop-read : goal.invariant-loop-read
invariant-loop-read l =
    l.outs.items ≡ l.initial.outs.items ++ map (λ (r : WaitingRead). sent_from l.sender.name l.sender.epoch l.to (bodies.Query r.ticket r.key)) (take l.read-index l.reads)
