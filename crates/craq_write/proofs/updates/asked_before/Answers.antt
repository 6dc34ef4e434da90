use Rattle.std.proofs.Common.{◌≡◌, true, false, inr}
use Rattle.craq_model.specs.Plain.{length_of, position_of}
use Rattle.craq_history.specs.Nodes.{plain_of}
use Rattle.craq_write.specs.Places.{has_place}
use Rattle.craq_write.proofs.Places.{known_refused, known_taken, lacks_memory}
use Rattle.craq_write.proofs.updates.asked_before.Goals as goal

pub returns-then-not-has_place : goal.returns-then-not-has_place
returns-then-not-has_place g c =
    let p = plain_of g.H.History.past c.args.node.now in
    let none : has_place p (length_of p) (position_of p c.args.client) ≡ false = cc in
    inr (known_refused p (position_of p c.args.client) c.args.reply.now none)

pub returns-in_err-computed : goal.returns-in_err-computed
returns-in_err-computed g c =
    let p = plain_of g.H.History.past c.args.node.now in
    let some : has_place p (length_of p) (position_of p c.args.client) ≡ true = cc in
    lacks_memory p c.from_residual.result _ c.from_residual.ensures (known_taken p (position_of p c.args.client) c.args.reply.now some)
