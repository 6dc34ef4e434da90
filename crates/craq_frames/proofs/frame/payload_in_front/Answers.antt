use Rattle.std.proofs.Common.{ap, Err, arith}
use Rattle.craq_frames.proofs.Fronts.{no_length, long_length, few_follow, payload_follows}
use Rattle.craq_frames.proofs.frame.payload_in_front.Goals as goal

pub returns-in-Err-clause-part : goal.returns-in-Err-clause-part
returns-in-Err-clause-part c = λ e. no_length c.args.bytes.now c.in-Err.field-0 c.in-Err.ensures.value (λ m. c.in-Err.ensures.free (ap Err m))

pub returns-then-len-gt-MAX_PAYLOAD-clause-long : goal.returns-then-len-gt-MAX_PAYLOAD-clause-long
returns-then-len-gt-MAX_PAYLOAD-clause-long c = λ e.
    long_length c.args.bytes.now c.in-Ok.len c.in-Ok.rest.now (λ i. omega (arith, c.type_inv.bytes i)) c.in-Ok.ensures.value (omega (arith, c.if-len-gt-MAX_PAYLOAD.true))

pub returns-then-rest-len-clause-part : goal.returns-then-rest-len-clause-part
returns-then-rest-len-clause-part c = λ e.
    few_follow c.args.bytes.now c.in-Ok.len c.in-Ok.rest.now (λ i. omega (arith, c.type_inv.bytes i)) c.in-Ok.ensures.value
    (omega (arith, c.if-len-gt-MAX_PAYLOAD.false)) (omega (arith, c.if-rest-len.true))

pub returns-else-rest-len-clause-whole : goal.returns-else-rest-len-clause-whole
returns-else-rest-len-clause-whole c =
    payload_follows c.args.bytes.now c.in-Ok.len c.in-Ok.rest.now (λ i. omega (arith, c.type_inv.bytes i)) c.in-Ok.ensures.value
    (omega (arith, c.if-len-gt-MAX_PAYLOAD.false)) (omega (arith, c.if-rest-len.false))
