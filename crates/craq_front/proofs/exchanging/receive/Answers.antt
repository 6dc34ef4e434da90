use Rattle.std.proofs.Common.{ap, refl, length, arith, length-append}
use Rattle.craq_front.proofs.Exchanges.{partial_few, positive}
use Rattle.craq_front.proofs.exchanging.receive.Goals as goal

pub loop-payload-smaller : goal.loop-payload-smaller
loop-payload-smaller g c =
    let part = (rw c.in-Ok-None.field-0-is at c.in-Ok-None.ensures.part) refl in
    let few = partial_few c.loop-payload.buffers.input.items part.0 in
    let more = c.in-Ok.ensures.ok in
    let same = ap length part.1 in
    let grown = ap length more.2 in
    let sum = length-append c.cut_off_frame.new.buffer.items more.0 in
    let some = positive c.in-Ok.field-0 c.in-Ok.field-0-test.1 in
    omega (arith, few, same, grown, sum, more.1, some)
