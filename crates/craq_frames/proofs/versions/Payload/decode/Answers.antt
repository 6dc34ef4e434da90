use Rattle.std.proofs.Common.{arith}
use Rattle.craq_frames.proofs.BothVersions.{payload_found, payload_only, no_payload}
use Rattle.craq_frames.proofs.versions.Payload.decode.Goals as goal

pub returns-in-Ok-clause-found : goal.returns-in-Ok-clause-found
returns-in-Ok-clause-found c = payload_found c.args.bytes.now c.in-Ok.payload (λ i. omega (arith, c.type_inv.bytes i)) c.in-Ok.ensures

pub returns-in-Ok-clause-only : goal.returns-in-Ok-clause-only
returns-in-Ok-clause-only c = λ other s. payload_only c.args.bytes.now c.in-Ok.payload other c.in-Ok.ensures s

pub returns-in-Err-BadFrame-clause-bad : goal.returns-in-Err-BadFrame-clause-bad
returns-in-Err-BadFrame-clause-bad c = λ e m s. no_payload c.args.bytes.now m (rw c.in-Err-BadFrame.field-0-is at c.in-Err-BadFrame.ensures) s
