use Rattle.std.proofs.Common.{sym, ◌∙◌, arith}
use Rattle.craq_wire.proofs.Messages.{found, only, nothing_there, rules_broken}
use Rattle.craq_wire.proofs.wire.decode.Goals as goal

pub returns-then-test_message-clause-found : goal.returns-then-test_message-clause-found
returns-then-test_message-clause-found c =
    found c.args.bytes.now c.in-Ok.message (λ i. omega (arith, c.type_inv.bytes i)) c.in-Ok.ensures (sym c.test_message.ensures ∙ c.if-test_message.true)

pub returns-then-test_message-clause-only : goal.returns-then-test_message-clause-only
returns-then-test_message-clause-only c = λ other s. only c.args.bytes.now c.in-Ok.message other c.in-Ok.ensures s

pub returns-else-test_message-clause-bad : goal.returns-else-test_message-clause-bad
returns-else-test_message-clause-bad c = λ e m s. rules_broken c.args.bytes.now c.in-Ok.message m c.in-Ok.ensures (sym c.test_message.ensures ∙ c.if-test_message.false) s

pub returns-in-Err-BadFrame-clause-bad : goal.returns-in-Err-BadFrame-clause-bad
returns-in-Err-BadFrame-clause-bad c = λ e m s. nothing_there c.args.bytes.now m (rw c.in-Err-BadFrame.field-0-is at c.in-Err-BadFrame.ensures) s
