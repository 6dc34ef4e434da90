use Rattle.std.proofs.Common.{◌≡◌, ◌++◌, map, drop}
use Rattle.craq_model.specs.declared.message.LinkMessage.{LinkMessage}
use Rattle.craq_runs.specs.Chain.{sent_in}
use Rattle.craq_explain.proofs.notes.add_sends.Given as goal

abbrev pub invariant-loop-out : goal.invariant-loop-out
invariant-loop-out l = l.sent_at.items ++ map (λ (m : LinkMessage). l.count) (sent_in (drop l.out-index l.outs)) ≡ l.initial.sent_at.items ++ map (λ (m : LinkMessage). l.count) (sent_in l.outs)
