use Rattle.std.proofs.Common.{◌↔◌, drop}
use Rattle.craq_model.specs.declared.step.Out.TheVariants.{Answer}
use Rattle.craq_audit.specs.Lookups.{Found, IsOut}
use Rattle.craq_audit.proofs.receipts.has_answer.Given as goal

abbrev pub invariant-loop-out : goal.invariant-loop-out
invariant-loop-out l = Found (IsOut (Answer l.ticket l.answer)) (drop l.out-index l.outs) ↔ Found (IsOut (Answer l.ticket l.answer)) l.outs
