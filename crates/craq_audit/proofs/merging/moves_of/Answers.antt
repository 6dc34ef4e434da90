use Rattle.std.proofs.Common.{arith, subst, sym}
use Rattle.craq_runs.specs.Typed.{AreOfType}
use Rattle.craq_laws.proofs.Nodes.{typed_push}
use Rattle.craq_audit.specs.Lines.{taken_among}
use Rattle.craq_audit.proofs.Counted.{mapped_push}
use Rattle.craq_audit.proofs.merging.moves_of.Goals as goal

pub loop-line-preserved : goal.loop-line-preserved
loop-line-preserved c =
    record {
      moves = mapped_push (taken_among c.args.lines.now) c.args.lines.now c.loop-line.line-index c.line-item.result c.loop-line.moves.items c.push.new.self.items c.in_ok-taken_of.field-0 (omega arith) c.line-item.is c.in_ok-push.ensures.items c.loop-line.invariant.moves c.in_ok-taken_of.ensures.taken;
      typed = subst AreOfType (sym c.in_ok-push.ensures.items) (typed_push c.loop-line.moves.items c.in_ok-taken_of.field-0 c.loop-line.invariant.typed c.in_ok-taken_of.ensures.typed);
    }
