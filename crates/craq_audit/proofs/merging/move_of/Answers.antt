use Rattle.std.proofs.Common.{ap, sym, ◌∙◌}
use Rattle.craq_seat.specs.Merge.{move_among}
use Rattle.craq_audit.specs.Lines.{happening}
use Rattle.craq_audit.proofs.merging.move_of.Goals as goal

pub returns-in-AtMaster : goal.returns-in-AtMaster
returns-in-AtMaster c =
    let e = sym (ap happening c.in-AtMaster.is) ∙ c.event.ensures in
    c.book_move.ensures c.args.lines.now c.args.line.now.node ∙ ap (move_among c.args.lines.now c.args.line.now.node) e
