use Rattle.std.proofs.Common.{string_bytes}
use Rattle.craq_play.specs.Played.{played_text}
use Rattle.craq_play.proofs.Lines.{line_done}
use Rattle.craq_play.proofs.on_cells.play_lines.Goals as goal

pub loop-line-preserved : goal.loop-line-preserved
loop-line-preserved g c =
    rw c.in_ok-play_line.ensures.chain (line_done c.loop-line.chain c.loop-line.line-index c.args.lines.now c.line-item.result (string_bytes c.loop-line.text) (string_bytes c.play_line.new.text) (played_text c.args.nodes c.args.lines.now) c.loop-line-test.true c.line-item.is c.in_ok-play_line.ensures.text c.loop-line.invariant)
