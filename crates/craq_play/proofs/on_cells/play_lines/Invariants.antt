use Rattle.std.proofs.Common.{◌≡◌, ◌++◌, string_bytes, drop}
use Rattle.craq_play.specs.Played.{lines_text, played_text}
use Rattle.craq_play.proofs.on_cells.play_lines.Given as goal

-- the text so far, followed by that of the remaining lines, is the whole text
abbrev pub invariant-loop-line : goal.invariant-loop-line
invariant-loop-line g l = string_bytes l.text ++ lines_text l.chain (drop l.line-index l.lines) ≡ played_text l.nodes l.lines
