use Rattle.std.proofs.Common.{◌≡◌, drop}
use Rattle.craq_names.specs.Maps.{at_number}
use Rattle.craq_commands.proofs.window.reply_in.Given as goal

-- no visited reply has the number
abbrev pub invariant-loop-kept : goal.invariant-loop-kept
invariant-loop-kept l = at_number (drop l.kept-index l.replies) l.number ≡ at_number l.replies l.number
