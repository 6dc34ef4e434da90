use Rattle.std.proofs.Common.{◌≡◌, drop}
use Rattle.craq_names.specs.Maps.{at_number}
use Rattle.craq_full_history.proofs.states.window_of.Given as goal

-- no visited window is the client's
abbrev pub invariant-loop-name : goal.invariant-loop-name
invariant-loop-name l = at_number (drop l.name-index l.items) l.client ≡ at_number l.items l.client
