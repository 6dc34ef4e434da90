use Rattle.std.proofs.Common.{◌≡◌, drop}
use Rattle.std.specs.List.{list_any}
use Rattle.craq_wire.proofs.alike.is_among.Given as goal

-- no item so far equals it
abbrev pub invariant-loop-other : goal.invariant-loop-other
invariant-loop-other g l = list_any (g.T.Alike.same l.item) (drop l.other-index l.items) ≡ list_any (g.T.Alike.same l.item) l.items
