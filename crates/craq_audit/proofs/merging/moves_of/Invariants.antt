use Rattle.std.proofs.Common.{◌≡◌, map, take}
use Rattle.craq_runs.specs.Typed.{AreOfType}
use Rattle.craq_audit.specs.Lines.{taken_among}
use Rattle.craq_audit.proofs.merging.moves_of.Given as goal

abbrev pub invariant-loop-line : goal.invariant-loop-line
invariant-loop-line l = record {
  moves : l.moves.items ≡ map (taken_among l.lines) (take l.line-index l.lines);
  typed : AreOfType l.moves.items;
}
