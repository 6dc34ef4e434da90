use Rattle.std.proofs.Common.{◌≡◌, ◌≤◌, ◌+◌, ◌++◌, drop, length}
use Rattle.craq_names.specs.Limits.{greatest}
use Rattle.craq_causality.proofs.Numbers.{all_sent}
use Rattle.craq_audit.specs.Lines.{sums_from}
use Rattle.craq_audit.proofs.numbers.sums_of.Given as goal

abbrev pub invariant-loop-line : goal.invariant-loop-line
invariant-loop-line l = record {
  sums : l.sums.items ++ sums_from l.sum (drop l.line-index l.lines) ≡ sums_from 0 l.lines;
  few : l.sum ≤ greatest;
  all : l.sum + length (all_sent (drop l.line-index l.lines)) ≡ length (all_sent l.lines);
}
