use Rattle.std.proofs.Common.{◌≡◌, ◌+◌, drop}
use Rattle.craq_commands.specs.Objects.{all_written}
use Rattle.craq_check.specs.Tests.{HasVersionsUpTo}
use Rattle.craq_check.proofs.single.put_writes.Given as goal

-- the rest goes on from the objects so far; each write raised one version
abbrev pub invariant-loop-key : goal.invariant-loop-key
invariant-loop-key l = record {
  most : l.most ≡ l.highest + l.key-index;
  bound : HasVersionsUpTo l.most l.objects.entries;
  goes_on : all_written l.objects.entries (drop l.key-index l.writes) ≡ all_written l.fn.objects.entries l.writes;
}
