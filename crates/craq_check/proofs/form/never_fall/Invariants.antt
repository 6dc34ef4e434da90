use Rattle.std.proofs.Common.{◌≡◌, drop}
use Rattle.craq_check.specs.Tests.{never_fall}
use Rattle.craq_check.proofs.form.never_fall.Given as goal

-- the rest goes on from the length so far
abbrev pub invariant-loop-count : goal.invariant-loop-count
invariant-loop-count l = never_fall l.before (drop l.count-index l.lens) ≡ never_fall 0 l.lens
