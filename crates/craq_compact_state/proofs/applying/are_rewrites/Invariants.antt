use Rattle.std.proofs.Common.{◌≤◌, take}
use Rattle.std.specs.List.{AllByRecursion}
use Rattle.craq_commands.specs.declared.entry.Write.{Write}
use Rattle.craq_compact_state.proofs.applying.are_rewrites.Given as goal

-- each visited write is a rewrite
abbrev pub invariant-loop-write : goal.invariant-loop-write
invariant-loop-write l = AllByRecursion (λ (w : Write). 2 ≤ w.version) (take l.write-index l.writes)
