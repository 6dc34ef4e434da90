use Rattle.std.proofs.Common.{◌≡◌, ℕ, List, drop}
use Rattle.std.specs.Option.{option_or}
use Rattle.std.specs.BTreeMap.{get}
use Rattle.craq_runs.specs.Explain.{wrote}
use Rattle.craq_explain.specs.Firsts.{number_if, write_cmp}
use Rattle.craq_explain.proofs.Noting.{any_wrote}
use Rattle.craq_explain.proofs.committed.note_writes.Given as goal

-- the writes so far and those to come are all
abbrev pub invariant-loop-write : goal.invariant-loop-write
invariant-loop-write l =
    (q : List ℕ × ℕ) → option_or (get write_cmp l.written q) (number_if (any_wrote (drop l.write-index l.entry.writes) q) l.entry.position) ≡ option_or (get write_cmp l.initial.written q) (number_if (wrote q.0 q.1 l.entry) l.entry.position)
