use Rattle.std.proofs.Common.{◌≡◌, ◌≢◌, ◌++◌, List, ℕ, map}
use Rattle.std.specs.Prelude.{All}
use Rattle.craq_names.specs.Limits.{greatest}
use Rattle.craq_commands.specs.Objects.{version_of}
use Rattle.craq_model.specs.Asks.{versioned_write}
use Rattle.craq_model.specs.Past.{newest_in}
use Rattle.craq_write.proofs.making_entries.versioned.Given as goal

-- each remaining write has a next version, and follows those made
abbrev pub invariant-loop-key : goal.invariant-loop-key
invariant-loop-key g l = record {
  left : All (λ (w : List ℕ × List ℕ). version_of (newest_in (g.H.History.past l.history)).objects w.0 ≢ greatest) l.key-iterator.rest.items;
  made : l.made.items ++ map (versioned_write (newest_in (g.H.History.past l.history)).objects) l.key-iterator.rest.items ≡ map (versioned_write (newest_in (g.H.History.past l.history)).objects) l.fn.writes.items;
}
