use Rattle.std.proofs.Common.{◌≡◌, ◌+◌, drop}
use Rattle.std.specs.Prelude.{◌==◌}
use Rattle.std.specs.List.{list_all}
use Rattle.craq_commands.specs.declared.entry.Write.{Write}
use Rattle.craq_commands.specs.Objects.{version_of}
use Rattle.craq_commands.specs.SingleCopy.{after_entries}
use Rattle.craq_model.specs.Past.{newest_in}
use Rattle.craq_node_invariant.specs.Compacted.{compacted_in}
use Rattle.craq_compact_history.specs.Stored.{stored}
use Rattle.craq_compact_history.proofs.history.CompactingHistory.is_next.Given as goal

-- each visited write has the next version
abbrev pub invariant-loop-write : goal.invariant-loop-write
invariant-loop-write l =
    list_all (λ (w : Write). w.version == version_of (after_entries (newest_in (compacted_in (stored l.self.held.base l.self.held.state l.self.held.entries l.self.acknowledged))) l.earlier).objects w.key + 1) (drop l.write-index l.entry.writes)
    ≡ list_all (λ (w : Write). w.version == version_of (after_entries (newest_in (compacted_in (stored l.self.held.base l.self.held.state l.self.held.entries l.self.acknowledged))) l.earlier).objects w.key + 1) l.entry.writes
