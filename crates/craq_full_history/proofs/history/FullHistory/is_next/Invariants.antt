use Rattle.std.proofs.Common.{◌≡◌, ◌+◌, drop}
use Rattle.std.specs.Prelude.{◌==◌}
use Rattle.std.specs.List.{list_all}
use Rattle.craq_commands.specs.declared.entry.Write.{Write}
use Rattle.craq_commands.specs.Objects.{version_of}
use Rattle.craq_commands.specs.SingleCopy.{after_entries}
use Rattle.craq_full_history.proofs.history.FullHistory.is_next.Given as goal

-- each visited write has the next version
abbrev pub invariant-loop-write : goal.invariant-loop-write
invariant-loop-write l =
    list_all (λ (w : Write). w.version == version_of (after_entries (after_entries l.self.base_state l.self.entries.items) l.earlier).objects w.key + 1) (drop l.write-index l.entry.writes)
    ≡ list_all (λ (w : Write). w.version == version_of (after_entries (after_entries l.self.base_state l.self.entries.items) l.earlier).objects w.key + 1) l.entry.writes
