-- Entries that are applied to a state.
use Rattle.std.specs.Prelude.{◌≡◌, ◌-◌, take, drop}
use Rattle.craq_commands.specs.declared.state.State.{State}
use Rattle.craq_commands.specs.SingleCopy.{after_entries}
use Rattle.craq_log.specs.Suffixed.{Suffixed}

-- the entries up to the new base are removed, and the new state is that after them
pub record AreApplied (s : State) (old : Suffixed) (t : State) (new : Suffixed) : Type 0 where
  pub state : t ≡ after_entries s (take (new.base - old.base) old.entries)
  pub entries : new.entries ≡ drop (new.base - old.base) old.entries
