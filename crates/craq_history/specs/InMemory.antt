-- The part of a past that is in memory.
use Rattle.std.specs.Prelude.{◌≡◌, ◌<◌, ◌≤◌, ◌-◌, take}
use Rattle.craq_commands.specs.SingleCopy.{after_entries}
use Rattle.craq_model.specs.Past.{Past, entries_in}

-- a prefix of the settled entries is applied to the state before them; the others, at least one,
-- are still entries
pub record ArePartlyApplied (old new : Past) : Type 0 where
  pub from : old.base ≤ new.base
  pub to : new.base < new.acknowledged
  pub base_state : new.base_state ≡ after_entries old.base_state (take (new.base - old.base) old.entries)
  pub entries : new.entries ≡ entries_in old new.base
  pub acknowledged : new.acknowledged ≡ old.acknowledged
