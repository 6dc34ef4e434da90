use Rattle.std.proofs.Common.{refl}
use Rattle.craq_key_map.specs.Mapped.{entries_of}
use Rattle.craq_versions.proofs.Taken.{rise}
use Rattle.craq_versions.proofs.Written.{rising_keys}
use Rattle.craq_versions.proofs.table.ObjectTable.pop.Goals as goal

pub returns-clause-rising : goal.returns-clause-rising
returns-clause-rising g c = rising_keys (entries_of c.pop_in.new.lists) _ refl (rise c.pop_in.new.lists)
