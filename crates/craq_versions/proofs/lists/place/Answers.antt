use Rattle.std.proofs.Common.{ap, sym}
use Rattle.std.specs.Prelude.{is_some}
use Rattle.craq_key_map.specs.Mapped.{entries_of}
use Rattle.craq_versions.proofs.Taken.{was_none}
use Rattle.craq_versions.proofs.Written.{none_first}
use Rattle.craq_versions.proofs.lists.place.Goals as goal

pub returns-in_err-copied-in-None-clause-succeeds : goal.returns-in_err-copied-in-None-clause-succeeds
returns-in_err-copied-in-None-clause-succeeds g c = λ room. absurd (none_first (entries_of c.args.lists.now) c.args.key.now (was_none c.args.lists.now c.args.key.now (sym c.in-None.ensures)) room)

pub returns-in-Some-clause-placed : goal.returns-in-Some-clause-placed
returns-in-Some-clause-placed g c = ap is_some (sym c.in-Some.ensures)

pub returns-in_ok-copied-in-None-clause-succeeds : goal.returns-in_ok-copied-in-None-clause-succeeds
returns-in_ok-copied-in-None-clause-succeeds g c = λ room. absurd (none_first (entries_of c.args.lists.now) c.args.key.now (was_none c.args.lists.now c.args.key.now (sym c.in-None.ensures)) room)
