use Rattle.craq_versions.specs.Tables.{table_in}
use Rattle.craq_versions.proofs.Placed.{settles_in_table}
use Rattle.craq_versions.proofs.table.ObjectTable.settle_as_at.Goals as goal

pub settle_as_at_in-requires-clause-next : goal.settle_as_at_in-requires-clause-next
settle_as_at_in-requires-clause-next g c = settles_in_table c.args.self.now (table_in c.self.inside.lists) c.self.view_is c.args.place c.args.version c.requires.next
