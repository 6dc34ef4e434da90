use Rattle.std.proofs.Common.{List, ◌++◌, take}
use Rattle.craq_commands.specs.declared.entry.Entry.{Entry}
use Rattle.craq_explain.specs.Tables.{IsCommitted}
use Rattle.craq_explain.proofs.committed.Committed.add.Given as goal

abbrev pub invariant-loop-entry : goal.invariant-loop-entry
invariant-loop-entry l = (entries : List Entry) → IsCommitted entries l.initial.self → IsCommitted (entries ++ take l.entry-index l.more) l.self
