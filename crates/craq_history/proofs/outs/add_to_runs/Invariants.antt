use Rattle.std.proofs.Common.{◌≡◌, ◌<◌, ◌++◌, List, length, drop}
use Rattle.craq_commands.specs.declared.entry.Entry.{Entry}
use Rattle.craq_model.specs.Sends.{entry_bodies}
use Rattle.craq_history.proofs.outs.add_to_runs.Given as goal

-- the finished messages and those of the run and the remaining entries are invariant
abbrev pub invariant-loop-entry : goal.invariant-loop-entry
invariant-loop-entry l = record {
  room : length l.run.items < 16;
  made : (rest : List Entry)
      → l.bodies.items ++ entry_bodies (l.run.items ++ (drop l.entry-index l.entries ++ rest))
      ≡ l.initial.bodies.items ++ entry_bodies (l.initial.run.items ++ (l.entries ++ rest));
}
