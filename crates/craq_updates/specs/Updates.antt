-- The updates from which entries were made.
use Rattle.std.specs.Prelude.{List, map, filter_map}
use Rattle.craq_commands.specs.declared.command.Update.{Update}
use Rattle.craq_commands.specs.declared.entry.Entry.{Entry}
use Rattle.craq_runs.specs.Explain.{ask_number}
use Rattle.craq_runs.specs.Seen.{Seen, update_at}

-- the updates of the requests that the entries name, in order
abbrev pub updates_in : Seen → List Entry → List Update
updates_in s entries = filter_map (update_at s.asks) (map (ask_number s.asks) entries)
