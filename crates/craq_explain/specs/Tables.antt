-- Lookups in an account, and the tables that answer them.
use Rattle.std.specs.Prelude.{◌≡◌, ℕ, ◌==◌, ◌&&◌, List, map, find, option_map, Option}
use Rattle.craq_commands.specs.declared.entry.Entry.{Entry}
use Rattle.craq_runs.specs.declared.explanation.Place.{Place}
use Rattle.craq_runs.specs.Explain.{wrote}
use Rattle.craq_runs.specs.Seen.{Asked, ask_with}
use Rattle.craq_explain.specs.declared.committed.Committed.{Committed}
use Rattle.craq_explain.specs.declared.tables.Tables.{Tables}
use Rattle.craq_explain.specs.Firsts.{Tells, name_cmp, write_cmp}

-- the origin of an entry: a node, and a ticket there
abbrev pub origin : Entry → ℕ × ℕ
origin e = (e.origin_node, e.origin_ticket)

-- the move of the first request at a node that got a ticket
unfoldable pub asked_at : List Asked → ℕ × ℕ → Option ℕ
asked_at asks name = option_map (λ (a : Asked). a.move) (ask_with asks name.0 name.1)

-- the first pending position at a node for a ticket
unfoldable pub pending_of : List Place → ℕ × ℕ → Option ℕ
pending_of pending name = option_map (λ (p : Place). p.position) (find (λ (p : Place). (p.node == name.0) && (p.ticket == name.1)) pending)

-- the position of the first entry that wrote a version of a key
unfoldable pub first_written : List Entry → List ℕ × ℕ → Option ℕ
first_written entries write = option_map (λ (e : Entry). e.position) (find (wrote write.0 write.1) entries)

-- the table has the origins of these entries, and the position of the first write of each version
pub record IsCommitted (entries : List Entry) (c : Committed) : Type 0 where
  pub origins : c.origins.items ≡ map origin entries
  pub written : Tells write_cmp c.written (first_written entries)

-- the tables answer the lookups in these requests, places and entries
pub record AreTables (asks : List Asked) (places : List Place) (entries : List Entry) (t : Tables) : Type 0 where
  pub asked : Tells name_cmp t.asked (asked_at asks)
  pub pending : Tells name_cmp t.pending (pending_of places)
  pub committed : IsCommitted entries t.committed
