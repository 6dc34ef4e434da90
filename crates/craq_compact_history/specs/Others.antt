-- Entries of a client.
use Rattle.std.specs.Prelude.{ℕ, ◌==◌, Bool}
use Rattle.craq_commands.specs.declared.entry.Entry.{Entry}

-- the entry is of the client
abbrev pub is_of : ℕ → Entry → Bool
is_of client e = e.client == client
