-- The stored form of a past.
use Rattle.std.specs.Prelude.{ℕ, List}
use Rattle.craq_commands.specs.declared.entry.Entry.{Entry}
use Rattle.craq_commands.specs.declared.state.State.{State}
use Rattle.craq_model.specs.Past.{Past}

-- the state at a base, the entries after it, and the commit index
abbrev pub stored : ℕ → State → List Entry → ℕ → Past
stored base state entries acknowledged = record { base = base; base_state = state; entries = entries; acknowledged = acknowledged }
