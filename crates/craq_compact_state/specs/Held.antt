-- The storage of a compacted past.
use Rattle.std.specs.Prelude.{ℕ, ◌+◌, List, length}
use Rattle.craq_commands.specs.declared.entry.Entry.{Entry}
use Rattle.craq_commands.specs.declared.state.State.{State}

-- the state at a base, and the entries after it; the versions index the entries up to some position
pub record Held : Type 0 where
  pub base : ℕ
  pub state : State
  pub entries : List Entry
  pub indexed : ℕ  -- entries up to this position are indexed
  pub rooms : List (List ℕ × ℕ)  -- by key, the number of further versions with room

-- the number of entries of the past
abbrev pub length_of : Held → ℕ
length_of h = h.base + length h.entries
