-- The entries of a history after a base position.
use Rattle.std.specs.Prelude.{◌≡◌, ◌⊎◌, ℕ, ◌+◌, ◌-◌, ◌<◌, ◌≤◌, ◌^◌, List, ◌∷◌, length, drop}
use Rattle.craq_commands.specs.declared.entry.Entry.{Entry}
use Rattle.craq_node_invariant.specs.Sound.{AreInRow}

pub record Suffixed : Type 0 where
  pub base : ℕ  -- the number of entries before these
  pub entries : List Entry
  pub room : ℕ  -- the number of further entries that need no allocation

-- the number of entries of the history
abbrev pub length_of : Suffixed → ℕ
length_of s = s.base + length s.entries

-- the entries after a position
abbrev pub entries_after : Suffixed → ℕ → List Entry
entries_after s position = drop (position - s.base) s.entries

-- the entry is the first, and the rest follows it
pub record IsFirstOf (e : Entry) (s left : Suffixed) : Type 0 where
  pub entries : s.entries ≡ e ∷ left.entries
  pub base : left.base ≡ s.base + 1

-- stored entries, consecutive from the first; the first `settled` are dropped already
pub record IsStored (start settled : ℕ) (entries : List Entry) : Type 0 where
  pub within : settled ≤ length entries
  pub numbered : start + length entries < 2 ^ 64
  pub in_row : AreInRow (start + settled + 1) (drop settled entries)

-- of the stored entries, fewer than 64 are dropped already, or at most half
abbrev pub IsTrimmed : ℕ → List Entry → Type 0
IsTrimmed settled entries = (settled < 64) ⊎ (settled + settled ≤ length entries)
