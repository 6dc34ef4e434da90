-- A node's past: a history whose first entries are known only by their state, and its commit index.
use Rattle.std.specs.Prelude.{ℕ, ◌+◌, ◌-◌, ◌==◌, nat_le, if◌then◌else◌, List, [], ◌∷◌, ◌++◌, length, take, drop}
use Rattle.craq_names.specs.Maps.{same_bytes}
use Rattle.craq_commands.specs.declared.entry.Entry.{Entry}
use Rattle.craq_commands.specs.declared.entry.Write.{Write}
use Rattle.craq_commands.specs.Objects.{object_of}
use Rattle.craq_commands.specs.declared.state.State.{State}
use Rattle.craq_commands.specs.SingleCopy.{opening_state, after_entries}

pub record Past : Type 0 where
  pub base : ℕ  -- the number of entries that only the state represents
  pub base_state : State
  pub entries : List Entry  -- the entries after the base
  pub acknowledged : ℕ  -- the commit index

-- the empty past
abbrev pub no_past : Past
no_past = record { base = 0; base_state = opening_state; entries = []; acknowledged = 0 }

-- the number of entries of the history
abbrev pub length_in : Past → ℕ
length_in h = h.base + length h.entries

-- the entries after a position
abbrev pub entries_in : Past → ℕ → List Entry
entries_in h position = drop (position - h.base) h.entries

-- the state after all entries, and after the committed ones
abbrev pub newest_in : Past → State
newest_in h = after_entries h.base_state h.entries

abbrev pub clean_in : Past → State
clean_in h = after_entries h.base_state (take (h.acknowledged - h.base) h.entries)

-- the versions and values that these writes give a key
unfoldable pub values_in : List Write → List ℕ → List (ℕ × List ℕ)
values_in [] key = []
values_in (w ∷ ws) key = if same_bytes w.key key then (w.version, w.value) ∷ values_in ws key else values_in ws key

-- the versions and values that these entries give a key
unfoldable pub values_after : List Entry → List ℕ → List (ℕ × List ℕ)
values_after [] key = []
values_after (e ∷ es) key = values_in e.writes key ++ values_after es key

-- the last of the versions that is at most a bound
unfoldable pub newest_within : ℕ → ℕ × List ℕ → List (ℕ × List ℕ) → ℕ × List ℕ
newest_within bound found [] = found
newest_within bound found (v ∷ vs) = if nat_le v.0 bound then newest_within bound v vs else found

-- the newest version held, from the clean one on, that is at most a bound
abbrev pub object_within_in : Past → List ℕ → ℕ → ℕ × List ℕ
object_within_in h key bound = newest_within bound (object_of (clean_in h).objects key) (values_after (entries_in h h.acknowledged) key)

-- the position of a client's newest entry, the base if none of the entries is the client's
unfoldable pub last_position : ℕ → ℕ → List Entry → ℕ
last_position client found [] = found
last_position client found (e ∷ es) = last_position client (if e.client == client then e.position else found) es

-- the past with more entries, with a higher commit index, and with a state in place of its entries
abbrev pub with_entries_in : Past → List Entry → Past
with_entries_in h es = record h { entries = h.entries ++ es }

abbrev pub acknowledged_in : Past → ℕ → Past
acknowledged_in h position = record h { acknowledged = position }

abbrev pub installed_in : ℕ → State → Past
installed_in position state = record { base = position; base_state = state; entries = []; acknowledged = position }
