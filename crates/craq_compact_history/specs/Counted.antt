-- The number of objects of a state, and the bytes of a past.
use Rattle.std.specs.Prelude.{◌≡◌, ◌≤◌, ℕ, ◌+◌, ◌%◌, ◌^◌, ◌==◌, List, [], ◌∷◌, if◌then◌else◌}
use Rattle.std.specs.List.{AllByRecursion}
use Rattle.craq_commands.specs.declared.entry.Entry.{Entry}
use Rattle.craq_commands.specs.declared.entry.Write.{Write}
use Rattle.craq_commands.specs.Objects.{Objects}
use Rattle.craq_model.specs.Past.{Past}
use Rattle.craq_node_invariant.specs.Compacted.{compacted_in}
use Rattle.craq_compact_state.specs.Bytes.{bytes_of_entries, bytes_of_objects}

-- the number of writes of version 1: each makes an object
abbrev pub first_writes : List Write → ℕ
first_writes [] = 0
first_writes (w ∷ ws) = (if w.version == 1 then 1 else 0) + first_writes ws

-- the number of objects that entries make
abbrev pub new_objects : List Entry → ℕ
new_objects [] = 0
new_objects (e ∷ es) = first_writes e.writes + new_objects es

-- each of the objects was written
abbrev pub AreWritten : Objects → Type 0
AreWritten m = AllByRecursion (λ (o : List ℕ × (ℕ × List ℕ)). 1 ≤ o.1.0) m

-- the bytes of a past: those of the objects of its first state, and of what its entries write
abbrev pub bytes_in : Past → ℕ
bytes_in h = bytes_of_objects h.base_state.objects + bytes_of_entries h.entries

-- the count is that of a past which has the same clean state and the same later entries, and maybe
-- settled entries that are not applied yet, modulo 2^64
pub record CountsHeld (h : Past) (count : ℕ) : Type 0 where
  pub held : Past
  pub same : compacted_in held ≡ compacted_in h
  pub number : count ≡ bytes_in held % 2 ^ 64
