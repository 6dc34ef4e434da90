-- The bytes of keys and values.
use Rattle.std.specs.Prelude.{◌≡◌, ℕ, ◌+◌, ◌%◌, ◌^◌, List, [], ◌∷◌, length, Option, None, Some}
use Rattle.craq_names.specs.Maps.{at_key}
use Rattle.craq_commands.specs.declared.entry.Entry.{Entry}
use Rattle.craq_commands.specs.declared.entry.Write.{Write}
use Rattle.craq_commands.specs.Objects.{Objects}

-- the bytes of an object's key and value, 0 if it is absent
abbrev pub bytes_of_object : List ℕ → Option (ℕ × List ℕ) → ℕ
bytes_of_object key None = 0
bytes_of_object key (Some object) = length key + length object.1

-- the bytes of the object of this key, 0 if it is absent
abbrev pub bytes_at : Objects → List ℕ → ℕ
bytes_at m key = bytes_of_object key (at_key m key)

-- the bytes of objects: of each its key and its value
abbrev pub bytes_of_objects : Objects → ℕ
bytes_of_objects [] = 0
bytes_of_objects (o ∷ os) = (length o.0 + length o.1.1) + bytes_of_objects os

-- the bytes of writes: of each its key and the value that it writes
abbrev pub bytes_of_writes : List Write → ℕ
bytes_of_writes [] = 0
bytes_of_writes (w ∷ ws) = (length w.key + length w.value) + bytes_of_writes ws

-- the bytes of entries: those of their writes
abbrev pub bytes_of_entries : List Entry → ℕ
bytes_of_entries [] = 0
bytes_of_entries (e ∷ es) = bytes_of_writes e.writes + bytes_of_entries es

-- the count is that of the objects' bytes and of this many more, modulo 2^64
abbrev pub Counts : ℕ → Objects → ℕ → Type 0
Counts count objects more = count ≡ (bytes_of_objects objects + more) % 2 ^ 64
