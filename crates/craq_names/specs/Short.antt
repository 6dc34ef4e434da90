-- Bytes that stand in place or in shared memory.
use Rattle.std.specs.Prelude.{◌≤◌, ⊤, ℕ, List, take}
use Rattle.std.specs.Arc.{arc_slice_items}
use Rattle.craq_names.specs.declared.short.Place.{Place}
use Rattle.craq_names.specs.declared.short.Place.TheVariants as places

-- the bytes that stand there
abbrev pub bytes_at : Place → List ℕ
bytes_at (places.Short count bytes) = take count bytes
bytes_at (places.Long bytes) = arc_slice_items bytes

-- at most 22 bytes are in place
abbrev pub IsPlace : Place → Type 0
IsPlace (places.Short count bytes) = count ≤ 22
IsPlace (places.Long bytes) = ⊤
