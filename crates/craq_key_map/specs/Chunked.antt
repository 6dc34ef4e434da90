-- A list in chunks.
use Rattle.std.specs.declared.alloc.Global.{Global}
use Rattle.std.specs.Prelude.{◌≡◌, ℕ, ◌+◌, ◌<◌, ◌≤◌, List, Some, Vec, length, slice_get}
use Rattle.std.specs.List.{flat_map}

-- the items, chunk by chunk
abbrev pub joined : {X : Type 0} → List (Vec X Global) → List X
joined chunks = flat_map (λ c. c.items) chunks

-- each chunk but the last has 1,024 items, and the last at most as many
pub record AreChunks {X : Type 0} (chunks : List (Vec X Global)) : Type 0 where
  pub full : (i : ℕ) (c : Vec X Global) → slice_get chunks i ≡ Some c → i + 1 < length chunks → length c.items ≡ 1024
  pub last : (i : ℕ) (c : Vec X Global) → slice_get chunks i ≡ Some c → length c.items ≤ 1024

-- the last chunk is not full
pub record HasRoom {X : Type 0} (chunks : List (Vec X Global)) : Type 0 where
  pub index : ℕ
  pub chunk : Vec X Global
  pub is_last : index + 1 ≡ length chunks
  pub at : slice_get chunks index ≡ Some chunk
  pub room : length chunk.items < 1024
