-- The encoding of the parts of messages.
use Rattle.std.specs.Prelude.{ℕ, ◌≤◌, ◌<◌, ◌^◌, List, ◌++◌, length}
use Rattle.std.specs.List.{flat_map, AllByRecursion}
use Rattle.std.specs.Int.{Width, w8, w16, byte_len}
use Rattle.craq_names.specs.Limits.{value_limit}
use Rattle.craq_names.specs.declared.name.ObjectId.{ObjectId}
use Rattle.craq_wire.specs.NumberEncoding.{number}

-- one byte of length, and the bytes
abbrev pub key : List ℕ → List ℕ
key bytes = number w8 (length bytes) ++ bytes

-- two bytes of length, and the bytes
abbrev pub value : List ℕ → List ℕ
value bytes = number w16 (length bytes) ++ bytes

-- the chain's id and the key
abbrev pub object : ObjectId → List ℕ
object o = number w16 o.chain ++ key o.key

-- one part after the other
abbrev pub pair : {A B : Type 0} → (A → List ℕ) → (B → List ℕ) → A × B → List ℕ
pair first second p = first p.0 ++ second p.1

-- a key of 1 to 128 bytes
pub record IsKey (bytes : List ℕ) : Type 0 where
  pub some : 1 ≤ length bytes
  pub few : length bytes ≤ 128

-- a value of at most 4,096 bytes
abbrev pub IsValue : List ℕ → Type 0
IsValue bytes = length bytes ≤ value_limit

-- a chain's id of 16 bits and a key
pub record IsObject (o : ObjectId) : Type 0 where
  pub chain : o.chain < 2 ^ 16
  pub key : IsKey o.key

-- each of the two is of its kind
abbrev pub IsPair : {A B : Type 0} → (A → Type 0) → (B → Type 0) → A × B → Type 0
IsPair P Q p = P p.0 × Q p.1

-- a count of this width, and the values one after the other
abbrev pub counted : {A : Type 0} → Width → (A → List ℕ) → List A → List ℕ
counted w encoding xs = number w (length xs) ++ flat_map encoding xs

-- the number of values fits a count of this width, and each value is of its kind
pub record AreCounted {A : Type 0} (w : Width) (P : A → Type 0) (xs : List A) : Type 0 where
  pub few : length xs < 256 ^ byte_len w
  pub each : AllByRecursion P xs
