-- Reads the parts of messages from left to right.
use Rattle.std.specs.Prelude.{ℕ, zero, suc, List, [], ◌∷◌, Option, Some, None, nat_lt, ◌==◌, if◌then◌else◌}
use Rattle.std.specs.Int.{Width, w8, w16, w64}
use Rattle.craq_names.specs.Limits.{value_limit}
use Rattle.craq_names.specs.declared.name.ObjectId.{ObjectId}
use Rattle.craq_wire.specs.NumberReading.{◌>>=◌, number_at, bytes_at}

-- a key of 1 to 128 bytes, after one byte of length
unfoldable pub key_at : List ℕ → Option (List ℕ × List ℕ)
key_at bytes = do
  n ← number_at w8 bytes
  if n.0 == 0 then None else if nat_lt 128 n.0 then None else bytes_at n.0 n.1

-- a value of at most 4,096 bytes, after two bytes of length
unfoldable pub value_at : List ℕ → Option (List ℕ × List ℕ)
value_at bytes = do
  n ← number_at w16 bytes
  if nat_lt value_limit n.0 then None else bytes_at n.0 n.1

-- a chain's id and a key
unfoldable pub object_at : List ℕ → Option (ObjectId × List ℕ)
object_at bytes = do
  chain ← number_at w16 bytes
  key ← key_at chain.1
  Some (record { chain = chain.0; key = key.0 }, key.1)

-- a request's number is not 0
unfoldable pub request_at : List ℕ → Option (ℕ × List ℕ)
request_at bytes = do
  n ← number_at w64 bytes
  if n.0 == 0 then None else Some n

-- one part after the other
unfoldable pub pair_at : {A B : Type 0} → (List ℕ → Option (A × List ℕ)) → (List ℕ → Option (B × List ℕ)) → List ℕ → Option ((A × B) × List ℕ)
pair_at first second bytes = do
  a ← first bytes
  b ← second a.1
  Some ((a.0, b.0), b.1)

-- this number of values
unfoldable pub many_at : {A : Type 0} → (List ℕ → Option (A × List ℕ)) → ℕ → List ℕ → Option (List A × List ℕ)
many_at part zero bytes = Some ([], bytes)
many_at part (suc n) bytes = do
  first ← part bytes
  others ← many_at part n first.1
  Some (first.0 ∷ others.0, others.1)

-- a count of this width, and that number of values
unfoldable pub counted_at : {A : Type 0} → Width → (List ℕ → Option (A × List ℕ)) → List ℕ → Option (List A × List ℕ)
counted_at w part bytes = do
  n ← number_at w bytes
  many_at part n.0 n.1

-- the value that was read, mapped to another
abbrev pub mapped : {A B : Type 0} → (A → B) → Option (A × List ℕ) → Option (B × List ℕ)
mapped f read = read >>= λ x. Some (f x.0, x.1)
