-- The places of items, in buckets by the hashes of their keys.
use Rattle.std.specs.declared.alloc.Global.{Global}
use Rattle.std.specs.Prelude.{ℕ, ◌+◌, ◌-◌, ◌≤◌, ◌%◌, ◌==◌, nat_lt, not, if◌then◌else◌, Bool, List, [], map, length, Vec, slice_get, unwrap_or}
use Rattle.std.specs.List.{filter, Contains}
use Rattle.craq_key_map.specs.declared.layout.Layout.{Layout}
use Rattle.craq_key_map.specs.declared.index.Slot.{Slot}

-- the buckets, and the number of them at the last doubling
pub record Indexed : Type 0 where
  pub buckets : List (List Slot)
  pub half : ℕ

abbrev pub folded : ℕ → ℕ → ℕ → ℕ
folded rest half count = if nat_lt rest count then rest else rest - half

-- the bucket of a hash, from 0: the hash modulo twice the number of buckets at the last doubling, or
-- that number less where there is no such bucket yet
abbrev pub bucket_of : ℕ → ℕ → ℕ → ℕ
bucket_of hash half count = folded (hash % (half + half)) half count

-- the index of these buckets in this layout
abbrev pub indexed : List (Vec Slot Global) → Layout → Indexed
indexed buckets layout = record { buckets = map (λ b. b.items) buckets; half = layout.half }

pub record IsIndexed (s : Indexed) : Type 0 where
  pub from : s.half ≤ length s.buckets
  pub to : length s.buckets ≤ s.half + s.half

-- the slots of the bucket of a hash; none if there are no buckets
abbrev pub slots_of : Indexed → ℕ → List Slot
slots_of s hash = unwrap_or (slice_get s.buckets (bucket_of hash s.half (length s.buckets))) []

-- the place is found by the hash
abbrev pub Knows : Indexed → ℕ → ℕ → Type 0
Knows s hash place = Contains (slots_of s hash) (record { hash = hash; place = place })

-- no place is lost
abbrev pub Keeps : Indexed → Indexed → Type 0
Keeps s t = (hash place : ℕ) → Knows s hash place → Knows t hash place

-- the hash goes to the last bucket, once there is one more
abbrev pub goes : ℕ → ℕ → ℕ → Bool
goes half count hash = bucket_of hash half (count + 1) == count

-- the slots that go there, and the others
abbrev pub slots_going : ℕ → ℕ → List Slot → List Slot
slots_going half count slots = filter (λ s. goes half count s.hash) slots

abbrev pub slots_staying : ℕ → ℕ → List Slot → List Slot
slots_staying half count slots = filter (λ s. not (goes half count s.hash)) slots
