-- Versions of one object, each with a held item (a value, or the position of its write). They are
-- consecutive and ascending; at most one is clean, the first.
use Rattle.std.specs.Prelude.{◌≡◌, ◌⊎◌, ⊤, ℕ, ◌+◌, ◌-◌, ◌≤◌, ◌^◌, ◌<◌, nat_le, Bool, IsTrue, if◌then◌else◌, List, [], ◌∷◌, filter, length, take, unwrap_or, Option, Some, None, IsSome}
use Rattle.std.specs.List.{last_or}
use Rattle.craq_names.specs.Maps.{at_number}

pub record Versions (V : Type 0) : Type 0 where
  pub versions : List (ℕ × V)  -- sorted by version
  pub clean : ℕ  -- the clean version, 0 if none is clean
  pub room : ℕ  -- the number of further versions that need no allocation

-- items as consecutive versions
abbrev pub numbered : {V : Type 0} → ℕ → List V → List (ℕ × V)
numbered first [] = []
numbered first (held ∷ rest) = (first, held) ∷ numbered (first + 1) rest

-- the newest version with its held item
abbrev pub newest_of : {V : Type 0} → List (ℕ × V) → Option (ℕ × V)
newest_of vs = last_or None vs

-- the newest version and its value; version 0 and no bytes where there is none
abbrev pub newest_or_none : List (ℕ × List ℕ) → ℕ × List ℕ
newest_or_none vs = unwrap_or (newest_of vs) (0, [])

-- the oldest version with its held item
abbrev pub first_of : {V : Type 0} → List (ℕ × V) → Option (ℕ × V)
first_of [] = None
first_of (v ∷ vs) = Some v

-- the newest version at most a bound
abbrev pub newest_within : {V : Type 0} → List (ℕ × V) → ℕ → Option (ℕ × V)
newest_within [] bound = None
newest_within (v ∷ vs) bound = if nat_le v.0 bound then Some (unwrap_or (newest_within vs bound) v) else None

-- the versions from this one on
abbrev pub versions_from : {V : Type 0} → List (ℕ × V) → ℕ → List (ℕ × V)
versions_from vs version = filter (λ v. nat_le version v.0) vs

-- this version is the first, with this held item
abbrev pub versions_settled : {V : Type 0} → List (ℕ × V) → ℕ → V → List (ℕ × V)
versions_settled vs version held = (version, held) ∷ versions_from vs (version + 1)

-- all but the newest
abbrev pub without_newest : {V : Type 0} → List (ℕ × V) → List (ℕ × V)
without_newest vs = take (length vs - 1) vs

-- the clean version after the newest is removed
abbrev pub clean_without : {V : Type 0} → List (ℕ × V) → ℕ → ℕ
clean_without vs clean = if nat_le (length vs) 1 then 0 else clean

-- each version is one above the one before it
abbrev pub AreConsecutive : {V : Type 0} → List (ℕ × V) → Type 0
AreConsecutive [] = ⊤
AreConsecutive (v ∷ []) = ⊤
AreConsecutive (v ∷ w ∷ vs) = (w.0 ≡ v.0 + 1) × AreConsecutive (w ∷ vs)

-- the oldest version, 0 if there is none
abbrev pub oldest_of : {V : Type 0} → List (ℕ × V) → ℕ
oldest_of [] = 0
oldest_of (v ∷ vs) = v.0

-- versions of one object, with this clean one
pub record AreVersions {V : Type 0} (vs : List (ℕ × V)) (clean : ℕ) : Type 0 where
  pub consecutive : AreConsecutive vs
  pub from_one : (vs ≡ []) ⊎ (1 ≤ oldest_of vs)
  pub clean_is_first : (clean ≡ 0) ⊎ ((1 ≤ clean) × (clean ≡ oldest_of vs))

-- the version is one above the newest, or there is no newest
abbrev pub Follows : {V : Type 0} → ℕ → Option (ℕ × V) → Type 0
Follows version None = ⊤
Follows version (Some newest) = version ≡ newest.0 + 1

-- the version can be appended: it is the next, or any from 1 if there is none
abbrev pub CanPush : {V : Type 0} → List (ℕ × V) → ℕ → Type 0
CanPush vs version = (1 ≤ version) × Follows version (newest_of vs)

-- the version can become the clean one: it is in the list, or at most the clean one
abbrev pub CanSettle : {V : Type 0} → List (ℕ × V) → ℕ → ℕ → Type 0
CanSettle vs clean version = (1 ≤ version) × ((version ≤ clean) ⊎ IsSome (at_number vs version))

-- the version is one above the newest
abbrev pub IsNext : {V : Type 0} → ℕ → Option (ℕ × V) → Type 0
IsNext version None = ⊥
IsNext version (Some newest) = version ≡ newest.0 + 1

-- the version can become the first and clean one with any held item: it is in the list, or is the
-- next
abbrev pub CanSettleAs : {V : Type 0} → List (ℕ × V) → ℕ → Type 0
CanSettleAs vs version = IsSome (at_number vs version) ⊎ IsNext version (newest_of vs)

-- items stored as consecutive versions
pub record IsStored {V : Type 0} (first : ℕ) (has_clean : Bool) (items : List V) : Type 0 where
  pub from_one : 1 ≤ first
  pub fits : first + length items ≤ 2 ^ 64
  pub clean_is_held : IsTrue has_clean → 0 < length items
