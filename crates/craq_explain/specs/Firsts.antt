-- Numbers by key; the first number put at a key stays.
use Rattle.std.specs.Prelude.{◌≡◌, ℕ, Bool, if◌then◌else◌, List, Option, Some, None}
use Rattle.std.specs.Ordering.{nat_cmp, ordering_then}
use Rattle.std.specs.declared.cmp.Ordering.{Ordering}
use Rattle.std.specs.BTreeMap.{BTreeMap, get}
use Rattle.craq_names.specs.Maps.{key_cmp}

-- by ascending node, then by ascending ticket
abbrev pub name_cmp : ℕ × ℕ → ℕ × ℕ → Ordering
name_cmp x y = ordering_then (nat_cmp x.0 y.0) (nat_cmp x.1 y.1)

-- by ascending key, then by ascending version
abbrev pub write_cmp : List ℕ × ℕ → List ℕ × ℕ → Ordering
write_cmp x y = ordering_then (key_cmp x.0 y.0) (nat_cmp x.1 y.1)

-- a number, if a test holds
abbrev pub number_if : Bool → ℕ → Option ℕ
number_if test number = if test then Some number else None

-- the map has at each key the result of a lookup
abbrev pub Tells : {K : Type 0} → (K → K → Ordering) → BTreeMap K ℕ → (K → Option ℕ) → Type 0
Tells {K} cmp m f = (q : K) → get cmp m q ≡ f q
