-- Memberships: lists of ids in the order of the chain, head first; and functions of ids.
use Rattle.std.specs.Prelude.{◌≡◌, ℕ, zero, suc, ◌==◌, Bool, false, if◌then◌else◌, ◌&&◌, ◌||◌, List, [], ◌∷◌, get_or}

-- the id is among the members
unfoldable pub is_member : List ℕ → ℕ → Bool
is_member [] id = false
is_member (m ∷ ms) id = (m == id) || is_member ms id

-- the id is the head of the chain
unfoldable pub is_first : List ℕ → ℕ → Bool
is_first [] id = false
is_first (m ∷ ms) id = m == id

-- the id is the last of the chain
unfoldable pub is_last : List ℕ → ℕ → Bool
is_last [] id = false
is_last (m ∷ []) id = m == id
is_last (m ∷ k ∷ ms) id = is_last (k ∷ ms) id

-- the second id is the successor of the first
unfoldable pub is_next : List ℕ → ℕ → ℕ → Bool
is_next [] first second = false
is_next (m ∷ []) first second = false
is_next (m ∷ k ∷ ms) first second = ((m == first) && (k == second)) || is_next (k ∷ ms) first second

-- the members without this one
unfoldable pub without : List ℕ → ℕ → List ℕ
without [] id = []
without (m ∷ ms) id = if m == id then without ms id else m ∷ without ms id

-- no id occurs twice
abbrev pub IsDistinct : List ℕ → Type 0
IsDistinct [] = Unit {0}
IsDistinct (m ∷ ms) = (is_member ms m ≡ false) × IsDistinct ms

-- the membership of an epoch, counted from 1; empty for epoch 0 and for an epoch that has not come
unfoldable pub membership_of : List (List ℕ) → ℕ → List ℕ
membership_of memberships zero = []
membership_of memberships (suc epoch) = get_or memberships epoch []

-- the function with this value at the id
unfoldable pub with_value : {A : Type 0} → (ℕ → A) → ℕ → A → ℕ → A
with_value f id value other = if other == id then value else f other
