-- The connection slots of a server.
use Rattle.std.specs.Prelude.{◌≡◌, ◌==◌, ◌&&◌, ◌||◌, ℕ, Bool, true, Option, None, List, [], ◌∷◌, ◌++◌, is_none, is_some, length, nat_lt, not, position, if◌then◌else◌}

-- returns true if no connection has the slot
abbrev pub is_free : {T : Type 0} → Option T → Bool
is_free at = not (is_some at)

-- no connection has the slot
abbrev pub IsFree : {T : Type 0} → Option T → Type 0
IsFree at = is_free at ≡ true

-- there may be one slot more than this count, where there are to be at most `most`, or with 0 any number
abbrev pub may_grow : ℕ → ℕ → Bool
may_grow most count = most == 0 || nat_lt count most

-- the slots, and one more that is free where none of them is and there may be one more
abbrev pub with_room : {T : Type 0} → ℕ → List (Option T) → List (Option T)
with_room most slots = if is_none (position is_free slots) && may_grow most (length slots) then slots ++ None ∷ [] else slots
