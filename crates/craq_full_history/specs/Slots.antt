-- Windows of kept replies as slots: each a number with the index of its reply among those of a
-- window and of the entries after it.
use Rattle.std.specs.Prelude.{ℕ, ◌+◌, ◌-◌, ◌==◌, nat_le, nat_lt, Bool, not, ◌&&◌, if◌then◌else◌, List, [], ◌∷◌, length, drop, slice_get, is_some, option_map, Option, Some}
use Rattle.std.specs.Option.{option_and_then}
use Rattle.craq_names.specs.Limits.{window_limit}
use Rattle.craq_names.specs.Maps.{at_number, put_number}
use Rattle.craq_commands.specs.declared.entry.Entry.{Entry}
use Rattle.craq_commands.specs.declared.reply.Reply.{Reply}
use Rattle.craq_commands.specs.declared.reply.Reply.TheVariants.{Stale}
use Rattle.craq_commands.specs.Kept.{Kept, Window}

-- a number, and the index of its reply
abbrev pub Slots : Type 0
Slots = List (ℕ × ℕ)

-- a number is added; more than 8 drop the first
abbrev pub within_window : {A : Type 0} → List (ℕ × A) → List (ℕ × A)
within_window xs = if nat_lt window_limit (length xs) then drop 1 xs else xs

abbrev pub window_with : {A : Type 0} → List (ℕ × A) → ℕ → A → List (ℕ × A)
window_with xs number x = within_window (put_number xs number x)

-- the slots of a window, whose replies' indexes start here
abbrev pub slots_from : ℕ → Window → Slots
slots_from i [] = []
slots_from i (k ∷ ks) = (k.0, i) ∷ slots_from (i + 1) ks

-- the slots after a client's entries among these, whose replies' indexes start here
unfoldable pub slots_after : ℕ → ℕ → List Entry → Slots → Slots
slots_after client i [] xs = xs
slots_after client i (e ∷ es) xs = slots_after client (i + 1) es (if e.client == client then window_with xs e.number i else xs)

-- the reply at an index among those of a window and of the entries after it
unfoldable pub reply_at : Window → List Entry → ℕ → Option Reply
reply_at w es i =
    if nat_lt i (length w) then option_map (λ (k : Kept). k.1) (slice_get w i)
    else option_map (λ (e : Entry). e.reply) (slice_get es (i - length w))

-- the first and the last number, 0 if there is none
abbrev pub first_number : {A : Type 0} → List (ℕ × A) → ℕ
first_number [] = 0
first_number (x ∷ xs) = x.0

abbrev pub last_number : {A : Type 0} → List (ℕ × A) → ℕ
last_number [] = 0
last_number (x ∷ []) = x.0
last_number (x ∷ y ∷ ys) = last_number (y ∷ ys)

-- the status of a number in a window, by its slots and their replies
unfoldable pub is_stale_in : {A : Type 0} → List (ℕ × A) → ℕ → Bool
is_stale_in xs number = nat_le window_limit (length xs) && nat_lt number (first_number xs)

unfoldable pub is_new_in : {A : Type 0} → List (ℕ × A) → ℕ → Bool
is_new_in xs number = not (is_some (at_number xs number)) && not (is_stale_in xs number)

unfoldable pub said_in : {A : Type 0} → (A → Option Reply) → List (ℕ × A) → ℕ → Option Reply
said_in reply xs number = if is_stale_in xs number then Some (Stale (last_number xs)) else option_and_then reply (at_number xs number)
