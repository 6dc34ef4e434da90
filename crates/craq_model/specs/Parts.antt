-- States in parts. A state's items are its objects, sorted by key, then its kept replies, sorted by
-- client.
use Rattle.std.specs.Prelude.{ℕ, ◌+◌, ◌-◌, ◌*◌, ◌==◌, nat_lt, Bool, ◌&&◌, ◌||◌, if◌then◌else◌, List, [], ◌++◌, map, length, take, drop, Option, Some, None}
use Rattle.std.specs.List.{list_all, flat_map, range_with_len}
use Rattle.std.specs.Ordering.{nat_cmp}
use Rattle.std.specs.FinMap.Entries.{is_sorted}
use Rattle.std.specs.Slice.Iter.{chunk_count}
use Rattle.craq_names.specs.Limits.{part_limit}
use Rattle.craq_names.specs.Maps.{key_cmp, put_number}
use Rattle.craq_commands.specs.declared.state.State.{State}
use Rattle.craq_model.specs.declared.message.StatePart.{StatePart}
use Rattle.craq_model.specs.declared.gathering.Gathering.{Gathering}

-- the number of items of a state
abbrev pub item_count : State → ℕ
item_count s = length s.objects + length s.kept

-- the items of a state from index `from` up to `to`
abbrev pub share : State → ℕ → ℕ → State
share s from to =
    record {
      objects = drop from (take to s.objects);
      kept = drop (from - length s.objects) (take (to - length s.objects) s.kept);
    }

-- the number of parts in which a state is sent
abbrev pub part_count : State → ℕ
part_count s = chunk_count (item_count s) part_limit

-- the part of this number, from 1, of the state after a position; each part but the last has 64
-- items
abbrev pub part_of : ℕ → State → ℕ → StatePart
part_of position s number =
    record { position = position; number = number; count = part_count s; state = share s (part_limit * (number - 1)) (part_limit * number) }

-- all parts of the state after a position, in order
unfoldable pub parts_of : ℕ → State → List StatePart
parts_of position s = map (part_of position s) (range_with_len 1 (part_count s))

-- the position whose state is gathered, 0 if there is none
abbrev pub gathered_position : Option Gathering → ℕ
gathered_position None = 0
gathered_position (Some g) = g.position

-- an empty gathering for the part's state
abbrev pub new_gathering : StatePart → Gathering
new_gathering part = record { position = part.position; count = part.count; parts = [] }

-- the gathering that a part belongs to: a new one if there is none, or only one of a lower position
abbrev pub gathering_for : StatePart → Option Gathering → Gathering
gathering_for part None = new_gathering part
gathering_for part (Some g) = if nat_lt g.position part.position then new_gathering part else g

-- each item of `s` comes before each item of `t`
abbrev pub precedes : State → State → Bool
precedes s t = is_sorted key_cmp (s.objects ++ t.objects) && is_sorted nat_cmp (s.kept ++ t.kept) && (length s.kept == 0 || length t.objects == 0)

-- the part's items come after those of the lower parts and before those of the higher ones
unfoldable pub is_in_order : Gathering → StatePart → Bool
is_in_order g part =
    list_all (λ (held : ℕ × State). if nat_lt held.0 part.number then precedes held.1 part.state else precedes part.state held.1) g.parts

-- the gathering with one more part
abbrev pub with_part : Gathering → StatePart → Gathering
with_part g part = record g { parts = put_number g.parts part.number part.state }

-- no part is missing
abbrev pub is_whole : Gathering → Bool
is_whole g = length g.parts == g.count

-- the items of all received parts, in order
unfoldable pub joined_state : List (ℕ × State) → State
joined_state parts = record { objects = flat_map (λ (held : ℕ × State). held.1.objects) parts; kept = flat_map (λ (held : ℕ × State). held.1.kept) parts }
