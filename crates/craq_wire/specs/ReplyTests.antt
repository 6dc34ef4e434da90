-- The rules of replies as tests.
use Rattle.std.specs.Prelude.{ℕ, ◌==◌, nat_lt, nat_le, Bool, true, false, not, ◌&&◌, ◌||◌, List, length}
use Rattle.std.specs.List.{list_all}
use Rattle.craq_names.specs.Limits.{item_limit}
use Rattle.craq_commands.specs.declared.reply.Reply.{Reply}
use Rattle.craq_commands.specs.declared.reply.Reply.TheVariants.{Written, Mismatch, TooLong, NotANumber, Overflow, Underflow, Done, CompareFailed, Stale}

-- an absent object has no bytes
abbrev pub is_object_read : ℕ × List ℕ → Bool
is_object_read o = not (o.0 == 0) || (length o.1 == 0)

-- a reply keeps its rules
abbrev pub is_reply : Reply → Bool
is_reply (Written version) = nat_le 1 version
is_reply (Mismatch version) = true
is_reply TooLong = true
is_reply NotANumber = true
is_reply Overflow = true
is_reply Underflow = true
is_reply (Done objects) = nat_le (length objects) item_limit && list_all is_object_read objects
is_reply (CompareFailed place) = nat_lt place item_limit
is_reply (Stale last) = true

-- a reply does not say that its number is stale
abbrev pub is_not_stale : Reply → Bool
is_not_stale (Written version) = true
is_not_stale (Mismatch version) = true
is_not_stale TooLong = true
is_not_stale NotANumber = true
is_not_stale Overflow = true
is_not_stale Underflow = true
is_not_stale (Done objects) = true
is_not_stale (CompareFailed place) = true
is_not_stale (Stale last) = false
