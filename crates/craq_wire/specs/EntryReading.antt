-- Reads replies and entries from left to right.
use Rattle.std.specs.Prelude.{ℕ, List, Option, Some, None, ◌==◌, nat_lt, length, if◌then◌else◌}
use Rattle.std.specs.Int.{w8, w32, w64}
use Rattle.craq_names.specs.Limits.{window_limit}
use Rattle.craq_commands.specs.declared.reply.Reply.{Reply}
use Rattle.craq_commands.specs.declared.reply.Reply.TheVariants.{Written, Mismatch, TooLong, NotANumber, Overflow, Underflow, Done, CompareFailed, Stale}
use Rattle.craq_commands.specs.Kept.{Window}
use Rattle.craq_commands.specs.declared.entry.Entry.{Entry}
use Rattle.craq_commands.specs.declared.entry.Write.{Write}
use Rattle.craq_wire.specs.NumberReading.{◌>>=◌, number_at}
use Rattle.craq_wire.specs.PartReading.{key_at, value_at, request_at, pair_at, counted_at, mapped}

-- decodes the bytes after a reply's tag
unfoldable pub reply_body_at : ℕ → List ℕ → Option (Reply × List ℕ)
reply_body_at tag bytes =
    if tag == 1 then mapped Written (number_at w64 bytes)
    else if tag == 2 then mapped Mismatch (number_at w64 bytes)
    else if tag == 3 then Some (TooLong, bytes)
    else if tag == 4 then Some (NotANumber, bytes)
    else if tag == 5 then Some (Overflow, bytes)
    else if tag == 6 then Some (Underflow, bytes)
    else if tag == 7 then mapped Done (counted_at w8 (pair_at (number_at w64) value_at) bytes)
    else if tag == 8 then mapped CompareFailed (number_at w8 bytes)
    else if tag == 9 then mapped Stale (request_at bytes)
    else None

-- a tag, and what follows it
unfoldable pub reply_at : List ℕ → Option (Reply × List ℕ)
reply_at bytes = do
  tag ← number_at w8 bytes
  reply_body_at tag.0 tag.1

-- the write with these fields
abbrev pub write_of : List ℕ × (ℕ × List ℕ) → Write
write_of x = record { key = x.0; version = x.1.0; value = x.1.1 }

-- a key, a version and a value
unfoldable pub write_at : List ℕ → Option (Write × List ℕ)
write_at bytes = mapped write_of (pair_at key_at (pair_at (number_at w64) value_at) bytes)

-- the entry with these fields
abbrev pub entry_of : ℕ × (ℕ × (ℕ × (ℕ × (ℕ × (Reply × List Write))))) → Entry
entry_of x = record { position = x.0; origin_node = x.1.0; origin_ticket = x.1.1.0; client = x.1.1.1.0; number = x.1.1.1.1.0; reply = x.1.1.1.1.1.0; writes = x.1.1.1.1.1.1 }

-- the fields of an entry, in order
unfoldable pub entry_at : List ℕ → Option (Entry × List ℕ)
entry_at bytes =
    mapped entry_of (pair_at (number_at w64) (pair_at (number_at w32) (pair_at (number_at w64) (pair_at (number_at w64)
    (pair_at request_at (pair_at reply_at (counted_at w8 write_at)))))) bytes)

-- at most 8 replies, each after its number
unfoldable pub window_at : List ℕ → Option (Window × List ℕ)
window_at bytes = do
  w ← counted_at w8 (pair_at request_at reply_at) bytes
  if nat_lt window_limit (length w.0) then None else Some w
