-- Replies and entries as their types hold them: each number fits its width, each key and value has
-- a length that its type allows, and lists have any length.
use Rattle.std.specs.Prelude.{◌<◌, ◌≤◌, ◌^◌, ⊤}
use Rattle.craq_commands.specs.Kept.{Window}
use Rattle.std.specs.List.{AllByRecursion}
use Rattle.craq_commands.specs.declared.reply.Reply.{Reply}
use Rattle.craq_commands.specs.declared.reply.Reply.TheVariants.{Written, Mismatch, TooLong, NotANumber, Overflow, Underflow, Done, CompareFailed, Stale}
use Rattle.craq_commands.specs.declared.entry.Entry.{Entry}
use Rattle.craq_wire.specs.PartEncoding.{IsValue, IsPair}
use Rattle.craq_wire.specs.EntryEncoding.{WriteFits}

-- the reply is a value of its type
abbrev pub IsTypedReply : Reply → Type 0
IsTypedReply (Written version) = version < 2 ^ 64
IsTypedReply (Mismatch version) = version < 2 ^ 64
IsTypedReply TooLong = ⊤
IsTypedReply NotANumber = ⊤
IsTypedReply Overflow = ⊤
IsTypedReply Underflow = ⊤
IsTypedReply (Done objects) = AllByRecursion (IsPair (λ version. version < 2 ^ 64) IsValue) objects
IsTypedReply (CompareFailed place) = place < 2 ^ 8
IsTypedReply (Stale last) = (1 ≤ last) × (last < 2 ^ 64)

-- the entry is a value of its type
pub record IsTypedEntry (e : Entry) : Type 0 where
  pub position : e.position < 2 ^ 64
  pub origin_node : e.origin_node < 2 ^ 32
  pub origin_ticket : e.origin_ticket < 2 ^ 64
  pub client : e.client < 2 ^ 64
  pub number : (1 ≤ e.number) × (e.number < 2 ^ 64)
  pub reply : IsTypedReply e.reply
  pub writes : AllByRecursion WriteFits e.writes

-- the kept replies of a client are a value of their type
abbrev pub IsTypedWindow : Window → Type 0
IsTypedWindow w = AllByRecursion (IsPair (λ number. (1 ≤ number) × (number < 2 ^ 64)) IsTypedReply) w
