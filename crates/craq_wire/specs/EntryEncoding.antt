-- The encoding of replies and entries.
use Rattle.std.specs.Prelude.{◌<◌, ◌≤◌, ◌^◌, ⊤, ℕ, List, [], ◌++◌, length}
use Rattle.std.specs.List.{AllByRecursion}
use Rattle.std.specs.Int.{w8, w32, w64}
use Rattle.craq_names.specs.Limits.{window_limit}
use Rattle.craq_commands.specs.declared.reply.Reply.{Reply}
use Rattle.craq_commands.specs.declared.reply.Reply.TheVariants.{Written, Mismatch, TooLong, NotANumber, Overflow, Underflow, Done, CompareFailed, Stale}
use Rattle.craq_commands.specs.Kept.{Window}
use Rattle.craq_commands.specs.declared.entry.Entry.{Entry}
use Rattle.craq_commands.specs.declared.entry.Write.{Write}
use Rattle.craq_wire.specs.NumberEncoding.{number}
use Rattle.craq_wire.specs.PartEncoding.{key, value, pair, counted, IsKey, IsValue, IsPair, AreCounted}

-- ---- replies: a tag, and what follows it

-- the tag of a reply
abbrev pub reply_tag : Reply → ℕ
reply_tag (Written version) = 1
reply_tag (Mismatch version) = 2
reply_tag TooLong = 3
reply_tag NotANumber = 4
reply_tag Overflow = 5
reply_tag Underflow = 6
reply_tag (Done objects) = 7
reply_tag (CompareFailed place) = 8
reply_tag (Stale last) = 9

-- the bytes after a reply's tag
abbrev pub reply_body : Reply → List ℕ
reply_body (Written version) = number w64 version
reply_body (Mismatch version) = number w64 version
reply_body TooLong = []
reply_body NotANumber = []
reply_body Overflow = []
reply_body Underflow = []
reply_body (Done objects) = counted w8 (pair (number w64) value) objects
reply_body (CompareFailed place) = number w8 place
reply_body (Stale last) = number w64 last

-- a reply: its tag, and what follows it
unfoldable pub reply : Reply → List ℕ
reply r = number w8 (reply_tag r) ++ reply_body r

-- each number and count fits its width
abbrev pub ReplyFits : Reply → Type 0
ReplyFits (Written version) = version < 2 ^ 64
ReplyFits (Mismatch version) = version < 2 ^ 64
ReplyFits TooLong = ⊤
ReplyFits NotANumber = ⊤
ReplyFits Overflow = ⊤
ReplyFits Underflow = ⊤
ReplyFits (Done objects) = AreCounted w8 (IsPair (λ version. version < 2 ^ 64) IsValue) objects
ReplyFits (CompareFailed place) = place < 2 ^ 8
ReplyFits (Stale last) = (1 ≤ last) × (last < 2 ^ 64)

-- ---- entries

-- a write: its key, its version and its value
unfoldable pub write : Write → List ℕ
write w = key w.key ++ (number w64 w.version ++ value w.value)

-- the key and the value are of their kinds, and the version fits its width
pub record WriteFits (w : Write) : Type 0 where
  pub key : IsKey w.key
  pub version : w.version < 2 ^ 64
  pub value : IsValue w.value

-- the fields of an entry, in order
unfoldable pub entry : Entry → List ℕ
entry e =
    number w64 e.position ++ (number w32 e.origin_node ++ (number w64 e.origin_ticket
    ++ (number w64 e.client ++ (number w64 e.number ++ (reply e.reply ++ counted w8 write e.writes)))))

-- each field of the entry fits its width
pub record EntryFits (e : Entry) : Type 0 where
  pub position : e.position < 2 ^ 64
  pub origin_node : e.origin_node < 2 ^ 32
  pub origin_ticket : e.origin_ticket < 2 ^ 64
  pub client : e.client < 2 ^ 64
  pub number : (1 ≤ e.number) × (e.number < 2 ^ 64)
  pub reply : ReplyFits e.reply
  pub writes : AreCounted w8 WriteFits e.writes

-- ---- the kept replies of a client: a count, and each number with its reply

-- a count of one byte, and each number with its reply
abbrev pub window : Window → List ℕ
window = counted w8 (pair (number w64) reply)

-- at most 8 replies, whose numbers and counts fit their widths
pub record WindowFits (w : Window) : Type 0 where
  pub few : length w ≤ window_limit
  pub each : AllByRecursion (IsPair (λ number. (1 ≤ number) × (number < 2 ^ 64)) ReplyFits) w
