-- Reads payloads from left to right.
use Rattle.std.specs.Prelude.{ℕ, nat_le, nat_lt, Bool, true, ◌&&◌, List, length, Option, Some, None, ◌==◌, if◌then◌else◌}
use Rattle.std.specs.Int.{w8, w32, w64}
use Rattle.std.specs.Str.{is_utf8}
use Rattle.craq_names.specs.Limits.{greatest_count}
use Rattle.craq_names.specs.declared.name.ObjectId.{ObjectId}
use Rattle.craq_names.specs.declared.refusal.Refusal.{Refusal}
use Rattle.craq_names.specs.declared.refusal.Refusal.TheVariants as refusals
use Rattle.craq_commands.specs.declared.command.Command.{Command}
use Rattle.craq_commands.specs.declared.command.Update.{Update}
use Rattle.craq_commands.specs.declared.read_mode.ReadMode.{ReadMode}
use Rattle.craq_commands.specs.declared.read_mode.ReadMode.TheVariants.{Strong, Eventual, Bounded}
use Rattle.craq_commands.specs.declared.reply.Reply.{Reply}
use Rattle.craq_wire.specs.NumberReading.{◌>>=◌, number_at, bytes_at}
use Rattle.craq_wire.specs.PartReading.{value_at, object_at, request_at, pair_at, many_at, mapped}
use Rattle.craq_wire.specs.EntryReading.{reply_at}
use Rattle.craq_wire.specs.CommandReading.{command_at}
use Rattle.craq_frames.specs.Frame.{payload_limit}
use Rattle.craq_frames.specs.Payload.{payload_version}
use Rattle.craq_frames.specs.Versions.{many_limit, many_asks, many_answers}
use Rattle.craq_frames.specs.declared.ask.ClientMessage.{ClientMessage}
use Rattle.craq_frames.specs.declared.ask.ClientMessage.TheVariants as asks
use Rattle.craq_frames.specs.declared.answer.ClientReply.{ClientReply}
use Rattle.craq_frames.specs.declared.answer.ClientReply.TheVariants as answers
use Rattle.craq_frames.specs.declared.versions.PayloadVersion.TheVariants.{First, Second}
use Rattle.craq_frames.specs.declared.versions.Payload.{Payload}
use Rattle.craq_frames.specs.declared.versions.Payload.TheVariants as payloads
use Rattle.craq_frames.specs.declared.versions.Answered.{Answered}
use Rattle.craq_frames.specs.declared.versions.Answered.TheVariants as replies

-- decodes the bytes after the tag of a mode
unfoldable pub mode_body_at : ℕ → List ℕ → Option (ReadMode × List ℕ)
mode_body_at tag bytes =
    if tag == 1 then Some (Strong, bytes)
    else if tag == 2 then Some (Eventual, bytes)
    else if tag == 3 then mapped Bounded (number_at w32 bytes)
    else None

-- a tag, and what follows it
unfoldable pub mode_at : List ℕ → Option (ReadMode × List ℕ)
mode_at bytes = do
  tag ← number_at w8 bytes
  mode_body_at tag.0 tag.1

-- the update with these fields
abbrev pub update_in_bytes : ℕ × (ℕ × Command) → Update
update_in_bytes x = record { client = x.0; number = x.1.0; command = x.1.1 }

-- a client, a number and a command
unfoldable pub update_at : List ℕ → Option (Update × List ℕ)
update_at bytes = mapped update_in_bytes (pair_at (number_at w64) (pair_at request_at command_at) bytes)

-- the request of an update, with these fields
abbrev pub asked_update : ℕ × (ℕ × Update) → ClientMessage
asked_update x = asks.Update x.0 x.1.0 x.1.1

-- the request of a read, with these fields
abbrev pub asked_read : ℕ × (ℕ × (ReadMode × ObjectId)) → ClientMessage
asked_read x = asks.Read x.0 x.1.0 x.1.1.0 x.1.1.1

-- decodes the bytes after the kind of a request
unfoldable pub ask_body_at : ℕ → List ℕ → Option (ClientMessage × List ℕ)
ask_body_at kind bytes =
    if kind == 1 then mapped asked_update (pair_at (number_at w32) (pair_at (number_at w64) update_at) bytes)
    else if kind == 2 then mapped asked_read (pair_at (number_at w32) (pair_at (number_at w64) (pair_at mode_at object_at)) bytes)
    else if kind == 3 then Some (asks.Status, bytes)
    else None

-- a kind, and what follows it
unfoldable pub ask_at : List ℕ → Option (ClientMessage × List ℕ)
ask_at bytes = do
  kind ← number_at w8 bytes
  ask_body_at kind.0 kind.1

-- the refusals without a detail
unfoldable pub bare_refusal : ℕ → Option Refusal
bare_refusal number =
    if number == 1 then Some refusals.BadKey
    else if number == 2 then Some refusals.ValueTooLong
    else if number == 3 then Some refusals.TooManyItems
    else if number == 4 then Some refusals.EmptyTransaction
    else if number == 5 then Some refusals.DuplicateKey
    else if number == 6 then Some refusals.BadNumber
    else if number == 7 then Some refusals.UnknownChain
    else if number == 8 then Some refusals.TwoChains
    else if number == 10 then Some refusals.NotReady
    else if number == 11 then Some refusals.Stopped
    else if number == 12 then Some refusals.PendingFull
    else if number == 13 then Some refusals.Exhausted
    else if number == 14 then Some refusals.Memory
    else if number == 15 then Some refusals.BadFrame
    else if number == 16 then Some refusals.FrameTooLong
    else if number == 17 then Some refusals.NotMember
    else if number == 18 then Some refusals.NotStopped
    else if number == 19 then Some refusals.UsedId
    else if number == 20 then Some refusals.ChainFull
    else if number == 21 then Some refusals.LastNode
    else if number == 22 then Some refusals.UnknownMessage
    else if number == 23 then Some refusals.WrongNode
    else if number == 24 then Some refusals.JournalOff
    else if number == 26 then Some refusals.BadConfig
    else if number == 27 then Some refusals.Closed
    else if number == 28 then Some refusals.Io
    else None

-- the refusal of this number with this detail, 0 if it has none
unfoldable pub refusal_named : ℕ → ℕ → Option Refusal
refusal_named number detail =
    if number == 9 then (if nat_le detail greatest_count then Some (refusals.NotHead detail) else None)
    else if number == 25 then Some (refusals.BadScript detail)
    else if detail == 0 then bare_refusal number
    else None

-- a number and a detail
unfoldable pub refusal_at : List ℕ → Option (Refusal × List ℕ)
refusal_at bytes = do
  x ← pair_at (number_at w8) (number_at w64) bytes
  r ← refusal_named x.0.0 x.0.1
  Some (r, x.1)

-- a count of 4 bytes, and that number of bytes of UTF-8
unfoldable pub text_at : List ℕ → Option (List ℕ × List ℕ)
text_at bytes = do
  n ← number_at w32 bytes
  t ← bytes_at n.0 n.1
  if is_utf8 t.0 then Some t else None

-- the reply to an update, with these fields
abbrev pub answered_update : ℕ × Reply → ClientReply
answered_update x = answers.Update x.0 x.1

-- the reply to a read, with these fields
abbrev pub answered_read : ℕ × (ℕ × List ℕ) → ClientReply
answered_read x = answers.Read x.0 x.1.0 x.1.1

-- decodes the bytes after the kind of a reply
unfoldable pub answer_body_at : ℕ → List ℕ → Option (ClientReply × List ℕ)
answer_body_at kind bytes =
    if kind == 1 then mapped answered_update (pair_at (number_at w64) reply_at bytes)
    else if kind == 2 then mapped answered_read (pair_at (number_at w64) (pair_at (number_at w64) value_at) bytes)
    else if kind == 3 then mapped answers.Refused (refusal_at bytes)
    else if kind == 4 then mapped answers.Status (text_at bytes)
    else None

-- a kind, and what follows it
unfoldable pub answer_at : List ℕ → Option (ClientReply × List ℕ)
answer_at bytes = do
  kind ← number_at w8 bytes
  answer_body_at kind.0 kind.1

-- the value that was read, if no byte is left
abbrev pub whole : {A : Type 0} → Option (A × List ℕ) → Option A
whole read = read >>= λ x. if length x.1 == 0 then Some x.0 else None

-- version 1, the kind, what follows it, and no byte after it
unfoldable pub payload_at : {A : Type 0} → (ℕ → List ℕ → Option (A × List ℕ)) → List ℕ → Option A
payload_at body bytes = do
  x ← pair_at (number_at w8) (number_at w8) bytes
  if x.0.0 == payload_version then whole (body x.0.1 x.1) else None

-- ---- payloads of versions 1 and 2

-- a list of 1 to 8, after its count
unfoldable pub few_at : {A : Type 0} → (List ℕ → Option (A × List ℕ)) → List ℕ → Option (List A × List ℕ)
few_at part bytes = do
  count ← number_at w8 bytes
  if nat_lt count.0 1 then None else if nat_lt many_limit count.0 then None else many_at part count.0 count.1

-- decodes the bytes after a version and a kind
unfoldable pub payload_body_at : ℕ → ℕ → List ℕ → Option (Payload × List ℕ)
payload_body_at version kind bytes =
    if version == 1 then mapped (payloads.One First) (ask_body_at kind bytes)
    else if version == 2 then (if kind == many_asks then mapped payloads.Many (few_at ask_at bytes) else mapped (payloads.One Second) (ask_body_at kind bytes))
    else None

-- decodes the bytes after a version and a kind of a server's payload
unfoldable pub answered_body_at : ℕ → ℕ → List ℕ → Option (Answered × List ℕ)
answered_body_at version kind bytes =
    if version == 1 then mapped (replies.One First) (answer_body_at kind bytes)
    else if version == 2 then (if kind == many_answers then mapped replies.Many (few_at answer_at bytes) else mapped (replies.One Second) (answer_body_at kind bytes))
    else None

-- a version, a kind, what follows them, and no byte after it
unfoldable pub versioned_at : {A : Type 0} → (ℕ → ℕ → List ℕ → Option (A × List ℕ)) → List ℕ → Option A
versioned_at body bytes = do
  x ← pair_at (number_at w8) (number_at w8) bytes
  whole (body x.0.0 x.0.1 x.1)

-- ---- frames

-- no complete length was read, or a length within the limit and fewer bytes than it says
abbrev pub lacks_bytes : Option (ℕ × List ℕ) → Bool
lacks_bytes None = true
lacks_bytes (Some x) = nat_le x.0 payload_limit && nat_lt (length x.1) x.0

-- less than a frame is at the front
unfoldable pub is_partial : List ℕ → Bool
is_partial bytes = lacks_bytes (number_at w32 bytes)
