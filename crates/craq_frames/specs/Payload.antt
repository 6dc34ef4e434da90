-- The encoding of requests and replies.
use Rattle.std.specs.Prelude.{◌≡◌, ◌<◌, ◌≤◌, ◌^◌, ⊤, ℕ, List, [], ◌++◌, length}
use Rattle.std.specs.Int.{w8, w32, w64}
use Rattle.std.specs.Str.{IsUtf8}
use Rattle.craq_names.specs.Refused.{refusal_number, detail_of}
use Rattle.craq_names.specs.declared.refusal.Refusal.{Refusal}
use Rattle.craq_names.specs.declared.refusal.Refusal.TheVariants.{NotHead, BadScript}
use Rattle.craq_commands.specs.declared.command.Update.{Update}
use Rattle.craq_commands.specs.declared.read_mode.ReadMode.{ReadMode}
use Rattle.craq_commands.specs.declared.read_mode.ReadMode.TheVariants.{Strong, Eventual, Bounded}
use Rattle.craq_model.specs.Encodable.{IsReply}
use Rattle.craq_wire.specs.NumberEncoding.{number}
use Rattle.craq_wire.specs.PartEncoding.{value, object, IsValue, IsObject}
use Rattle.craq_wire.specs.EntryEncoding.{reply, ReplyFits}
use Rattle.craq_wire.specs.CommandEncoding.{command, CommandFits}
use Rattle.craq_frames.specs.declared.ask.ClientMessage.{ClientMessage}
use Rattle.craq_frames.specs.declared.ask.ClientMessage.TheVariants as asks
use Rattle.craq_frames.specs.declared.answer.ClientReply.{ClientReply}
use Rattle.craq_frames.specs.declared.answer.ClientReply.TheVariants as answers

-- the version of payloads of one request or one reply
abbrev pub payload_version : ℕ
payload_version = 1

-- ---- payloads of clients: a kind, and what follows it

-- the tag of a read's mode
abbrev pub mode_tag : ReadMode → ℕ
mode_tag Strong = 1
mode_tag Eventual = 2
mode_tag (Bounded above) = 3

-- the bytes after the tag of a mode: the bound of a bounded read
abbrev pub mode_body : ReadMode → List ℕ
mode_body Strong = []
mode_body Eventual = []
mode_body (Bounded above) = number w32 above

-- a mode: its tag, and what follows it
unfoldable pub mode : ReadMode → List ℕ
mode m = number w8 (mode_tag m) ++ mode_body m

-- the bound of a bounded read fits its width
abbrev pub ModeFits : ReadMode → Type 0
ModeFits Strong = ⊤
ModeFits Eventual = ⊤
ModeFits (Bounded above) = above < 2 ^ 32

-- the client, the number and the command
unfoldable pub update : Update → List ℕ
update u = number w64 u.client ++ (number w64 u.number ++ command u.command)

-- the client, the number and the command fit their widths
pub record UpdateFits (u : Update) : Type 0 where
  pub client : u.client < 2 ^ 64
  pub number : (1 ≤ u.number) × (u.number < 2 ^ 64)
  pub command : CommandFits u.command

-- the kind of a request
abbrev pub ask_kind : ClientMessage → ℕ
ask_kind (asks.Update node pass u) = 1
ask_kind (asks.Read node pass m o) = 2
ask_kind asks.Status = 3

-- the bytes after the kind of a request
abbrev pub ask_body : ClientMessage → List ℕ
ask_body (asks.Update node pass u) = number w32 node ++ (number w64 pass ++ update u)
ask_body (asks.Read node pass m o) = number w32 node ++ (number w64 pass ++ (mode m ++ object o))
ask_body asks.Status = []

-- each field of a request fits its width
abbrev pub AskFits : ClientMessage → Type 0
AskFits (asks.Update node pass u) = (node < 2 ^ 32) × (pass < 2 ^ 64) × UpdateFits u
AskFits (asks.Read node pass m o) = (node < 2 ^ 32) × (pass < 2 ^ 64) × ModeFits m × IsObject o
AskFits asks.Status = ⊤

-- a request: its kind, and what follows it
unfoldable pub ask : ClientMessage → List ℕ
ask m = number w8 (ask_kind m) ++ ask_body m

-- a payload of version 1: the version, and a request
unfoldable pub ask_encoding : ClientMessage → List ℕ
ask_encoding m = number w8 payload_version ++ ask m

-- the bytes are the payload of the request, of version 1
pub record EncodesAsk (m : ClientMessage) (bytes : List ℕ) : Type 0 where
  pub fits : AskFits m
  pub encoding : bytes ≡ ask_encoding m

-- ---- payloads of servers: a kind, and what follows it

-- the refusal's number, and its detail
abbrev pub refusal : Refusal → List ℕ
refusal r = number w8 (refusal_number r) ++ number w64 (detail_of r)

-- a refusal's detail fits its width: 32 bits for a head, 64 for a line
abbrev pub RefusalFits : Refusal → Type 0
RefusalFits (NotHead head) = head < 2 ^ 32
RefusalFits (BadScript line) = line < 2 ^ 64
RefusalFits _ = ⊤

-- a count of bytes, and the bytes
abbrev pub text : List ℕ → List ℕ
text bytes = number w32 (length bytes) ++ bytes

-- fewer than 2^32 bytes of UTF-8
pub record IsText (bytes : List ℕ) : Type 0 where
  pub few : length bytes < 2 ^ 32
  pub utf8 : IsUtf8 bytes

-- the kind of a reply
abbrev pub answer_kind : ClientReply → ℕ
answer_kind (answers.Update pass r) = 1
answer_kind (answers.Read pass version v) = 2
answer_kind (answers.Refused r) = 3
answer_kind (answers.Status t) = 4

-- the bytes after the kind of a reply
abbrev pub answer_body : ClientReply → List ℕ
answer_body (answers.Update pass r) = number w64 pass ++ reply r
answer_body (answers.Read pass version v) = number w64 pass ++ (number w64 version ++ value v)
answer_body (answers.Refused r) = refusal r
answer_body (answers.Status t) = text t

-- each field of a reply fits its width
abbrev pub AnswerFits : ClientReply → Type 0
AnswerFits (answers.Update pass r) = (pass < 2 ^ 64) × ReplyFits r
AnswerFits (answers.Read pass version v) = (pass < 2 ^ 64) × (version < 2 ^ 64) × IsValue v
AnswerFits (answers.Refused r) = RefusalFits r
AnswerFits (answers.Status t) = IsText t

-- a head that a refusal names is not node 0
abbrev pub NamesNode : Refusal → Type 0
NamesNode (NotHead head) = 1 ≤ head
NamesNode _ = ⊤

-- a reply keeps its rules: those of replies to updates, no bytes of an absent object, a head that
-- is a node, and a text of fewer than 2^32 bytes
abbrev pub IsAnswer : ClientReply → Type 0
IsAnswer (answers.Update pass r) = IsReply r
IsAnswer (answers.Read pass version v) = version ≡ 0 → v ≡ []
IsAnswer (answers.Refused r) = NamesNode r
IsAnswer (answers.Status t) = length t < 2 ^ 32

-- a reply: its kind, and what follows it
unfoldable pub answer : ClientReply → List ℕ
answer m = number w8 (answer_kind m) ++ answer_body m

-- a payload of version 1: the version, and a reply
unfoldable pub answer_encoding : ClientReply → List ℕ
answer_encoding m = number w8 payload_version ++ answer m

-- the bytes are the payload of the reply, of version 1
pub record EncodesAnswer (m : ClientReply) (bytes : List ℕ) : Type 0 where
  pub fits : AnswerFits m
  pub rules : IsAnswer m
  pub encoding : bytes ≡ answer_encoding m
