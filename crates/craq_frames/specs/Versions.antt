-- Payloads of versions 1 and 2. Version 2 has those of version 1, and also payloads of several
-- requests and of their replies.
use Rattle.std.specs.Prelude.{◌≡◌, ◌≤◌, ⊤, ℕ, List, ◌++◌, length}
use Rattle.std.specs.List.{AllByRecursion}
use Rattle.std.specs.Int.{w8}
use Rattle.craq_wire.specs.NumberEncoding.{number}
use Rattle.craq_wire.specs.PartEncoding.{counted}
use Rattle.craq_frames.specs.Payload.{ask, AskFits, answer, AnswerFits, IsAnswer}
use Rattle.craq_frames.specs.declared.versions.PayloadVersion.{PayloadVersion}
use Rattle.craq_frames.specs.declared.versions.PayloadVersion.TheVariants.{First, Second}
use Rattle.craq_frames.specs.declared.versions.Payload.{Payload}
use Rattle.craq_frames.specs.declared.versions.Payload.TheVariants as payloads
use Rattle.craq_frames.specs.declared.versions.Answered.{Answered}
use Rattle.craq_frames.specs.declared.versions.Answered.TheVariants as replies

-- the number of a version
abbrev pub version_number : PayloadVersion → ℕ
version_number First = 1
version_number Second = 2

-- the most requests in a payload
abbrev pub many_limit : ℕ
many_limit = 8

-- the kind of payloads of several requests
abbrev pub many_asks : ℕ
many_asks = 4

-- the kind of payloads of several replies
abbrev pub many_answers : ℕ
many_answers = 5

-- a list of 1 to 8, each of its kind
pub record AreFew {A : Type 0} (P : A → Type 0) (xs : List A) : Type 0 where
  pub some : 1 ≤ length xs
  pub few : length xs ≤ many_limit
  pub each : AllByRecursion P xs

-- ---- payloads of clients

-- a version and one request, or version 2 and several requests after their count
unfoldable pub payload_encoding : Payload → List ℕ
payload_encoding (payloads.One version m) = number w8 (version_number version) ++ ask m
payload_encoding (payloads.Many ms) = number w8 2 ++ (number w8 many_asks ++ counted w8 ask ms)

-- each request of the payload fits its widths, and several are from 1 to 8
abbrev pub PayloadFits : Payload → Type 0
PayloadFits (payloads.One version m) = AskFits m
PayloadFits (payloads.Many ms) = AreFew AskFits ms

-- the bytes are those of the payload
pub record EncodesPayload (p : Payload) (bytes : List ℕ) : Type 0 where
  pub fits : PayloadFits p
  pub encoding : bytes ≡ payload_encoding p

-- several requests are from 1 to 8
abbrev pub IsPayload : Payload → Type 0
IsPayload (payloads.One version m) = ⊤
IsPayload (payloads.Many ms) = (1 ≤ length ms) × (length ms ≤ many_limit)

-- ---- payloads of servers

-- a version and one reply, or version 2 and several replies after their count
unfoldable pub answered_encoding : Answered → List ℕ
answered_encoding (replies.One version m) = number w8 (version_number version) ++ answer m
answered_encoding (replies.Many ms) = number w8 2 ++ (number w8 many_answers ++ counted w8 answer ms)

-- each reply of the payload fits its widths, and several are from 1 to 8
abbrev pub AnsweredFits : Answered → Type 0
AnsweredFits (replies.One version m) = AnswerFits m
AnsweredFits (replies.Many ms) = AreFew AnswerFits ms

-- each reply keeps its rules, and several are from 1 to 8
abbrev pub IsAnswered : Answered → Type 0
IsAnswered (replies.One version m) = IsAnswer m
IsAnswered (replies.Many ms) = AreFew IsAnswer ms

-- the bytes are those of the replies
pub record EncodesAnswered (p : Answered) (bytes : List ℕ) : Type 0 where
  pub fits : AnsweredFits p
  pub rules : IsAnswered p
  pub encoding : bytes ≡ answered_encoding p
