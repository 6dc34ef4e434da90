-- Lengths of payloads.
use Rattle.std.proofs.Common.{◌≡◌, ◌↔◌, ℕ, ◌+◌, ◌*◌, ◌≤◌, ◌<◌, ◌^◌, List, [], ◌∷◌, ◌++◌, length, drop, ap, ◌∙◌, arith, length-append}
use Rattle.std.specs.Int.{w8, w16, w32, w64}
use Rattle.std.specs.List.{flat_map, AllByRecursion}
use Rattle.std.proofs.lemmas.List.{drop_at}
use Rattle.std.proofs.lemmas.List.Concat.{flat_map-cons}
use Rattle.craq_names.specs.Refused.{refusal_number, detail_of}
use Rattle.craq_names.specs.declared.refusal.Refusal.{Refusal}
use Rattle.craq_commands.specs.declared.reply.Reply.{Reply}
use Rattle.craq_commands.specs.declared.reply.Reply.TheVariants.{Written, Mismatch, TooLong, NotANumber, Overflow, Underflow, Done, CompareFailed, Stale}
use Rattle.craq_model.specs.Encodable.{IsReply}
use Rattle.craq_wire.specs.NumberEncoding.{number}
use Rattle.craq_wire.specs.PartEncoding.{value, pair, counted, IsValue, IsPair}
use Rattle.craq_wire.specs.EntryEncoding.{reply, ReplyFits}
use Rattle.craq_wire.proofs.NumberExact.{wide8, wide16, wide32, wide64}
use Rattle.craq_frames.specs.declared.answer.ClientReply.{ClientReply}
use Rattle.craq_frames.specs.declared.answer.ClientReply.TheVariants as answers
use Rattle.craq_frames.specs.declared.versions.PayloadVersion.{PayloadVersion}
use Rattle.craq_frames.specs.declared.versions.Answered.{Answered}
use Rattle.craq_frames.specs.declared.versions.Answered.TheVariants as replies
use Rattle.craq_frames.specs.Frame.{frame, payload_limit}
use Rattle.craq_frames.specs.Payload.{answer, AnswerFits, IsAnswer, answer_encoding, payload_version}
use Rattle.craq_frames.specs.Versions.{version_number, many_answers, AreFew, answered_encoding, AnsweredFits, EncodesAnswered}
use Rattle.craq_frames.specs.Allowed.{reply_limit, IsShort, IsAllowed}
use Rattle.craq_frames.specs.Serving.{refused, reported}

pub len8 : (n : ℕ) → length (number w8 n) ≡ 1
unfolding number
len8 n = wide8.len n

pub len16 : (n : ℕ) → length (number w16 n) ≡ 2
unfolding number
len16 n = wide16.len n

pub len32 : (n : ℕ) → length (number w32 n) ≡ 4
unfolding number
len32 n = wide32.len n

pub len64 : (n : ℕ) → length (number w64 n) ≡ 8
unfolding number
len64 n = wide64.len n

pub len_pair : (a b : List ℕ) (m n : ℕ) → length a ≡ m → length b ≤ n → length (a ++ b) ≤ m + n
len_pair a b m n h k = omega (arith, length-append a b, h, k)

-- ---- replies

versioned_value : ℕ × List ℕ → List ℕ
versioned_value = pair (number w64) value

objects_few : (xs : List (ℕ × List ℕ)) → AllByRecursion (IsPair (λ version. version < 2 ^ 64) IsValue) xs → length (flat_map (pair (number w64) value) xs) ≤ 4106 * length xs
objects_few [] h = omega arith
objects_few (x ∷ xs) h =
    let rest = objects_few xs h.1 in
    let one : length (number w64 x.0 ++ (number w16 (length x.1) ++ x.1)) ≤ 8 + (2 + 4096) = len_pair _ _ 8 (2 + 4096) (len64 x.0) (len_pair _ _ 2 4096 (len16 (length x.1)) h.0.1) in
    omega (arith, ap length (flat_map-cons (pair (number w64) value) x xs), length-append (number w64 x.0 ++ (number w16 (length x.1) ++ x.1)) (flat_map (pair (number w64) value) xs), one, rest)

pub tagged_few : (tag n : ℕ) (body : List ℕ) → length body ≤ n → length (number w8 tag ++ body) ≤ 1 + n
tagged_few tag n body h = len_pair _ _ 1 n (len8 tag) h

reply_few : (r : Reply) → IsReply r → ReplyFits r → length (reply r) ≤ 70000
unfolding reply
reply_few (Written version) i f = omega (arith, tagged_few 1 8 (number w64 version) (omega (arith, len64 version)))
reply_few (Mismatch version) i f = omega (arith, tagged_few 2 8 (number w64 version) (omega (arith, len64 version)))
reply_few TooLong i f = omega (arith, tagged_few 3 0 [] (omega arith))
reply_few NotANumber i f = omega (arith, tagged_few 4 0 [] (omega arith))
reply_few Overflow i f = omega (arith, tagged_few 5 0 [] (omega arith))
reply_few Underflow i f = omega (arith, tagged_few 6 0 [] (omega arith))
reply_few (Done objects) i f =
    let all = objects_few objects f.each in
    let few : length objects ≤ 16 = i.0 in
    let body : length (flat_map (pair (number w64) value) objects) ≤ 65696 = omega (arith, all, few) in
    omega (arith, tagged_few 7 65697 (counted w8 (pair (number w64) value) objects) (len_pair _ _ 1 65696 (len8 (length objects)) body))
reply_few (CompareFailed place) i f = omega (arith, tagged_few 8 1 (number w8 place) (omega (arith, len8 place)))
reply_few (Stale last) i f = omega (arith, tagged_few 9 8 (number w64 last) (omega (arith, len64 last)))

pub answer_few : (r : ClientReply) → AnswerFits r → IsAllowed r → length (answer r) ≤ 99999
unfolding answer
answer_few (answers.Update pass r) f a =
    omega (arith, tagged_few 1 70008 (number w64 pass ++ reply r) (len_pair _ _ 8 70000 (len64 pass) (reply_few r a.rules f.1)))
answer_few (answers.Read pass version v) f a =
    omega (arith, tagged_few 2 4114 (number w64 pass ++ (number w64 version ++ value v)) (len_pair _ _ 8 4106 (len64 pass) (len_pair _ _ 8 4098 (len64 version) (len_pair _ _ 2 4096 (len16 (length v)) f.2))))
answer_few (answers.Refused r) f a =
    omega (arith, tagged_few 3 9 (number w8 (refusal_number r) ++ number w64 (detail_of r)) (len_pair _ _ 1 8 (len8 (refusal_number r)) (omega (arith, len64 (detail_of r)))))
answer_few (answers.Status t) f a =
    let few : length t ≤ 99994 = omega (arith, a.short) in
    omega (arith, tagged_few 4 99998 (number w32 (length t) ++ t) (len_pair _ _ 4 99994 (len32 (length t)) few))

-- an allowed reply goes into a payload of the limit of replies
pub allowed_few : (r : ClientReply) → AnswerFits r → IsAllowed r → length (answer_encoding r) ≤ reply_limit
unfolding answer_encoding
allowed_few r f a = omega (arith, tagged_few payload_version 99999 (answer r) (answer_few r f a))

-- ---- payloads

one_few : (version : PayloadVersion) (r : ClientReply) → AnswerFits r → IsAllowed r → length (answered_encoding (replies.One version r)) ≤ payload_limit
unfolding answered_encoding
one_few version r f a = omega (arith, tagged_few (version_number version) 99999 (answer r) (answer_few r f a))

each_few : (rs : List ClientReply) → AllByRecursion AnswerFits rs → AllByRecursion IsAllowed rs → length (flat_map answer rs) ≤ 99999 * length rs
each_few [] f a = omega arith
each_few (r ∷ rs) f a = omega (arith, ap length (flat_map-cons answer r rs), length-append (answer r) (flat_map answer rs), answer_few r f.0 a.0, each_few rs f.1 a.1)

many_few : (rs : List ClientReply) → AreFew AnswerFits rs → AllByRecursion IsAllowed rs → length (answered_encoding (replies.Many rs)) ≤ payload_limit
unfolding answered_encoding
many_few rs f a =
    let few : length rs ≤ 8 = f.few in
    let all : length (flat_map answer rs) ≤ 799992 = omega (arith, each_few rs f.each a, few) in
    omega (arith, tagged_few 2 799994 (number w8 many_answers ++ counted w8 answer rs) (tagged_few many_answers 799993 (counted w8 answer rs) (tagged_few (length rs) 799992 (flat_map answer rs) all)))

pub answered_few : (a : Answered) → AnsweredFits a → AllByRecursion IsAllowed (reported a) → length (answered_encoding a) ≤ payload_limit
answered_few (replies.One version r) f a = one_few version r f a.0
answered_few (replies.Many rs) f a = many_few rs f a

pub payload_few : (a : Answered) (payload : List ℕ) → AllByRecursion IsAllowed (reported a) → EncodesAnswered a payload → length payload ≤ payload_limit
payload_few a payload h s = omega (arith, ap length s.encoding, answered_few a s.fits h)

-- a frame in front, and what is behind it
frame_len : (payload : List ℕ) → length (frame payload) ≡ length payload + 4
frame_len payload = omega (arith, length-append (number w32 (length payload)) payload, len32 (length payload))

pub whole_frame : (bytes payload rest : List ℕ) → bytes ≡ frame payload ++ rest → length payload + 4 ≤ length bytes
whole_frame bytes payload rest e = omega (arith, ap length e, length-append (frame payload) rest, frame_len payload)

pub behind_frame : (bytes payload rest : List ℕ) → bytes ≡ frame payload ++ rest → drop (length payload + 4) bytes ≡ rest
behind_frame bytes payload rest e = ap (drop (length payload + 4)) e ∙ drop_at (frame payload) rest (length payload + 4) (frame_len payload)

pub refused_len : (why : Refusal) → length (answered_encoding (refused why)) ≡ 11
unfolding answered_encoding answer
refused_len why =
    let tail : length (number w8 (refusal_number why) ++ number w64 (detail_of why)) ≡ 9 = omega (arith, length-append (number w8 (refusal_number why)) (number w64 (detail_of why)), len8 (refusal_number why), len64 (detail_of why)) in
    let body : length (number w8 3 ++ (number w8 (refusal_number why) ++ number w64 (detail_of why))) ≡ 10 = omega (arith, length-append (number w8 3) (number w8 (refusal_number why) ++ number w64 (detail_of why)), len8 3, tail) in
    omega (arith, length-append (number w8 1) (number w8 3 ++ (number w8 (refusal_number why) ++ number w64 (detail_of why))), len8 1, body)

short_text : (r : ClientReply) → length (answer_encoding r) ≤ reply_limit → IsShort r
unfolding answer_encoding answer
short_text (answers.Update pass r) h = tt
short_text (answers.Read pass version v) h = tt
short_text (answers.Refused r) h = tt
short_text (answers.Status t) h =
    omega (
      arith,
      h,
      length-append (number w8 payload_version) (number w8 4 ++ (number w32 (length t) ++ t)),
      length-append (number w8 4) (number w32 (length t) ++ t),
      length-append (number w32 (length t)) t,
      len8 payload_version,
      len8 4,
      len32 (length t),
    )

pub allowed_exactly : (r : ClientReply) → AnswerFits r → IsAllowed r ↔ (IsAnswer r × (length (answer_encoding r) ≤ reply_limit))
allowed_exactly r f = (λ a. (a.rules, allowed_few r f a), λ p. record { rules = p.0; short = short_text r p.1 })
