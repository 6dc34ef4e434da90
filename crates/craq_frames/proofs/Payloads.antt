-- Reading payloads is the inverse of writing them.
use Rattle.std.proofs.Common.{◌≡◌, ℕ, ◌^◌, ◌<◌, ◌≤◌, Bool, true, false, cond, eqb, leb, List, [], ◌++◌, length, Option, Some, None, refl, sym, ap, subst, ◌∙◌, append_assoc, arith, le-leb}
use Rattle.std.specs.Int.{w8, w32, w64}
use Rattle.std.specs.Str.{is_utf8}
use Rattle.std.proofs.lemmas.Bool.{eqb-true, leb-true}
use Rattle.std.proofs.lemmas.List.{append-nil, nil_from_length}
use Rattle.std.proofs.lemmas.Str.{IsUtf8-from_is_utf8, is_utf8-from_IsUtf8}
use Rattle.craq_names.specs.Limits.{greatest_count}
use Rattle.craq_names.specs.Refused.{refusal_number, detail_of}
use Rattle.craq_names.specs.declared.refusal.Refusal.{Refusal}
use Rattle.craq_names.specs.declared.refusal.Refusal.TheVariants as refusals
use Rattle.craq_commands.specs.declared.command.Update.{Update}
use Rattle.craq_commands.specs.declared.read_mode.ReadMode.{ReadMode}
use Rattle.craq_commands.specs.declared.read_mode.ReadMode.TheVariants.{Strong, Eventual, Bounded}
use Rattle.craq_wire.specs.NumberEncoding.{number}
use Rattle.craq_wire.specs.PartEncoding.{value, object, pair, IsValue, IsObject, IsPair}
use Rattle.craq_wire.specs.EntryEncoding.{reply, ReplyFits}
use Rattle.craq_wire.specs.NumberReading.{◌>>=◌, number_at, bytes_at}
use Rattle.craq_wire.specs.PartReading.{value_at, object_at, pair_at}
use Rattle.craq_wire.specs.EntryReading.{reply_at}
use Rattle.craq_wire.proofs.NumberExact.{IsBytes, Takes, Takes-then, IsExact, bind_some, some_is, step, chosen, bytes_takes, bytes_again, u8_exact, u32_exact, u64_exact}
use Rattle.craq_wire.proofs.PartExact.{object_exact, request_exact, pair_exact, mapped_exact}
use Rattle.craq_wire.proofs.Tagged.{IsTagged, one_case, bare_case, tagged_exact}
use Rattle.craq_wire.proofs.EntryExact.{version_value_exact, reply_exact}
use Rattle.craq_wire.proofs.CommandExact.{command_exact}
use Rattle.craq_frames.specs.declared.ask.ClientMessage.{ClientMessage}
use Rattle.craq_frames.specs.declared.ask.ClientMessage.TheVariants as asks
use Rattle.craq_frames.specs.declared.answer.ClientReply.{ClientReply}
use Rattle.craq_frames.specs.declared.answer.ClientReply.TheVariants as answers
use Rattle.craq_frames.specs.Payload.{payload_version, mode_tag, mode_body, mode, ModeFits, update, UpdateFits, ask_kind, ask_body, AskFits, ask, ask_encoding, EncodesAsk, refusal, RefusalFits, text, IsText, answer_kind, answer_body, AnswerFits, IsAnswer, answer, answer_encoding, EncodesAnswer}
use Rattle.craq_frames.specs.Reading.{mode_body_at, mode_at, update_in_bytes, update_at, asked_update, asked_read, ask_body_at, bare_refusal, refusal_named, refusal_at, text_at, answered_update, answered_read, answer_body_at, whole, payload_at}
use Rattle.craq_frames.specs.Tests.{is_answer}
use Rattle.craq_frames.proofs.Tests.{decides_answer}

-- ---- payloads of clients

mode_takes : (tag : ℕ) (bytes : List ℕ) (x : ReadMode × List ℕ) → IsBytes bytes → mode_body_at tag bytes ≡ Some x → (Takes bytes (mode_body x.0) x.1 × ModeFits x.0) × (mode_tag x.0 ≡ tag)
unfolding mode_body_at
mode_takes tag bytes x h e =
    let P = λ (k : ℕ). (Takes bytes (mode_body x.0) x.1 × ModeFits x.0) × (mode_tag x.0 ≡ k) in
    let bare = bare_case mode_tag mode_body ModeFits in
    chosen tag 1 _ _ x e P (bare Strong refl tt bytes x h) (λ e.
    chosen tag 2 _ _ x e P (bare Eventual refl tt bytes x h) (λ e.
    chosen tag 3 _ _ x e P (one_case mode_tag mode_body ModeFits _ _ _ u32_exact Bounded (λ a. refl) (λ a q. q) 3 (λ a. refl) bytes x h) (λ e.
    absurd cc)))

mode_again : (m : ReadMode) (rest : List ℕ) → ModeFits m → mode_body_at (mode_tag m) (mode_body m ++ rest) ≡ Some (m, rest)
unfolding mode_body_at
mode_again Strong rest h = refl
mode_again Eventual rest h = refl
mode_again (Bounded above) rest h = rw (u32_exact.again above rest h) refl

mode_small : (m : ReadMode) → mode_tag m < 2 ^ 8
mode_small Strong = omega arith
mode_small Eventual = omega arith
mode_small (Bounded above) = omega arith

mode_exact : IsExact mode ModeFits mode_at
unfolding mode mode_at
mode_exact = tagged_exact mode_tag mode_body ModeFits mode_body_at (record { small = mode_small; takes = mode_takes; again = mode_again })

update_exact : IsExact update UpdateFits update_at
unfolding update update_at
update_exact =
    mapped_exact _ _ _ (pair_exact _ _ _ u64_exact _ _ _ (pair_exact _ _ _ request_exact _ _ _ command_exact)) update_in_bytes (λ (u : Update). (u.client, (u.number, u.command))) update UpdateFits
    (λ a q. record { client = q.0; number = q.1.0; command = q.1.1 }) (λ u q. (q.client, (q.number, q.command))) (λ u. refl) (λ a. refl)

abbrev Asked : Type 0
Asked = ℕ × (ℕ × Update)

asked_update_exact : IsExact (pair (number w32) (pair (number w64) update)) (IsPair (λ node. node < 2 ^ 32) (IsPair (λ pass. pass < 2 ^ 64) UpdateFits)) (pair_at (number_at w32) (pair_at (number_at w64) update_at))
asked_update_exact = pair_exact _ _ _ u32_exact _ _ _ (pair_exact _ _ _ u64_exact _ _ _ update_exact)

asked_read_exact : IsExact (pair (number w32) (pair (number w64) (pair mode object))) (IsPair (λ node. node < 2 ^ 32) (IsPair (λ pass. pass < 2 ^ 64) (IsPair ModeFits IsObject))) (pair_at (number_at w32) (pair_at (number_at w64) (pair_at mode_at object_at)))
asked_read_exact = pair_exact _ _ _ u32_exact _ _ _ (pair_exact _ _ _ u64_exact _ _ _ (pair_exact _ _ _ mode_exact _ _ _ object_exact))

ask_takes : (kind : ℕ) (bytes : List ℕ) (x : ClientMessage × List ℕ) → IsBytes bytes → ask_body_at kind bytes ≡ Some x → (Takes bytes (ask_body x.0) x.1 × AskFits x.0) × (ask_kind x.0 ≡ kind)
unfolding ask_body_at
ask_takes kind bytes x h e =
    let P = λ (k : ℕ). (Takes bytes (ask_body x.0) x.1 × AskFits x.0) × (ask_kind x.0 ≡ k) in
    chosen kind 1 _ _ x e P (one_case ask_kind ask_body AskFits _ _ _ asked_update_exact asked_update (λ a. refl) (λ a q. (q.0, q.1.0, q.1.1)) 1 (λ a. refl) bytes x h) (λ e.
    chosen kind 2 _ _ x e P (one_case ask_kind ask_body AskFits _ _ _ asked_read_exact asked_read (λ a. refl) (λ a q. (q.0, q.1.0, q.1.1.0, q.1.1.1)) 2 (λ a. refl) bytes x h) (λ e.
    chosen kind 3 _ _ x e P (bare_case ask_kind ask_body AskFits asks.Status refl tt bytes x h) (λ e.
    absurd cc)))

ask_again : (m : ClientMessage) (rest : List ℕ) → AskFits m → ask_body_at (ask_kind m) (ask_body m ++ rest) ≡ Some (m, rest)
unfolding ask_body_at
ask_again (asks.Update node pass u) rest h = rw (asked_update_exact.again (node, (pass, u)) rest (h.0, (h.1, h.2))) refl
ask_again (asks.Read node pass m o) rest h = rw (asked_read_exact.again (node, (pass, (m, o))) rest (h.0, (h.1, (h.2, h.3)))) refl
ask_again asks.Status rest h = refl

ask_small : (m : ClientMessage) → ask_kind m < 2 ^ 8
ask_small (asks.Update node pass u) = omega arith
ask_small (asks.Read node pass m o) = omega arith
ask_small asks.Status = omega arith

pub ask_tagged : IsTagged ask_kind ask_body AskFits ask_body_at
ask_tagged = record { small = ask_small; takes = ask_takes; again = ask_again }

-- ---- payloads of servers

-- a test that was passed
pub passed : {A : Type 0} (b : Bool) (r : Option A) (y : A) → cond b r None ≡ Some y → (b ≡ true) × (r ≡ Some y)
passed true r y e = (refl, e)
passed false r y e = absurd cc

-- the number and the detail of a refusal, which fits its widths
abbrev IsNamed : Refusal → ℕ → ℕ → Type 0
IsNamed r n d = (refusal_number r ≡ n) × (detail_of r ≡ d) × RefusalFits r

one_named : (s r : Refusal) → IsNamed s (refusal_number s) 0 → Some s ≡ Some r → IsNamed r (refusal_number s) 0
one_named s r h e = subst (λ (t : Refusal). IsNamed t (refusal_number s) 0) (some_is s r e) h

bare_named : (n : ℕ) (r : Refusal) → bare_refusal n ≡ Some r → IsNamed r n 0
unfolding bare_refusal
bare_named n r e =
    let P = λ (k : ℕ). IsNamed r k 0 in
    chosen n 1 _ _ r e P (one_named refusals.BadKey r (refl, refl, tt)) (λ e.
    chosen n 2 _ _ r e P (one_named refusals.ValueTooLong r (refl, refl, tt)) (λ e.
    chosen n 3 _ _ r e P (one_named refusals.TooManyItems r (refl, refl, tt)) (λ e.
    chosen n 4 _ _ r e P (one_named refusals.EmptyTransaction r (refl, refl, tt)) (λ e.
    chosen n 5 _ _ r e P (one_named refusals.DuplicateKey r (refl, refl, tt)) (λ e.
    chosen n 6 _ _ r e P (one_named refusals.BadNumber r (refl, refl, tt)) (λ e.
    chosen n 7 _ _ r e P (one_named refusals.UnknownChain r (refl, refl, tt)) (λ e.
    chosen n 8 _ _ r e P (one_named refusals.TwoChains r (refl, refl, tt)) (λ e.
    chosen n 10 _ _ r e P (one_named refusals.NotReady r (refl, refl, tt)) (λ e.
    chosen n 11 _ _ r e P (one_named refusals.Stopped r (refl, refl, tt)) (λ e.
    chosen n 12 _ _ r e P (one_named refusals.PendingFull r (refl, refl, tt)) (λ e.
    chosen n 13 _ _ r e P (one_named refusals.Exhausted r (refl, refl, tt)) (λ e.
    chosen n 14 _ _ r e P (one_named refusals.Memory r (refl, refl, tt)) (λ e.
    chosen n 15 _ _ r e P (one_named refusals.BadFrame r (refl, refl, tt)) (λ e.
    chosen n 16 _ _ r e P (one_named refusals.FrameTooLong r (refl, refl, tt)) (λ e.
    chosen n 17 _ _ r e P (one_named refusals.NotMember r (refl, refl, tt)) (λ e.
    chosen n 18 _ _ r e P (one_named refusals.NotStopped r (refl, refl, tt)) (λ e.
    chosen n 19 _ _ r e P (one_named refusals.UsedId r (refl, refl, tt)) (λ e.
    chosen n 20 _ _ r e P (one_named refusals.ChainFull r (refl, refl, tt)) (λ e.
    chosen n 21 _ _ r e P (one_named refusals.LastNode r (refl, refl, tt)) (λ e.
    chosen n 22 _ _ r e P (one_named refusals.UnknownMessage r (refl, refl, tt)) (λ e.
    chosen n 23 _ _ r e P (one_named refusals.WrongNode r (refl, refl, tt)) (λ e.
    chosen n 24 _ _ r e P (one_named refusals.JournalOff r (refl, refl, tt)) (λ e.
    chosen n 26 _ _ r e P (one_named refusals.BadConfig r (refl, refl, tt)) (λ e.
    chosen n 27 _ _ r e P (one_named refusals.Closed r (refl, refl, tt)) (λ e.
    chosen n 28 _ _ r e P (one_named refusals.Io r (refl, refl, tt)) (λ e.
    absurd cc))))))))))))))))))))))))))

named : (n d : ℕ) (r : Refusal) → d < 2 ^ 64 → refusal_named n d ≡ Some r → IsNamed r n d
unfolding refusal_named
named n d r lt e =
    let P = λ (k : ℕ). IsNamed r k d in
    chosen n 9 _ _ r e P
    (λ e. let p = passed (leb d greatest_count) (Some (refusals.NotHead d)) r e in
    let few : d ≤ greatest_count = leb-true _ _ p.0 in
    let lower : d < 2 ^ 32 = omega arith in
    subst (λ (t : Refusal). IsNamed t 9 d) (some_is (refusals.NotHead d) r p.1) (refl, refl, lower)) (λ e.
    chosen n 25 _ _ r e P (λ e. subst (λ (t : Refusal). IsNamed t 25 d) (some_is (refusals.BadScript d) r e) (refl, refl, lt)) (λ e.
    let p = passed (eqb d 0) (bare_refusal n) r e in
    subst (λ (k : ℕ). IsNamed r n k) (sym (eqb-true d 0 p.0)) (bare_named n r p.1)))

named_again : (r : Refusal) → RefusalFits r → refusal_named (refusal_number r) (detail_of r) ≡ Some r
unfolding refusal_named bare_refusal
named_again (refusals.NotHead head) h = rw (le-leb head greatest_count (omega (arith, h))) refl
named_again _ h = refl

number_small : (r : Refusal) → refusal_number r < 2 ^ 8
number_small (refusals.NotHead head) = omega arith
number_small _ = omega arith

detail_small : (r : Refusal) → RefusalFits r → detail_of r < 2 ^ 64
detail_small (refusals.NotHead head) h = omega (arith, h)
detail_small (refusals.BadScript line) h = h
detail_small _ h = omega arith

numbers_exact : IsExact (pair (number w8) (number w64)) (IsPair (λ n. n < 2 ^ 8) (λ d. d < 2 ^ 64)) (pair_at (number_at w8) (number_at w64))
numbers_exact = pair_exact _ _ _ u8_exact _ _ _ u64_exact

refusal_takes : (bytes : List ℕ) (x : Refusal × List ℕ) → IsBytes bytes → refusal_at bytes ≡ Some x → Takes bytes (refusal x.0) x.1 × RefusalFits x.0
unfolding refusal_at
refusal_takes bytes x h e =
    let s = step _ _ _ numbers_exact bytes (λ y. refusal_named y.0.0 y.0.1 >>= λ r. Some (r, y.1)) x h e in
    let m = bind_some (refusal_named s.0.0.0 s.0.0.1) (λ r. Some (r, s.0.1)) x s.3 in
    let n = named s.0.0.0 s.0.0.1 m.0 s.2.1 m.1 in
    let reported : Takes bytes (number w8 s.0.0.0 ++ number w64 s.0.0.1) s.0.1 = s.1 in
    let numbered : Takes bytes (number w8 (refusal_number m.0) ++ number w64 s.0.0.1) s.0.1 = subst (λ (k : ℕ). Takes bytes (number w8 k ++ number w64 s.0.0.1) s.0.1) (sym n.0) reported in
    let both : Takes bytes (refusal m.0) s.0.1 = subst (λ (d : ℕ). Takes bytes (number w8 (refusal_number m.0) ++ number w64 d) s.0.1) (sym n.1) numbered in
    subst (λ (y : Refusal × List ℕ). Takes bytes (refusal y.0) y.1 × RefusalFits y.0) (some_is (m.0, s.0.1) x m.2) (both, n.2)

refusal_again : (r : Refusal) (rest : List ℕ) → RefusalFits r → refusal_at (refusal r ++ rest) ≡ Some (r, rest)
unfolding refusal_at
refusal_again r rest h = rw (numbers_exact.again (refusal_number r, detail_of r) rest (number_small r, detail_small r h), named_again r h) refl

refusal_exact : IsExact refusal RefusalFits refusal_at
refusal_exact = record { takes = refusal_takes; again = refusal_again }

text_takes : (bytes : List ℕ) (x : List ℕ × List ℕ) → IsBytes bytes → text_at bytes ≡ Some x → Takes bytes (text x.0) x.1 × IsText x.0
unfolding text_at
text_takes bytes x h e =
    let s = step (number w32) (λ n. n < 2 ^ 32) (number_at w32) u32_exact bytes (λ n. bytes_at n.0 n.1 >>= λ t. cond (is_utf8 t.0) (Some t) None) x h e in
    let b = bind_some (bytes_at s.0.0 s.0.1) (λ t. cond (is_utf8 t.0) (Some t) None) x s.3 in
    let t = bytes_takes s.0.0 s.0.1 b.0 s.1.rest_fits b.1 in
    let p = passed (is_utf8 b.0.0) (Some b.0) x b.2 in
    let both : Takes bytes (number w32 s.0.0 ++ b.0.0) b.0.1 = Takes-then s.1 t.0 in
    let counted : Takes bytes (text b.0.0) b.0.1 = subst (λ (k : ℕ). Takes bytes (number w32 k ++ b.0.0) b.0.1) (sym t.1) both in
    subst (λ (y : List ℕ × List ℕ). Takes bytes (text y.0) y.1 × IsText y.0) (some_is b.0 x p.1)
    (counted, record { few = subst (λ (k : ℕ). k < 2 ^ 32) (sym t.1) s.2; utf8 = IsUtf8-from_is_utf8 b.0.0 p.0 })

text_again : (t rest : List ℕ) → IsText t → text_at (text t ++ rest) ≡ Some (t, rest)
unfolding text_at
text_again t rest h =
    ap text_at (append_assoc (number w32 (length t)) t rest) ∙ rw (u32_exact.again (length t) (t ++ rest) h.few, bytes_again t rest, is_utf8-from_IsUtf8 t h.utf8) refl

text_exact : IsExact text IsText text_at
text_exact = record { takes = text_takes; again = text_again }

answered_update_exact : IsExact (pair (number w64) reply) (IsPair (λ pass. pass < 2 ^ 64) ReplyFits) (pair_at (number_at w64) reply_at)
answered_update_exact = pair_exact _ _ _ u64_exact _ _ _ reply_exact

answered_read_exact : IsExact (pair (number w64) (pair (number w64) value)) (IsPair (λ pass. pass < 2 ^ 64) (IsPair (λ version. version < 2 ^ 64) IsValue)) (pair_at (number_at w64) (pair_at (number_at w64) value_at))
answered_read_exact = pair_exact _ _ _ u64_exact _ _ _ version_value_exact

answer_takes : (kind : ℕ) (bytes : List ℕ) (x : ClientReply × List ℕ) → IsBytes bytes → answer_body_at kind bytes ≡ Some x → (Takes bytes (answer_body x.0) x.1 × AnswerFits x.0) × (answer_kind x.0 ≡ kind)
unfolding answer_body_at
answer_takes kind bytes x h e =
    let P = λ (k : ℕ). (Takes bytes (answer_body x.0) x.1 × AnswerFits x.0) × (answer_kind x.0 ≡ k) in
    chosen kind 1 _ _ x e P (one_case answer_kind answer_body AnswerFits _ _ _ answered_update_exact answered_update (λ a. refl) (λ a q. q) 1 (λ a. refl) bytes x h) (λ e.
    chosen kind 2 _ _ x e P (one_case answer_kind answer_body AnswerFits _ _ _ answered_read_exact answered_read (λ a. refl) (λ a q. (q.0, q.1.0, q.1.1)) 2 (λ a. refl) bytes x h) (λ e.
    chosen kind 3 _ _ x e P (one_case answer_kind answer_body AnswerFits _ _ _ refusal_exact answers.Refused (λ a. refl) (λ a q. q) 3 (λ a. refl) bytes x h) (λ e.
    chosen kind 4 _ _ x e P (one_case answer_kind answer_body AnswerFits _ _ _ text_exact answers.Status (λ a. refl) (λ a q. q) 4 (λ a. refl) bytes x h) (λ e.
    absurd cc))))

answer_again : (m : ClientReply) (rest : List ℕ) → AnswerFits m → answer_body_at (answer_kind m) (answer_body m ++ rest) ≡ Some (m, rest)
unfolding answer_body_at
answer_again (answers.Update pass r) rest h = rw (answered_update_exact.again (pass, r) rest h) refl
answer_again (answers.Read pass version v) rest h = rw (answered_read_exact.again (pass, (version, v)) rest (h.0, (h.1, h.2))) refl
answer_again (answers.Refused r) rest h = rw (refusal_exact.again r rest h) refl
answer_again (answers.Status t) rest h = rw (text_exact.again t rest h) refl

answer_small : (m : ClientReply) → answer_kind m < 2 ^ 8
answer_small (answers.Update pass r) = omega arith
answer_small (answers.Read pass version v) = omega arith
answer_small (answers.Refused r) = omega arith
answer_small (answers.Status t) = omega arith

pub answer_tagged : IsTagged answer_kind answer_body AnswerFits answer_body_at
answer_tagged = record { small = answer_small; takes = answer_takes; again = answer_again }

-- ---- payloads

module _ {X : Type 0} (kind_of : X → ℕ) (body : X → List ℕ) (fits : X → Type 0) (body_at : ℕ → List ℕ → Option (X × List ℕ)) (tagged : IsTagged kind_of body fits body_at) where
  abbrev payload : X → List ℕ
  payload x = number w8 payload_version ++ (number w8 (kind_of x) ++ body x)

  heads_exact : IsExact (pair (number w8) (number w8)) (IsPair (λ n. n < 2 ^ 8) (λ n. n < 2 ^ 8)) (pair_at (number_at w8) (number_at w8))
  heads_exact = pair_exact _ _ _ u8_exact _ _ _ u8_exact

  payload_takes : (bytes : List ℕ) (m : X) → IsBytes bytes → payload_at body_at bytes ≡ Some m → fits m × (bytes ≡ payload m)
  unfolding payload_at
  payload_takes bytes m h e =
      let s = step _ _ _ heads_exact bytes (λ y. cond (eqb y.0.0 payload_version) (whole (body_at y.0.1 y.1)) None) m h e in
      let p = passed (eqb s.0.0.0 payload_version) (whole (body_at s.0.0.1 s.0.1)) m s.3 in
      let b = bind_some (body_at s.0.0.1 s.0.1) (λ y. cond (eqb (length y.1) 0) (Some y.0) None) m p.1 in
      let t = tagged.takes s.0.0.1 s.0.1 b.0 s.1.rest_fits b.1 in
      let q = passed (eqb (length b.0.1) 0) (Some b.0.0) m b.2 in
      let nothing : b.0.1 ≡ [] = nil_from_length b.0.1 (eqb-true _ _ q.0) in
      let both : Takes bytes ((number w8 s.0.0.0 ++ number w8 s.0.0.1) ++ body b.0.0) b.0.1 = Takes-then s.1 t.0.0 in
      let parts : bytes ≡ (number w8 s.0.0.0 ++ number w8 s.0.0.1) ++ body b.0.0 = both.parts ∙ ap (λ (r : List ℕ). ((number w8 s.0.0.0 ++ number w8 s.0.0.1) ++ body b.0.0) ++ r) nothing ∙ append-nil ((number w8 s.0.0.0 ++ number w8 s.0.0.1) ++ body b.0.0) in
      let grouped : bytes ≡ number w8 s.0.0.0 ++ (number w8 s.0.0.1 ++ body b.0.0) = parts ∙ append_assoc (number w8 s.0.0.0) (number w8 s.0.0.1) (body b.0.0) in
      let versioned : bytes ≡ number w8 payload_version ++ (number w8 s.0.0.1 ++ body b.0.0) = grouped ∙ ap (λ (n : ℕ). number w8 n ++ (number w8 s.0.0.1 ++ body b.0.0)) (eqb-true _ _ p.0) in
      let named_so : bytes ≡ payload b.0.0 = versioned ∙ ap (λ (n : ℕ). number w8 payload_version ++ (number w8 n ++ body b.0.0)) (sym t.1) in
      subst (λ (n : X). fits n × (bytes ≡ payload n)) (some_is b.0.0 m q.1) (t.0.1, named_so)

  payload_again : (m : X) → fits m → payload_at body_at (payload m) ≡ Some m
  unfolding payload_at
  payload_again m h =
      let version : payload_version < 2 ^ 8 = omega arith in
      let heads : pair_at (number_at w8) (number_at w8) (payload m) ≡ Some ((payload_version, kind_of m), body m) =
      ap (pair_at (number_at w8) (number_at w8)) (sym (append_assoc (number w8 payload_version) (number w8 (kind_of m)) (body m))) ∙ heads_exact.again (payload_version, kind_of m) (body m) (version, tagged.small m) in
      let said : body_at (kind_of m) (body m) ≡ Some (m, []) = ap (body_at (kind_of m)) (sym (append-nil (body m))) ∙ tagged.again m [] h in
      rw (heads, said) refl

-- ---- the contract of `decode`

ask_is_read : (bytes : List ℕ) (m : ClientMessage) → EncodesAsk m bytes → payload_at ask_body_at bytes ≡ Some m
unfolding ask_encoding ask
ask_is_read bytes m s = ap (payload_at ask_body_at) s.encoding ∙ payload_again ask_kind ask_body AskFits ask_body_at ask_tagged m s.fits

pub ask_found : (bytes : List ℕ) (m : ClientMessage) → IsBytes bytes → payload_at ask_body_at bytes ≡ Some m → EncodesAsk m bytes
unfolding ask_encoding ask
ask_found bytes m h e = let t = payload_takes ask_kind ask_body AskFits ask_body_at ask_tagged bytes m h e in record { fits = t.0; encoding = t.1 }

pub ask_only : (bytes : List ℕ) (m other : ClientMessage) → payload_at ask_body_at bytes ≡ Some m → EncodesAsk other bytes → other ≡ m
ask_only bytes m other e s = some_is other m (sym (ask_is_read bytes other s) ∙ e)

pub no_ask : (bytes : List ℕ) (m : ClientMessage) → payload_at ask_body_at bytes ≡ None → EncodesAsk m bytes → ⊥
no_ask bytes m e s = let one = sym (ask_is_read bytes m s) ∙ e in cc

answer_is_read : (bytes : List ℕ) (m : ClientReply) → EncodesAnswer m bytes → payload_at answer_body_at bytes ≡ Some m
unfolding answer_encoding answer
answer_is_read bytes m s = ap (payload_at answer_body_at) s.encoding ∙ payload_again answer_kind answer_body AnswerFits answer_body_at answer_tagged m s.fits

pub answer_found : (bytes : List ℕ) (m : ClientReply) → IsBytes bytes → payload_at answer_body_at bytes ≡ Some m → is_answer m ≡ true → EncodesAnswer m bytes
unfolding answer_encoding answer
answer_found bytes m h e r =
    let t = payload_takes answer_kind answer_body AnswerFits answer_body_at answer_tagged bytes m h e in
    record { fits = t.0; rules = (decides_answer m).0 r; encoding = t.1 }

pub answer_only : (bytes : List ℕ) (m other : ClientReply) → payload_at answer_body_at bytes ≡ Some m → EncodesAnswer other bytes → other ≡ m
answer_only bytes m other e s = some_is other m (sym (answer_is_read bytes other s) ∙ e)

pub no_answer : (bytes : List ℕ) (m : ClientReply) → payload_at answer_body_at bytes ≡ None → EncodesAnswer m bytes → ⊥
no_answer bytes m e s = let one = sym (answer_is_read bytes m s) ∙ e in cc

pub rules_broken : (bytes : List ℕ) (n m : ClientReply) → payload_at answer_body_at bytes ≡ Some n → is_answer n ≡ false → EncodesAnswer m bytes → ⊥
rules_broken bytes n m e t s =
    let same = answer_only bytes n m e s in
    let kept : is_answer n ≡ true = (decides_answer n).1 (subst IsAnswer same s.rules) in
    cc
