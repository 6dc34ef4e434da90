-- Reading payloads of both versions is the inverse of writing them.
use Rattle.std.proofs.Common.{◌≡◌, ℕ, ◌^◌, ◌<◌, ◌≤◌, true, false, Bool, cond, eqb, ltb, List, [], ◌++◌, length, Option, Some, None, refl, sym, ap, subst, ◌∙◌, append_assoc, arith}
use Rattle.std.specs.Int.{w8}
use Rattle.std.specs.List.{flat_map, AllByRecursion, list_all}
use Rattle.std.proofs.lemmas.Bool.{eqb-true, ltb-false, le-ltb}
use Rattle.std.proofs.lemmas.List.{append-nil, nil_from_length}
use Rattle.craq_wire.specs.NumberEncoding.{number}
use Rattle.craq_wire.specs.PartEncoding.{pair, counted, IsPair}
use Rattle.craq_wire.specs.NumberReading.{◌>>=◌, number_at}
use Rattle.craq_wire.specs.PartReading.{pair_at, many_at, mapped}
use Rattle.craq_wire.proofs.NumberExact.{IsBytes, Takes, Takes-then, IsExact, bind_some, guard_some, some_is, step, chosen, u8_exact}
use Rattle.craq_wire.proofs.PartExact.{pair_exact, many_takes, many_again}
use Rattle.craq_wire.proofs.Tagged.{IsTagged, tagged_exact}
use Rattle.craq_wire.proofs.ReplyTests.{decides_all}
use Rattle.craq_frames.specs.declared.ask.ClientMessage.{ClientMessage}
use Rattle.craq_frames.specs.declared.ask.ClientMessage.TheVariants as asks
use Rattle.craq_frames.specs.declared.answer.ClientReply.{ClientReply}
use Rattle.craq_frames.specs.declared.answer.ClientReply.TheVariants as answers
use Rattle.craq_frames.specs.declared.versions.PayloadVersion.{PayloadVersion}
use Rattle.craq_frames.specs.declared.versions.PayloadVersion.TheVariants.{First, Second}
use Rattle.craq_frames.specs.declared.versions.Payload.{Payload}
use Rattle.craq_frames.specs.declared.versions.Payload.TheVariants as payloads
use Rattle.craq_frames.specs.declared.versions.Answered.{Answered}
use Rattle.craq_frames.specs.declared.versions.Answered.TheVariants as replies
use Rattle.craq_frames.specs.Payload.{ask_kind, ask_body, ask, AskFits, answer_kind, answer_body, answer, AnswerFits, IsAnswer}
use Rattle.craq_frames.specs.Versions.{version_number, many_limit, many_asks, many_answers, AreFew, payload_encoding, PayloadFits, EncodesPayload, answered_encoding, AnsweredFits, IsAnswered, EncodesAnswered}
use Rattle.craq_frames.specs.Reading.{ask_body_at, ask_at, answer_body_at, answer_at, whole, few_at, payload_body_at, answered_body_at, versioned_at}
use Rattle.craq_frames.specs.Tests.{is_answer, is_answered}
use Rattle.craq_frames.proofs.Payloads.{passed, ask_tagged, answer_tagged}
use Rattle.craq_frames.proofs.Tests.{decides_answer}

-- ---- lists of 1 to 8

module _ {A : Type 0} (encoding : A → List ℕ) (fits : A → Type 0) (part : List ℕ → Option (A × List ℕ)) (exact : IsExact encoding fits part) where
  few_takes : (bytes : List ℕ) (x : List A × List ℕ) → IsBytes bytes → few_at part bytes ≡ Some x → Takes bytes (counted w8 encoding x.0) x.1 × AreFew fits x.0
  unfolding few_at
  few_takes bytes x h e =
      let s = step (number w8) (λ n. n < 2 ^ 8) (number_at w8) u8_exact bytes (λ n. cond (ltb n.0 1) None (cond (ltb many_limit n.0) None (many_at part n.0 n.1))) x h e in
      let low = guard_some (ltb s.0.0 1) (cond (ltb many_limit s.0.0) None (many_at part s.0.0 s.0.1)) x s.3 in
      let high = guard_some (ltb many_limit s.0.0) (many_at part s.0.0 s.0.1) x low.1 in
      let t = many_takes encoding fits part exact s.0.0 s.0.1 x s.1.rest_fits high.1 in
      let both = Takes-then s.1 t.0 in
      let reported : Takes bytes (counted w8 encoding x.0) x.1 = subst (λ (n : ℕ). Takes bytes (number w8 n ++ flat_map encoding x.0) x.1) (sym t.1) both in
      (reported, record { some = subst (λ (n : ℕ). 1 ≤ n) (sym t.1) (ltb-false _ _ low.0); few = subst (λ (n : ℕ). n ≤ many_limit) (sym t.1) (ltb-false _ _ high.0); each = t.2 })

  few_again : (xs : List A) (rest : List ℕ) → AreFew fits xs → few_at part (counted w8 encoding xs ++ rest) ≡ Some (xs, rest)
  unfolding few_at
  few_again xs rest h =
      let small : length xs < 2 ^ 8 = omega (arith, h.few) in
      ap (few_at part) (append_assoc (number w8 (length xs)) (flat_map encoding xs) rest)
      ∙ rw (u8_exact.again (length xs) (flat_map encoding xs ++ rest) small, le-ltb _ _ h.some, le-ltb _ _ h.few) (many_again encoding fits part exact xs rest h.each)

-- ---- a version, a kind, and what follows them

record IsVersioned {P : Type 0} (version_of kind_of : P → ℕ) (tail : P → List ℕ) (fits : P → Type 0) (body_at : ℕ → ℕ → List ℕ → Option (P × List ℕ)) : Type 0 where
  version_small : (p : P) → version_of p < 2 ^ 8
  kind_small : (p : P) → kind_of p < 2 ^ 8
  takes : (version kind : ℕ) (bytes : List ℕ) (x : P × List ℕ) → IsBytes bytes → body_at version kind bytes ≡ Some x
      → Takes bytes (tail x.0) x.1 × fits x.0 × (version_of x.0 ≡ version) × (kind_of x.0 ≡ kind)
  again : (p : P) (rest : List ℕ) → fits p → body_at (version_of p) (kind_of p) (tail p ++ rest) ≡ Some (p, rest)

heads_exact : IsExact (pair (number w8) (number w8)) (IsPair (λ n. n < 2 ^ 8) (λ n. n < 2 ^ 8)) (pair_at (number_at w8) (number_at w8))
heads_exact = pair_exact _ _ _ u8_exact _ _ _ u8_exact

module _ {P : Type 0} (version_of kind_of : P → ℕ) (tail : P → List ℕ) (fits : P → Type 0) (body_at : ℕ → ℕ → List ℕ → Option (P × List ℕ)) (versioned : IsVersioned version_of kind_of tail fits body_at) where
  abbrev spelled : P → List ℕ
  spelled p = number w8 (version_of p) ++ (number w8 (kind_of p) ++ tail p)

  versioned_takes : (bytes : List ℕ) (p : P) → IsBytes bytes → versioned_at body_at bytes ≡ Some p → fits p × (bytes ≡ spelled p)
  unfolding versioned_at
  versioned_takes bytes p h e =
      let s = step _ _ _ heads_exact bytes (λ y. whole (body_at y.0.0 y.0.1 y.1)) p h e in
      let b = bind_some (body_at s.0.0.0 s.0.0.1 s.0.1) (λ y. cond (eqb (length y.1) 0) (Some y.0) None) p s.3 in
      let t = versioned.takes s.0.0.0 s.0.0.1 s.0.1 b.0 s.1.rest_fits b.1 in
      let q = passed (eqb (length b.0.1) 0) (Some b.0.0) p b.2 in
      let nothing : b.0.1 ≡ [] = nil_from_length b.0.1 (eqb-true _ _ q.0) in
      let front : List ℕ = (number w8 s.0.0.0 ++ number w8 s.0.0.1) ++ tail b.0.0 in
      let both : Takes bytes front b.0.1 = Takes-then s.1 t.0 in
      let parts : bytes ≡ front = both.parts ∙ ap (λ (r : List ℕ). front ++ r) nothing ∙ append-nil front in
      let grouped : bytes ≡ number w8 s.0.0.0 ++ (number w8 s.0.0.1 ++ tail b.0.0) = parts ∙ append_assoc (number w8 s.0.0.0) (number w8 s.0.0.1) (tail b.0.0) in
      let numbered : bytes ≡ number w8 (version_of b.0.0) ++ (number w8 s.0.0.1 ++ tail b.0.0) = grouped ∙ ap (λ (n : ℕ). number w8 n ++ (number w8 s.0.0.1 ++ tail b.0.0)) (sym t.2) in
      let named_so : bytes ≡ spelled b.0.0 = numbered ∙ ap (λ (n : ℕ). number w8 (version_of b.0.0) ++ (number w8 n ++ tail b.0.0)) (sym t.3) in
      subst (λ (n : P). fits n × (bytes ≡ spelled n)) (some_is b.0.0 p q.1) (t.1, named_so)

  versioned_again : (p : P) → fits p → versioned_at body_at (spelled p) ≡ Some p
  unfolding versioned_at
  versioned_again p h =
      let heads : pair_at (number_at w8) (number_at w8) (spelled p) ≡ Some ((version_of p, kind_of p), tail p) =
      ap (pair_at (number_at w8) (number_at w8)) (sym (append_assoc (number w8 (version_of p)) (number w8 (kind_of p)) (tail p))) ∙ heads_exact.again (version_of p, kind_of p) (tail p) (versioned.version_small p, versioned.kind_small p) in
      let reported : body_at (version_of p) (kind_of p) (tail p) ≡ Some (p, []) = ap (body_at (version_of p) (kind_of p)) (sym (append-nil (tail p))) ∙ versioned.again p [] h in
      rw (heads, reported) refl

-- the value that was read, mapped to another
made : {A B : Type 0} (f : A → B) (read : Option (A × List ℕ)) (x : B × List ℕ) → mapped f read ≡ Some x → (y : A × List ℕ) × (read ≡ Some y) × ((f y.0, y.1) ≡ x)
made f read x e = let b = bind_some read (λ y. Some (f y.0, y.1)) x e in (b.0, b.1, some_is _ x b.2)

-- ---- payloads of clients

asked_version : Payload → ℕ
asked_version (payloads.One version m) = version_number version
asked_version (payloads.Many ms) = 2

asked_kind : Payload → ℕ
asked_kind (payloads.One version m) = ask_kind m
asked_kind (payloads.Many ms) = many_asks

asked_tail : Payload → List ℕ
asked_tail (payloads.One version m) = ask_body m
asked_tail (payloads.Many ms) = counted w8 ask ms

ask_exact : IsExact ask AskFits ask_at
unfolding ask ask_at
ask_exact = tagged_exact ask_kind ask_body AskFits ask_body_at ask_tagged

not_many_asks : (m : ClientMessage) → eqb (ask_kind m) many_asks ≡ false
not_many_asks (asks.Update node pass u) = refl
not_many_asks (asks.Read node pass m o) = refl
not_many_asks asks.Status = refl

one_ask : (version : PayloadVersion) (kind : ℕ) (bytes : List ℕ) (x : Payload × List ℕ) → IsBytes bytes → mapped (payloads.One version) (ask_body_at kind bytes) ≡ Some x
    → Takes bytes (asked_tail x.0) x.1 × PayloadFits x.0 × (asked_version x.0 ≡ version_number version) × (asked_kind x.0 ≡ kind)
unfolding asked_tail asked_version asked_kind
one_ask version kind bytes x h e =
    let m = made (payloads.One version) (ask_body_at kind bytes) x e in
    let t = ask_tagged.takes kind bytes m.0 h m.1 in
    subst (λ (y : Payload × List ℕ). Takes bytes (asked_tail y.0) y.1 × PayloadFits y.0 × (asked_version y.0 ≡ version_number version) × (asked_kind y.0 ≡ kind)) m.2 (t.0.0, t.0.1, refl, t.1)

several_asks : (bytes : List ℕ) (x : Payload × List ℕ) → IsBytes bytes → mapped payloads.Many (few_at ask_at bytes) ≡ Some x
    → Takes bytes (asked_tail x.0) x.1 × PayloadFits x.0 × (asked_version x.0 ≡ 2) × (asked_kind x.0 ≡ many_asks)
unfolding asked_tail asked_version asked_kind
several_asks bytes x h e =
    let m = made payloads.Many (few_at ask_at bytes) x e in
    let t = few_takes ask AskFits ask_at ask_exact bytes m.0 h m.1 in
    subst (λ (y : Payload × List ℕ). Takes bytes (asked_tail y.0) y.1 × PayloadFits y.0 × (asked_version y.0 ≡ 2) × (asked_kind y.0 ≡ many_asks)) m.2 (t.0, t.1, refl, refl)

asked_takes : (version kind : ℕ) (bytes : List ℕ) (x : Payload × List ℕ) → IsBytes bytes → payload_body_at version kind bytes ≡ Some x
    → Takes bytes (asked_tail x.0) x.1 × PayloadFits x.0 × (asked_version x.0 ≡ version) × (asked_kind x.0 ≡ kind)
unfolding payload_body_at
asked_takes version kind bytes x h e =
    let P = λ (v : ℕ). Takes bytes (asked_tail x.0) x.1 × PayloadFits x.0 × (asked_version x.0 ≡ v) × (asked_kind x.0 ≡ kind) in
    let Q = λ (k : ℕ). Takes bytes (asked_tail x.0) x.1 × PayloadFits x.0 × (asked_version x.0 ≡ 2) × (asked_kind x.0 ≡ k) in
    chosen version 1 _ _ x e P (one_ask First kind bytes x h) (λ e.
    chosen version 2 _ _ x e P (λ e. chosen kind many_asks _ _ x e Q (several_asks bytes x h) (one_ask Second kind bytes x h)) (λ e.
    absurd cc))

asked_again : (p : Payload) (rest : List ℕ) → PayloadFits p → payload_body_at (asked_version p) (asked_kind p) (asked_tail p ++ rest) ≡ Some (p, rest)
unfolding payload_body_at asked_tail asked_version asked_kind
asked_again (payloads.One First m) rest h = rw (ask_tagged.again m rest h) refl
asked_again (payloads.One Second m) rest h = rw (not_many_asks m, ask_tagged.again m rest h) refl
asked_again (payloads.Many ms) rest h = rw (few_again ask AskFits ask_at ask_exact ms rest h) refl

asked_version_small : (p : Payload) → asked_version p < 2 ^ 8
unfolding asked_version
asked_version_small (payloads.One First m) = omega arith
asked_version_small (payloads.One Second m) = omega arith
asked_version_small (payloads.Many ms) = omega arith

asked_kind_small : (p : Payload) → asked_kind p < 2 ^ 8
unfolding asked_kind
asked_kind_small (payloads.One version m) = ask_tagged.small m
asked_kind_small (payloads.Many ms) = omega arith

asked_versioned : IsVersioned asked_version asked_kind asked_tail PayloadFits payload_body_at
asked_versioned = record { version_small = asked_version_small; kind_small = asked_kind_small; takes = asked_takes; again = asked_again }

asked_encodable : (p : Payload) → payload_encoding p ≡ number w8 (asked_version p) ++ (number w8 (asked_kind p) ++ asked_tail p)
unfolding payload_encoding ask asked_version asked_kind asked_tail
asked_encodable (payloads.One version m) = refl
asked_encodable (payloads.Many ms) = refl

payload_is_read : (bytes : List ℕ) (p : Payload) → EncodesPayload p bytes → versioned_at payload_body_at bytes ≡ Some p
payload_is_read bytes p s = ap (versioned_at payload_body_at) (s.encoding ∙ asked_encodable p) ∙ versioned_again asked_version asked_kind asked_tail PayloadFits payload_body_at asked_versioned p s.fits

pub payload_found : (bytes : List ℕ) (p : Payload) → IsBytes bytes → versioned_at payload_body_at bytes ≡ Some p → EncodesPayload p bytes
payload_found bytes p h e =
    let t = versioned_takes asked_version asked_kind asked_tail PayloadFits payload_body_at asked_versioned bytes p h e in
    record { fits = t.0; encoding = t.1 ∙ sym (asked_encodable p) }

pub payload_only : (bytes : List ℕ) (p other : Payload) → versioned_at payload_body_at bytes ≡ Some p → EncodesPayload other bytes → other ≡ p
payload_only bytes p other e s = some_is other p (sym (payload_is_read bytes other s) ∙ e)

pub no_payload : (bytes : List ℕ) (p : Payload) → versioned_at payload_body_at bytes ≡ None → EncodesPayload p bytes → ⊥
no_payload bytes p e s = let one = sym (payload_is_read bytes p s) ∙ e in cc

-- ---- payloads of servers

reported_version : Answered → ℕ
reported_version (replies.One version m) = version_number version
reported_version (replies.Many ms) = 2

reported_kind : Answered → ℕ
reported_kind (replies.One version m) = answer_kind m
reported_kind (replies.Many ms) = many_answers

reported_tail : Answered → List ℕ
reported_tail (replies.One version m) = answer_body m
reported_tail (replies.Many ms) = counted w8 answer ms

answer_exact : IsExact answer AnswerFits answer_at
unfolding answer answer_at
answer_exact = tagged_exact answer_kind answer_body AnswerFits answer_body_at answer_tagged

not_many_answers : (m : ClientReply) → eqb (answer_kind m) many_answers ≡ false
not_many_answers (answers.Update pass r) = refl
not_many_answers (answers.Read pass version v) = refl
not_many_answers (answers.Refused r) = refl
not_many_answers (answers.Status t) = refl

one_answer : (version : PayloadVersion) (kind : ℕ) (bytes : List ℕ) (x : Answered × List ℕ) → IsBytes bytes → mapped (replies.One version) (answer_body_at kind bytes) ≡ Some x
    → Takes bytes (reported_tail x.0) x.1 × AnsweredFits x.0 × (reported_version x.0 ≡ version_number version) × (reported_kind x.0 ≡ kind)
unfolding reported_tail reported_version reported_kind
one_answer version kind bytes x h e =
    let m = made (replies.One version) (answer_body_at kind bytes) x e in
    let t = answer_tagged.takes kind bytes m.0 h m.1 in
    subst (λ (y : Answered × List ℕ). Takes bytes (reported_tail y.0) y.1 × AnsweredFits y.0 × (reported_version y.0 ≡ version_number version) × (reported_kind y.0 ≡ kind)) m.2 (t.0.0, t.0.1, refl, t.1)

several_answers : (bytes : List ℕ) (x : Answered × List ℕ) → IsBytes bytes → mapped replies.Many (few_at answer_at bytes) ≡ Some x
    → Takes bytes (reported_tail x.0) x.1 × AnsweredFits x.0 × (reported_version x.0 ≡ 2) × (reported_kind x.0 ≡ many_answers)
unfolding reported_tail reported_version reported_kind
several_answers bytes x h e =
    let m = made replies.Many (few_at answer_at bytes) x e in
    let t = few_takes answer AnswerFits answer_at answer_exact bytes m.0 h m.1 in
    subst (λ (y : Answered × List ℕ). Takes bytes (reported_tail y.0) y.1 × AnsweredFits y.0 × (reported_version y.0 ≡ 2) × (reported_kind y.0 ≡ many_answers)) m.2 (t.0, t.1, refl, refl)

reported_takes : (version kind : ℕ) (bytes : List ℕ) (x : Answered × List ℕ) → IsBytes bytes → answered_body_at version kind bytes ≡ Some x
    → Takes bytes (reported_tail x.0) x.1 × AnsweredFits x.0 × (reported_version x.0 ≡ version) × (reported_kind x.0 ≡ kind)
unfolding answered_body_at
reported_takes version kind bytes x h e =
    let P = λ (v : ℕ). Takes bytes (reported_tail x.0) x.1 × AnsweredFits x.0 × (reported_version x.0 ≡ v) × (reported_kind x.0 ≡ kind) in
    let Q = λ (k : ℕ). Takes bytes (reported_tail x.0) x.1 × AnsweredFits x.0 × (reported_version x.0 ≡ 2) × (reported_kind x.0 ≡ k) in
    chosen version 1 _ _ x e P (one_answer First kind bytes x h) (λ e.
    chosen version 2 _ _ x e P (λ e. chosen kind many_answers _ _ x e Q (several_answers bytes x h) (one_answer Second kind bytes x h)) (λ e.
    absurd cc))

reported_again : (p : Answered) (rest : List ℕ) → AnsweredFits p → answered_body_at (reported_version p) (reported_kind p) (reported_tail p ++ rest) ≡ Some (p, rest)
unfolding answered_body_at reported_tail reported_version reported_kind
reported_again (replies.One First m) rest h = rw (answer_tagged.again m rest h) refl
reported_again (replies.One Second m) rest h = rw (not_many_answers m, answer_tagged.again m rest h) refl
reported_again (replies.Many ms) rest h = rw (few_again answer AnswerFits answer_at answer_exact ms rest h) refl

reported_version_small : (p : Answered) → reported_version p < 2 ^ 8
unfolding reported_version
reported_version_small (replies.One First m) = omega arith
reported_version_small (replies.One Second m) = omega arith
reported_version_small (replies.Many ms) = omega arith

reported_kind_small : (p : Answered) → reported_kind p < 2 ^ 8
unfolding reported_kind
reported_kind_small (replies.One version m) = answer_tagged.small m
reported_kind_small (replies.Many ms) = omega arith

reported_versioned : IsVersioned reported_version reported_kind reported_tail AnsweredFits answered_body_at
reported_versioned = record { version_small = reported_version_small; kind_small = reported_kind_small; takes = reported_takes; again = reported_again }

reported_encodable : (p : Answered) → answered_encoding p ≡ number w8 (reported_version p) ++ (number w8 (reported_kind p) ++ reported_tail p)
unfolding answered_encoding answer reported_version reported_kind reported_tail
reported_encodable (replies.One version m) = refl
reported_encodable (replies.Many ms) = refl

rules_from_test : (p : Answered) → AnsweredFits p → is_answered p ≡ true → IsAnswered p
rules_from_test (replies.One version m) f t = (decides_answer m).0 t
rules_from_test (replies.Many ms) f t = record { some = f.some; few = f.few; each = (decides_all is_answer IsAnswer decides_answer ms).0 t }

test_from_rules : (p : Answered) → IsAnswered p → is_answered p ≡ true
test_from_rules (replies.One version m) i = (decides_answer m).1 i
test_from_rules (replies.Many ms) i = (decides_all is_answer IsAnswer decides_answer ms).1 i.each

answered_is_read : (bytes : List ℕ) (p : Answered) → EncodesAnswered p bytes → versioned_at answered_body_at bytes ≡ Some p
answered_is_read bytes p s = ap (versioned_at answered_body_at) (s.encoding ∙ reported_encodable p) ∙ versioned_again reported_version reported_kind reported_tail AnsweredFits answered_body_at reported_versioned p s.fits

pub answered_found : (bytes : List ℕ) (p : Answered) → IsBytes bytes → versioned_at answered_body_at bytes ≡ Some p → is_answered p ≡ true → EncodesAnswered p bytes
answered_found bytes p h e r =
    let t = versioned_takes reported_version reported_kind reported_tail AnsweredFits answered_body_at reported_versioned bytes p h e in
    record { fits = t.0; rules = rules_from_test p t.0 r; encoding = t.1 ∙ sym (reported_encodable p) }

pub answered_only : (bytes : List ℕ) (p other : Answered) → versioned_at answered_body_at bytes ≡ Some p → EncodesAnswered other bytes → other ≡ p
answered_only bytes p other e s = some_is other p (sym (answered_is_read bytes other s) ∙ e)

pub no_answered : (bytes : List ℕ) (p : Answered) → versioned_at answered_body_at bytes ≡ None → EncodesAnswered p bytes → ⊥
no_answered bytes p e s = let one = sym (answered_is_read bytes p s) ∙ e in cc

pub answered_rules_broken : (bytes : List ℕ) (n p : Answered) → versioned_at answered_body_at bytes ≡ Some n → is_answered n ≡ false → EncodesAnswered p bytes → ⊥
answered_rules_broken bytes n p e t s =
    let same = answered_only bytes n p e s in
    let kept : is_answered n ≡ true = test_from_rules n (subst IsAnswered same s.rules) in
    cc
