-- The replies that a protocol codec encodes answer the messages that came.
use Rattle.std.proofs.Common.{◌≡◌, ◌≤◌, ℕ, ◌+◌, List, [], ◌∷◌, ◌++◌, length, length-append, Option, None, Some, Ok, refl, sym, ap, ◌∙◌, append_assoc, subst, arith}
use Rattle.std.proofs.lemmas.List.{append-nil}
use Rattle.craq_frames.specs.declared.ask.ClientMessage.{ClientMessage}
use Rattle.craq_frames.specs.declared.answer.ClientReply.{ClientReply}
use Rattle.craq_frames.specs.Frame.{frame, payload_limit}
use Rattle.craq_frames.specs.declared.protocol_codec.Asking.{Asking}
use Rattle.craq_frames.specs.declared.protocol_codec.Asking.TheVariants.{Many}
use Rattle.craq_frames.specs.declared.protocol_codec.CodecEvent.TheVariants.{Ask, Refused}
use Rattle.craq_frames.specs.Serving.{Served}
use Rattle.craq_frames.specs.Steps.{Advances, Follows, IsTakenAhead, ahead, replied, waiting}
use Rattle.craq_frames.specs.Talk.{Exchanges, next_turn, UnderWay, Stands, between, within, first_now, later_now}
use Rattle.craq_frames.proofs.Conversations.{served_none, served_one, served_then, served_read}
use Rattle.craq_frames.proofs.Answering.{AfterOne, at_first, replied_on}
use Rattle.craq_frames.proofs.Nexts.{refused_one}

pub stands_first : Stands [] [] [] None None [] []
stands_first = between 0 (served_none next_turn [] []) refl refl

pub stands_received : (read made input more : List ℕ) (a : Option Asking) (m : Option ClientMessage) (later : List ClientMessage) (turns : Exchanges) → Stands read made input a m later turns → Stands (read ++ more) made (input ++ more) a m later turns
stands_received read made input more a m later turns (between n s none alone) = between n (served_read next_turn [] turns read input made more n s) none alone
stands_received read made input more a m later turns (within n payload earlier now few s u is) =
    within n payload earlier now few
    (subst (λ (x : List ℕ). Served next_turn [] (read ++ more) x made n earlier) (append_assoc (frame payload) input more) (served_read next_turn [] earlier read (frame payload ++ input) made more n s)) u is

pub stands_asked : (read made input rest unsent : List ℕ) (a b : Option Asking) (m : ClientMessage) (turns : Exchanges)
    → Stands read made input a None [] turns → Advances input rest unsent b (Ok (Ask m)) → Stands read (made ++ unsent) rest b (Some m) [] turns
stands_asked read made input rest unsent a b m turns (between n s none alone) h =
    let same : made ≡ made ++ unsent = sym (ap (λ (x : List ℕ). made ++ x) h.3 ∙ append-nil made) in
    let served = subst (λ (x : List ℕ). Served next_turn [] read x made n turns) h.1 s in
    within n h.0 turns m h.2 (subst (λ (x : List ℕ). Served next_turn [] read (frame h.0 ++ rest) x n turns) same served) (at_first next_turn turns h.0 [] b m h.4).0 refl
stands_asked read made input rest unsent a b m turns (within n payload earlier now few s u is) h = absurd cc

pub stands_refused : (read made input rest unsent : List ℕ) (a b : Option Asking) (turns : Exchanges)
    → Stands read made input a None [] turns → Advances input rest unsent b (Ok Refused) → Stands read (made ++ unsent) rest b None [] turns
stands_refused read made input rest unsent a b turns (between n s none alone) h =
    between (n + 1) (served_then next_turn [] turns turns read input rest made unsent n 1 s (refused_one next_turn turns input rest unsent b h)) refl refl
stands_refused read made input rest unsent a b turns (within n payload earlier now few s u is) h = absurd cc

-- one message of the payload has its reply more
then_stands : (read made input unsent payload : List ℕ) (b : Option Asking) (next : Option ClientMessage) (later : List ClientMessage) (n : ℕ) (earlier turns : Exchanges) → length payload ≤ payload_limit
    → Served next_turn [] read (frame payload ++ input) made n earlier → AfterOne next_turn earlier payload b next later unsent turns
    → Stands read (made ++ unsent) input b (first_now next later) (later_now next later) turns
then_stands read made input unsent payload b (Some m) later n earlier turns few s g =
    let same : made ≡ made ++ unsent = sym (ap (λ (x : List ℕ). made ++ x) g.1 ∙ append-nil made) in
    within n payload earlier m few (subst (λ (x : List ℕ). Served next_turn [] read (frame payload ++ input) x n earlier) same s) g.0 refl
then_stands read made input unsent payload b None [] n earlier turns few s g =
    between (n + 1) (served_then next_turn [] earlier turns read (frame payload ++ input) input made unsent n 1 s (served_one next_turn earlier turns (frame payload ++ input) input unsent payload g.0 few refl g.1 g.2)) refl refl
then_stands read made input unsent payload b None (m ∷ later) n earlier turns few s g =
    let same : made ≡ made ++ unsent = sym (ap (λ (x : List ℕ). made ++ x) g.1 ∙ append-nil made) in
    within n payload earlier m few (subst (λ (x : List ℕ). Served next_turn [] read (frame payload ++ input) x n earlier) same s) g.0 refl

pub stands_replied : (read made input unsent : List ℕ) (a b : Option Asking) (m : ClientMessage) (later : List ClientMessage) (r : ClientReply) (next : Option ClientMessage) (turns : Exchanges)
    → Stands read made input a (Some m) later turns → Follows a r unsent b (Ok next) → Stands read (made ++ unsent) input b (first_now next later) (later_now next later) (turns ++ (m, r) ∷ [])
stands_replied read made input unsent a b m later r next turns (between n s none alone) f = absurd cc
stands_replied read made input unsent a b m later r next turns (within n payload earlier now few s u is) f =
    let same : now ≡ m = cc in
    let under = subst (λ (x : ClientMessage). UnderWay next_turn earlier payload a x later turns) same u in
    then_stands read made input unsent payload b next later n earlier (turns ++ (m, r) ∷ []) few s (replied_on next_turn earlier turns (turns ++ (m, r) ∷ []) payload unsent a b m later r next under refl f)

-- one message more is asked ahead
more_under_way : (earlier turns : Exchanges) (payload : List ℕ) (ws : List ClientMessage) (rs : List ClientReply) (k : ℕ) (now n : ClientMessage) (later : List ClientMessage)
    → UnderWay next_turn earlier payload (Some (Many (n ∷ ws, rs, k))) now later turns → UnderWay next_turn earlier payload (Some (Many (ws, rs, k + 1))) now (later ++ n ∷ []) turns
more_under_way earlier turns payload ws rs k now n later u = record {
  p = u.p;
  spelled = u.spelled;
  form = u.form;
  before = u.before;
  rest = u.rest ∙ ap (λ (x : List ClientMessage). u.before ++ now ∷ x) (sym (append_assoc later (n ∷ []) ws));
  asked = (let was : length later ≡ k = u.asked in omega (arith, length-append later (n ∷ []), was));
  turns = u.turns;
}

pub stands_ahead : (read made input : List ℕ) (a b : Option Asking) (m n : ClientMessage) (later : List ClientMessage) (turns : Exchanges)
    → Stands read made input a (Some m) later turns → IsTakenAhead a b n → Stands read made input b (Some m) (later ++ n ∷ []) turns
stands_ahead read made input a b m n later turns (between k s none alone) h = absurd cc
stands_ahead read made input a b m n later turns (within k payload earlier now few s u is) (ws, rs, count, was, to) =
    within k payload earlier now few s
    (subst (λ (x : Option Asking). UnderWay next_turn earlier payload x now (later ++ n ∷ []) turns) (sym to)
    (more_under_way earlier turns payload ws rs count now n later (subst (λ (x : Option Asking). UnderWay next_turn earlier payload x now later turns) was u)))
    is

counted_alike : (ws vs : List ClientMessage) (rs qs : List ClientReply) (k j : ℕ) → Some (Many (ws, rs, k + 1)) ≡ Some (Many (vs, qs, j + 1)) → j ≡ k
counted_alike ws vs rs qs k j is = (let same : ahead (Some (Many (ws, rs, k + 1))) ≡ ahead (Some (Many (vs, qs, j + 1))) = ap ahead is in omega (arith, same))

alike : (m : ClientMessage) (ws vs : List ClientMessage) (rs qs : List ClientReply) (k j : ℕ) → Some (Many (ws, rs, k + 1)) ≡ Some (Many (vs, qs, j + 1)) → Some (Many (m ∷ vs, qs, j)) ≡ Some (Many (m ∷ ws, rs, k))
alike m ws vs rs qs k j is =
    let behind : vs ≡ ws = sym (ap waiting is) in
    let said : qs ≡ rs = sym (ap replied is) in
    let count : j ≡ k = counted_alike ws vs rs qs k j is in
    rw (behind, said, count) refl

-- a message that is taken and put back
pub back_again : (a b c : Option Asking) (m : ClientMessage) → IsTakenAhead a b m → IsTakenAhead c b m → c ≡ a
back_again a b c m (ws, rs, k, was, to) (vs, qs, j, is, from) = is ∙ alike m ws vs rs qs k j (sym to ∙ from) ∙ sym was

-- a message is put back
pub was_taken : (s t : List ClientMessage × List ClientReply × ℕ) (m : ClientMessage) (old : Option Asking) → old ≡ Some (Many s) → t.0 ≡ m ∷ s.0 → t.1 ≡ s.1 → s.2 ≡ t.2 + 1 → IsTakenAhead (Some (Many t)) old m
was_taken s t m old is waits replies fewer = (
  s.0,
  s.1,
  t.2,
  ap (λ (x : List ClientMessage). Some (Many (x, t.1, t.2))) waits ∙ ap (λ (x : List ClientReply). Some (Many (m ∷ s.0, x, t.2))) replies,
  is ∙ ap (λ (x : ℕ). Some (Many (s.0, s.1, x))) fewer,
)
