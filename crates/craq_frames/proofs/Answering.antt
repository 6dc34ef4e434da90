-- A payload is answered message by message.
use Rattle.std.proofs.Common.{◌≡◌, ◌<◌, ℕ, ◌+◌, inl, inr, List, [], ◌∷◌, ◌++◌, length, Option, None, Some, Ok, Err, refl, sym, ap, ◌∙◌, append_assoc, subst, arith}
use Rattle.std.proofs.lemmas.List.{append-nil}
use Rattle.craq_names.specs.declared.refusal.Refusal.{Refusal}
use Rattle.craq_names.specs.declared.refusal.Refusal.TheVariants as refusals
use Rattle.craq_frames.specs.declared.ask.ClientMessage.{ClientMessage}
use Rattle.craq_frames.specs.declared.answer.ClientReply.{ClientReply}
use Rattle.craq_frames.specs.declared.versions.Payload.{Payload}
use Rattle.craq_frames.specs.declared.versions.Payload.TheVariants as payloads
use Rattle.craq_frames.specs.Frame.{frame}
use Rattle.craq_frames.specs.Versions.{EncodesPayload}
use Rattle.craq_frames.specs.declared.protocol_codec.Asking.{Asking}
use Rattle.craq_frames.specs.declared.protocol_codec.Asking.TheVariants.{One, Many}
use Rattle.craq_frames.specs.Serving.{Turn, Turns, Replies, one, many, Begins, asked, messages}
use Rattle.craq_frames.specs.Steps.{waiting, replied, ahead, IsFirst, Follows, IsLast, WasAhead}
use Rattle.craq_frames.specs.Talk.{UnderWay}
use Rattle.craq_frames.proofs.Turning.{one_more}

-- after the unsent bytes `old`, the payload is answered up to the message that is asked, or wholly
abbrev pub Standing : {D : Type 0} → Turn D → D → List ℕ → List ℕ → List ℕ → Option Asking → Option ClientMessage → D → Type 0
Standing turn a payload old unsent asking (Some m) b = UnderWay turn a payload asking m [] b × (unsent ≡ old)
Standing turn a payload old unsent asking None b = (reply : List ℕ) × (unsent ≡ old ++ frame reply) × Replies turn a payload reply b

pub at_first : {D : Type 0} (turn : Turn D) (a : D) (payload old : List ℕ) (asking : Option Asking) (m : ClientMessage) → IsFirst asking m payload → Standing turn a payload old old asking (Some m) a
at_first turn a payload old asking m h = (
  record {
    p = h.p;
    spelled = h.spelled;
    form = h.form;
    before = [];
    rest = h.first;
    asked = sym h.alone;
    turns = subst (λ (rs : List ClientReply). Turns turn a [] rs a) (sym h.none) refl;
  },
  refl,
)

-- returns the number of messages that are not answered yet
abbrev pub left : Option ClientMessage → Option Asking → ℕ
left None asking = 0
left (Some m) asking = length (waiting asking) + 1

fewer : (asking new : Option Asking) (m : ClientMessage) (r : ClientReply) (unsent : List ℕ) (next : Option ClientMessage) → Follows asking r unsent new (Ok next) → left next new < left (Some m) asking
fewer asking new m r unsent None f = omega arith
fewer None new m r unsent (Some n) f = let no : Some n ≡ None = f.0 in absurd cc
fewer (Some asking) new m r unsent (Some n) f =
    let c : length (waiting (Some asking)) ≡ length (waiting new) + 1 = omega (arith, ap length f.0) in
    omega (arith, c)

pub fewer_left : (asking new : Option Asking) (m : ClientMessage) (r : ClientReply) (unsent : List ℕ) (now next : Option ClientMessage) → now ≡ Some m → Follows asking r unsent new (Ok next) → left next new < left now asking
fewer_left asking new m r unsent now next is f = subst (λ (x : Option ClientMessage). left next new < left x asking) (sym is) (fewer asking new m r unsent next f)

-- nothing is asked behind the last message, where none was asked ahead
last : (asking new : Option Asking) (r : ClientReply) (unsent : List ℕ) → ahead asking ≡ 0 → Follows asking r unsent new (Ok None) → new ≡ None
last None new r unsent alone f = f.2
last (Some asking) new r unsent alone (inl f) = f.4
last (Some asking) new r unsent alone (inr f) = absurd (omega (arith, alone, f.4))

pub nothing_asked : (asking new : Option Asking) (r : ClientReply) (unsent : List ℕ) (next : Option ClientMessage) → next ≡ None → ahead asking ≡ 0 → Follows asking r unsent new (Ok next) → new ≡ None
nothing_asked asking new r unsent next none alone f = last asking new r unsent alone (subst (λ (x : Option ClientMessage). Follows asking r unsent new (Ok x)) none f)

-- none is asked ahead by a reply
pub still_alone : (asking new : Option Asking) (r : ClientReply) (unsent : List ℕ) (next : Option ClientMessage) → ahead asking ≡ 0 → Follows asking r unsent new (Ok next) → ahead new ≡ 0
still_alone None new r unsent next alone f = ap ahead f.2
still_alone (Some asking) new r unsent (Some m) alone f = f.5
still_alone (Some asking) new r unsent None alone (inl f) = ap ahead f.4
still_alone (Some asking) new r unsent None alone (inr f) = absurd (omega (arith, alone, f.4))

-- an answer ends only when out of memory
memory_alone : (asking new : Option Asking) (r : ClientReply) (unsent : List ℕ) (e : Refusal) → Follows asking r unsent new (Err e) → (e ≡ refusals.Memory) × (unsent ≡ [])
memory_alone asking new r unsent refusals.Memory f = (refl, f.0)
memory_alone asking new r unsent _ f = absurd f

-- the one message of a payload is asked first
alone : {D : Type 0} (turn : Turn D) (a b : D) (m n : ClientMessage) (before : List ClientMessage) → Turns turn a before [] b → n ∷ [] ≡ before ++ m ∷ [] → (n ≡ m) × (b ≡ a)
alone turn a b m n [] t e = (cc, t)
alone turn a b m n (x ∷ before) t e = absurd t

-- after a reply: the next message is asked, all messages have their replies, or the first of those that were asked ahead is under way
abbrev pub AfterOne : {D : Type 0} → Turn D → D → List ℕ → Option Asking → Option ClientMessage → List ClientMessage → List ℕ → D → Type 0
AfterOne turn a payload new (Some n) later unsent c = UnderWay turn a payload new n [] c × (unsent ≡ [])
AfterOne turn a payload new None [] unsent c = (reply : List ℕ) × (unsent ≡ frame reply) × Replies turn a payload reply c
AfterOne turn a payload new None (n ∷ later) unsent c = UnderWay turn a payload new n later c × (unsent ≡ [])

-- the first of the messages that were asked ahead is under way
next_ahead : {D : Type 0} (turn : Turn D) (a b c : D) (payload unsent : List ℕ) (asking : Asking) (new : Option Asking) (m n : ClientMessage) (later : List ClientMessage) (r : ClientReply)
    → UnderWay turn a payload (Some asking) m (n ∷ later) b → turn b m r c → WasAhead asking r unsent new → UnderWay turn a payload new n later c
next_ahead turn a b c payload unsent asking new m n later r g t f = record {
  p = g.p;
  spelled = g.spelled;
  form = f.2 g.p g.form;
  before = g.before ++ m ∷ [];
  rest = g.rest ∙ ap (λ (ws : List ClientMessage). g.before ++ m ∷ n ∷ (later ++ ws)) (sym f.0) ∙ sym (append_assoc g.before (m ∷ []) (n ∷ (later ++ waiting new)));
  asked = (let more : length (n ∷ later) ≡ ahead new + 1 = g.asked ∙ f.4 in omega (arith, more));
  turns = subst (λ (rs : List ClientReply). Turns turn a (g.before ++ m ∷ []) rs c) (sym f.1) (one_more turn a b c g.before (replied (Some asking)) m r g.turns t);
}

-- the payload is answered wholly
all_of : {D : Type 0} (turn : Turn D) (a b c : D) (payload unsent : List ℕ) (asking : Asking) (new : Option Asking) (m : ClientMessage) (r : ClientReply)
    → UnderWay turn a payload (Some asking) m [] b → turn b m r c → IsLast asking r unsent new → (reply : List ℕ) × (unsent ≡ frame reply) × Replies turn a payload reply c
all_of turn a b c payload unsent (One version) new m r g t f =
    let s = alone turn a b m g.form.0 g.before g.turns (sym (ap messages g.form.1) ∙ g.rest) in (
      f.0,
      f.2,
      one version m r (subst (λ (x : Payload). EncodesPayload x payload) (g.form.1 ∙ ap (λ (x : ClientMessage). payloads.One version x) s.0) g.spelled) (subst (λ x. turn x m r c) s.1 t) f.3,
    )
all_of turn a b c payload unsent (Many several) new m r g t f =
    let all_messages : g.form.0 ≡ g.before ++ m ∷ [] = sym (ap messages g.form.1) ∙ g.rest ∙ ap (λ (ws : List ClientMessage). g.before ++ m ∷ ws) f.1 in (
      f.0,
      f.2,
      many (g.before ++ m ∷ []) (several.1 ++ r ∷ []) (subst (λ (x : Payload). EncodesPayload x payload) (g.form.1 ∙ ap (λ (ms : List ClientMessage). payloads.Many ms) all_messages) g.spelled)
          (one_more turn a b c g.before several.1 m r g.turns t) f.3,
    )

-- a message has its reply
pub replied_on : {D : Type 0} (turn : Turn D) (a b c : D) (payload unsent : List ℕ) (asking new : Option Asking) (m : ClientMessage) (later : List ClientMessage) (r : ClientReply) (next : Option ClientMessage)
    → UnderWay turn a payload asking m later b → turn b m r c → Follows asking r unsent new (Ok next) → AfterOne turn a payload new next later unsent c
replied_on turn a b c payload unsent None new m later r next g t f = absurd g.form
replied_on turn a b c payload unsent (Some asking) new m [] r (Some n) g t f = (
  record {
    p = g.p;
    spelled = g.spelled;
    form = f.2 g.p g.form;
    before = g.before ++ m ∷ [];
    rest = g.rest ∙ ap (λ (ws : List ClientMessage). g.before ++ m ∷ ws) f.0 ∙ sym (append_assoc g.before (m ∷ []) (n ∷ waiting new));
    asked = sym f.5;
    turns = subst (λ (rs : List ClientReply). Turns turn a (g.before ++ m ∷ []) rs c) (sym f.1) (one_more turn a b c g.before (replied (Some asking)) m r g.turns t);
  },
  f.3,
)
replied_on turn a b c payload unsent (Some asking) new m (x ∷ later) r (Some n) g t f = (let more : length (x ∷ later) ≡ 0 = g.asked ∙ f.4 in absurd (omega (arith, more)))
replied_on turn a b c payload unsent (Some asking) new m [] r None g t (inl f) = all_of turn a b c payload unsent asking new m r g t f
replied_on turn a b c payload unsent (Some asking) new m [] r None g t (inr f) = (let more : 0 ≡ ahead new + 1 = g.asked ∙ f.4 in absurd (omega (arith, more)))
replied_on turn a b c payload unsent (Some asking) new m (x ∷ later) r None g t (inl f) = (let more : length (x ∷ later) ≡ 0 = g.asked ∙ f.5 in absurd (omega (arith, more)))
replied_on turn a b c payload unsent (Some asking) new m (x ∷ later) r None g t (inr f) = (next_ahead turn a b c payload unsent asking new m x later r g t f, f.3)

-- so it is where no message was asked ahead
stood_on : {D : Type 0} (turn : Turn D) (a c : D) (payload old unsent all : List ℕ) (new : Option Asking) (next : Option ClientMessage) → all ≡ old → AfterOne turn a payload new next [] unsent c
    → Standing turn a payload old (all ++ unsent) new next c
stood_on turn a c payload old unsent all new (Some n) same h = (h.0, ap (λ (x : List ℕ). all ++ x) h.1 ∙ append-nil all ∙ same)
stood_on turn a c payload old unsent all new None same h = (h.0, ap (λ (x : List ℕ). x ++ unsent) same ∙ ap (λ (x : List ℕ). old ++ x) h.1, h.2)

pub goes_on : {D : Type 0} (turn : Turn D) (a b c : D) (payload old unsent all : List ℕ) (asking new : Option Asking) (m : ClientMessage) (r : ClientReply) (next : Option ClientMessage)
    → Standing turn a payload old all asking (Some m) b → turn b m r c → Follows asking r unsent new (Ok next) → Standing turn a payload old (all ++ unsent) new next c
goes_on turn a b c payload old unsent all asking new m r next h t f = stood_on turn a c payload old unsent all new next h.1 (replied_on turn a b c payload unsent asking new m [] r next h.0 t f)

pub one_replied : {D : Type 0} (turn : Turn D) (a b c : D) (payload old unsent all more : List ℕ) (asking new : Option Asking) (now next : Option ClientMessage) (m : ClientMessage) (r : ClientReply)
    → now ≡ Some m → Standing turn a payload old all asking now b → turn b m r c → more ≡ all ++ unsent → Follows asking r unsent new (Ok next) → Standing turn a payload old more new next c
one_replied turn a b c payload old unsent all more asking new now next m r is h t same f =
    let s = subst (λ (x : Option ClientMessage). Standing turn a payload old all asking x b) is h in
    subst (λ (x : List ℕ). Standing turn a payload old x new next c) (sym same) (goes_on turn a b c payload old unsent all asking new m r next s t f)

-- an answer that ends in the middle: some first messages were asked
begun_so : {D : Type 0} (turn : Turn D) (a b c : D) (payload old all : List ℕ) (asking : Option Asking) (m : ClientMessage) (r : ClientReply)
    → Standing turn a payload old all asking (Some m) b → turn b m r c → Begins turn a payload c
begun_so turn a b c payload old all asking m r h t =
    let g = h.0 in
    asked g.p (g.before ++ m ∷ []) (waiting asking) (replied asking ++ r ∷ []) g.spelled (g.rest ∙ sym (append_assoc g.before (m ∷ []) (waiting asking))) (one_more turn a b c g.before (replied asking) m r g.turns t)

pub cut_off : {D : Type 0} (turn : Turn D) (a b c : D) (payload old unsent all more : List ℕ) (asking new : Option Asking) (now : Option ClientMessage) (m : ClientMessage) (r : ClientReply) (e : Refusal)
    → now ≡ Some m → Standing turn a payload old all asking now b → turn b m r c → more ≡ all ++ unsent → Follows asking r unsent new (Err e) → (more ≡ old) × Begins turn a payload c
cut_off turn a b c payload old unsent all more asking new now m r e is h t same f =
    let s = subst (λ (x : Option ClientMessage). Standing turn a payload old all asking x b) is h in
    (same ∙ ap (λ (x : List ℕ). all ++ x) (memory_alone asking new r unsent e f).1 ∙ append-nil all ∙ s.1, begun_so turn a b c payload old all asking m r s t)

-- the payload is answered wholly
pub all_replied : {D : Type 0} (turn : Turn D) (a b : D) (payload old unsent : List ℕ) (asking : Option Asking) (now : Option ClientMessage)
    → now ≡ None → Standing turn a payload old unsent asking now b → (reply : List ℕ) × (unsent ≡ old ++ frame reply) × Replies turn a payload reply b
all_replied turn a b payload old unsent asking now none h = subst (λ (x : Option ClientMessage). Standing turn a payload old unsent asking x b) none h
