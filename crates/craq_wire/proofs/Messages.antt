-- Reading messages is the inverse of writing them.
use Rattle.std.proofs.Common.{◌≡◌, ℕ, ◌^◌, ◌<◌, Bool, true, false, cond, eqb, List, [], ◌++◌, length, Option, Some, None, refl, sym, ap, subst, ◌∙◌, append_assoc, arith}
use Rattle.std.specs.Int.{w8, w16, w32, w64}
use Rattle.std.proofs.lemmas.Bool.{eqb-true}
use Rattle.std.proofs.lemmas.List.{append-nil, nil_from_length}
use Rattle.craq_model.specs.declared.message.Body.{Body}
use Rattle.craq_model.specs.declared.message.Body.TheVariants as bodies
use Rattle.craq_model.specs.declared.message.LinkMessage.{LinkMessage}
use Rattle.craq_model.specs.declared.message.StatePart.{StatePart}
use Rattle.craq_commands.specs.declared.state.State.{State}
use Rattle.craq_model.specs.Encodable.{IsEncodable}
use Rattle.craq_wire.specs.NumberEncoding.{number}
use Rattle.craq_wire.specs.PartEncoding.{key, pair, counted, IsKey, IsPair, AreCounted}
use Rattle.craq_wire.specs.NumberReading.{number_at}
use Rattle.craq_wire.specs.PartReading.{key_at, value_at, pair_at, counted_at, mapped}
use Rattle.craq_wire.specs.EntryReading.{window_at, entry_at}
use Rattle.craq_wire.specs.EntryEncoding.{entry, EntryFits}
use Rattle.craq_wire.proofs.NumberExact.{IsBytes, Takes, Takes-then, IsExact, bind_some, some_is, step, chosen, u8_exact, u16_exact, u32_exact, u64_exact, wide8, wide32}
use Rattle.craq_wire.proofs.PartExact.{key_exact, pair_exact, counted_exact, mapped_exact}
use Rattle.craq_wire.proofs.Tagged.{one_case}
use Rattle.craq_wire.proofs.EntryExact.{version_value_exact, window_exact, entry_exact}
use Rattle.craq_wire.specs.Reading.{state_of, state_at, part_of, part_at, body_at, Header, header_of, header_at, message_of, message_at, all_of}
use Rattle.craq_wire.specs.Encoding.{wire_version, message_kind, stored, kept_window, state, state_part, body_bytes, header, encoding_of, StoredFits, KeptFits, StateFits, PartFits, BodyFits, MessageFits, Encodes}
use Rattle.craq_wire.specs.Tests.{is_encodable}
use Rattle.craq_wire.proofs.Tests.{decides_encodable}

-- ---- bodies

body_case : {A : Type 0} (encoding : A → List ℕ) (P : A → Type 0) (part : List ℕ → Option (A × List ℕ)) → IsExact encoding P part
    → (f : A → Body) → ((a : A) → body_bytes (f a) ≡ encoding a) → ((a : A) → P a → BodyFits (f a)) → (kind : ℕ) → ((a : A) → message_kind (f a) ≡ kind)
    → (bytes : List ℕ) (x : Body × List ℕ) → IsBytes bytes → mapped f (part bytes) ≡ Some x → (Takes bytes (body_bytes x.0) x.1 × BodyFits x.0) × (message_kind x.0 ≡ kind)
body_case = one_case message_kind body_bytes BodyFits

members_exact : IsExact (counted w8 (number w32)) (AreCounted w8 (λ id. id < 2 ^ 32)) (counted_at w8 (number_at w32))
members_exact = counted_exact _ _ _ u32_exact w8 wide8

stored_exact : IsExact stored StoredFits (pair_at key_at (pair_at (number_at w64) value_at))
stored_exact = pair_exact _ _ _ key_exact _ _ _ version_value_exact

kept_exact : IsExact kept_window KeptFits (pair_at (number_at w64) window_at)
kept_exact = pair_exact _ _ _ u64_exact _ _ _ window_exact

state_exact : IsExact state StateFits state_at
unfolding state_at
state_exact =
    mapped_exact _ _ _ (pair_exact _ _ _ (counted_exact _ _ _ stored_exact w32 wide32) _ _ _ (counted_exact _ _ _ kept_exact w32 wide32)) state_of
    (λ (s : State). (s.objects, s.kept)) state StateFits (λ a q. record { objects = q.0; kept = q.1 }) (λ s q. (q.objects, q.kept)) (λ s. refl) (λ a. refl)

copy_exact : IsExact (pair (number w64) state) (IsPair (λ position. position < 2 ^ 64) StateFits) (pair_at (number_at w64) state_at)
copy_exact = pair_exact _ _ _ u64_exact _ _ _ state_exact

part_exact : IsExact state_part PartFits part_at
unfolding part_at
part_exact =
    mapped_exact _ _ _ (pair_exact _ _ _ u64_exact _ _ _ (pair_exact _ _ _ u32_exact _ _ _ (pair_exact _ _ _ u32_exact _ _ _ state_exact))) part_of
    (λ (p : StatePart). (p.position, (p.number, (p.count, p.state)))) state_part PartFits
    (λ a q. record { position = q.0; number = q.1.0; count = q.1.1.0; state = q.1.1.1 })
    (λ p q. (q.position, (q.number, (q.count, q.state)))) (λ p. refl) (λ a. refl)

batch_exact : IsExact (counted w8 entry) (AreCounted w8 EntryFits) (counted_at w8 entry_at)
batch_exact = counted_exact _ _ _ entry_exact w8 wide8

query_exact : IsExact (pair (number w64) key) (IsPair (λ ticket. ticket < 2 ^ 64) IsKey) (pair_at (number_at w64) key_at)
query_exact = pair_exact _ _ _ u64_exact _ _ _ key_exact

version_exact : IsExact (pair (number w64) (number w64)) (IsPair (λ ticket. ticket < 2 ^ 64) (λ version. version < 2 ^ 64)) (pair_at (number_at w64) (number_at w64))
version_exact = pair_exact _ _ _ u64_exact _ _ _ u64_exact

body_takes : (kind : ℕ) (bytes : List ℕ) (x : Body × List ℕ) → IsBytes bytes → body_at kind bytes ≡ Some x → (Takes bytes (body_bytes x.0) x.1 × BodyFits x.0) × (message_kind x.0 ≡ kind)
unfolding body_at
body_takes kind bytes x h e =
    let P = λ (k : ℕ). (Takes bytes (body_bytes x.0) x.1 × BodyFits x.0) × (message_kind x.0 ≡ k) in
    chosen kind 1 _ _ x e P (body_case _ _ _ members_exact bodies.Config (λ a. refl) (λ a q. q) 1 (λ a. refl) bytes x h) (λ e.
    chosen kind 2 _ _ x e P (body_case _ _ _ entry_exact bodies.Entry (λ a. refl) (λ a q. q) 2 (λ a. refl) bytes x h) (λ e.
    chosen kind 3 _ _ x e P (body_case _ _ _ u64_exact bodies.Ack (λ a. refl) (λ a q. q) 3 (λ a. refl) bytes x h) (λ e.
    chosen kind 4 _ _ x e P (body_case _ _ _ query_exact (λ (y : ℕ × List ℕ). bodies.Query y.0 y.1) (λ a. refl) (λ a q. q) 4 (λ a. refl) bytes x h) (λ e.
    chosen kind 5 _ _ x e P (body_case _ _ _ version_exact (λ (y : ℕ × ℕ). bodies.VersionIs y.0 y.1) (λ a. refl) (λ a q. q) 5 (λ a. refl) bytes x h) (λ e.
    chosen kind 6 _ _ x e P (body_case _ _ _ u64_exact bodies.Blank (λ a. refl) (λ a q. q) 6 (λ a. refl) bytes x h) (λ e.
    chosen kind 7 _ _ x e P (body_case _ _ _ copy_exact (λ (y : ℕ × State). bodies.Copy y.0 y.1) (λ a. refl) (λ a q. q) 7 (λ a. refl) bytes x h) (λ e.
    chosen kind 8 _ _ x e P (body_case _ _ _ u64_exact bodies.Floor (λ a. refl) (λ a q. q) 8 (λ a. refl) bytes x h) (λ e.
    chosen kind 9 _ _ x e P (body_case _ _ _ part_exact bodies.Part (λ a. refl) (λ a q. q) 9 (λ a. refl) bytes x h) (λ e.
    chosen kind 10 _ _ x e P (body_case _ _ _ batch_exact bodies.Batch (λ a. refl) (λ a q. q) 10 (λ a. refl) bytes x h) (λ e.
    absurd cc))))))))))

body_again : (b : Body) (rest : List ℕ) → BodyFits b → body_at (message_kind b) (body_bytes b ++ rest) ≡ Some (b, rest)
unfolding body_at
body_again (bodies.Config members) rest h = rw (members_exact.again members rest h) refl
body_again (bodies.Entry e) rest h = rw (entry_exact.again e rest h) refl
body_again (bodies.Ack position) rest h = rw (u64_exact.again position rest h) refl
body_again (bodies.Query ticket k) rest h = rw (query_exact.again (ticket, k) rest h) refl
body_again (bodies.VersionIs ticket version) rest h = rw (version_exact.again (ticket, version) rest h) refl
body_again (bodies.Blank count) rest h = rw (u64_exact.again count rest h) refl
body_again (bodies.Copy position s) rest h = rw (copy_exact.again (position, s) rest h) refl
body_again (bodies.Floor count) rest h = rw (u64_exact.again count rest h) refl
body_again (bodies.Part p) rest h = rw (part_exact.again p rest h) refl
body_again (bodies.Batch es) rest h = rw (batch_exact.again es rest h) refl

kind_small : (b : Body) → message_kind b < 2 ^ 8
kind_small (bodies.Config members) = omega arith
kind_small (bodies.Entry e) = omega arith
kind_small (bodies.Ack position) = omega arith
kind_small (bodies.Query ticket k) = omega arith
kind_small (bodies.VersionIs ticket version) = omega arith
kind_small (bodies.Blank count) = omega arith
kind_small (bodies.Copy position s) = omega arith
kind_small (bodies.Floor count) = omega arith
kind_small (bodies.Part p) = omega arith
kind_small (bodies.Batch es) = omega arith

-- ---- headers

abbrev front : Header → List ℕ
front h =
    number w8 h.version ++ (number w8 h.kind ++ (number w16 h.chain ++ (number w32 h.sender
    ++ (number w32 h.receiver ++ (number w64 h.stamp ++ (number w32 h.index ++ number w64 h.epoch))))))

record FrontFits (h : Header) : Type 0 where
  version : h.version < 2 ^ 8
  kind : h.kind < 2 ^ 8
  chain : h.chain < 2 ^ 16
  sender : h.sender < 2 ^ 32
  receiver : h.receiver < 2 ^ 32
  stamp : h.stamp < 2 ^ 64
  index : h.index < 2 ^ 32
  epoch : h.epoch < 2 ^ 64

abbrev front_parts : Header → ℕ × (ℕ × (ℕ × (ℕ × (ℕ × (ℕ × (ℕ × ℕ))))))
front_parts h = (h.version, (h.kind, (h.chain, (h.sender, (h.receiver, (h.stamp, (h.index, h.epoch)))))))

header_exact : IsExact front FrontFits header_at
unfolding header_at
header_exact =
    mapped_exact _ _ _
    (pair_exact _ _ _ u8_exact _ _ _ (pair_exact _ _ _ u8_exact _ _ _ (pair_exact _ _ _ u16_exact _ _ _ (pair_exact _ _ _ u32_exact _ _ _
    (pair_exact _ _ _ u32_exact _ _ _ (pair_exact _ _ _ u64_exact _ _ _ (pair_exact _ _ _ u32_exact _ _ _ u64_exact)))))))
    header_of front_parts front FrontFits
    (λ a q. record { version = q.0; kind = q.1.0; chain = q.1.1.0; sender = q.1.1.1.0; receiver = q.1.1.1.1.0; stamp = q.1.1.1.1.1.0; index = q.1.1.1.1.1.1.0; epoch = q.1.1.1.1.1.1.1 })
    (λ h q. (q.version, (q.kind, (q.chain, (q.sender, (q.receiver, (q.stamp, (q.index, q.epoch)))))))) (λ h. refl) (λ a. refl)

-- ---- messages

abbrev front_of : LinkMessage → Header
front_of m =
    record { version = wire_version; kind = message_kind m.body; chain = m.chain; sender = m.sender; receiver = m.receiver; stamp = m.stamp; index = m.index; epoch = m.epoch }

-- a test that was passed
passed : {A : Type 0} (b : Bool) (r : Option A) (y : A) → cond b r None ≡ Some y → (b ≡ true) × (r ≡ Some y)
passed true r y e = (refl, e)
passed false r y e = absurd cc

same_front : (h : Header) (b : Body) → h.version ≡ wire_version → message_kind b ≡ h.kind → front h ≡ header (message_of h b)
same_front h b v k =
    let tail = number w16 h.chain ++ (number w32 h.sender ++ (number w32 h.receiver ++ (number w64 h.stamp ++ (number w32 h.index ++ number w64 h.epoch)))) in
    ap (λ (n : ℕ). number w8 n ++ (number w8 h.kind ++ tail)) v ∙ ap (λ (n : ℕ). number w8 wire_version ++ (number w8 n ++ tail)) (sym k)

message_takes : (bytes : List ℕ) (x : LinkMessage × List ℕ) → IsBytes bytes → message_at bytes ≡ Some x → Takes bytes (encoding_of x.0) x.1 × MessageFits x.0
unfolding message_at encoding_of
message_takes bytes x fits e =
    let s = step front FrontFits header_at header_exact bytes (λ h. cond (eqb h.0.version wire_version) (mapped (message_of h.0) (body_at h.0.kind h.1)) None) x fits e in
    let h = s.0.0 in
    let p = passed (eqb h.version wire_version) (mapped (message_of h) (body_at h.kind s.0.1)) x s.3 in
    let b = bind_some (body_at h.kind s.0.1) (λ y. Some (message_of h y.0, y.1)) x p.1 in
    let t = body_takes h.kind s.0.1 b.0 s.1.rest_fits b.1 in
    let both : Takes bytes (front h ++ body_bytes b.0.0) b.0.1 = Takes-then s.1 t.0.0 in
    let same = same_front h b.0.0 (eqb-true _ _ p.0) t.1 in
    let made : LinkMessage × List ℕ = (message_of h b.0.0, b.0.1) in
    subst (λ (y : LinkMessage × List ℕ). Takes bytes (header y.0 ++ body_bytes y.0.body) y.1 × MessageFits y.0) (some_is made x b.2) (
      subst (λ (f : List ℕ). Takes bytes (f ++ body_bytes b.0.0) b.0.1) same both,
      record {
        header = record { chain = s.2.chain; sender = s.2.sender; receiver = s.2.receiver; stamp = s.2.stamp; index = s.2.index; epoch = s.2.epoch };
        body = t.0.1;
      },
    )

message_again : (m : LinkMessage) (rest : List ℕ) → MessageFits m → message_at (encoding_of m ++ rest) ≡ Some (m, rest)
unfolding message_at encoding_of
message_again m rest fits =
    let fit : FrontFits (front_of m) = record {
      version = omega arith;
      kind = kind_small m.body;
      chain = fits.header.chain;
      sender = fits.header.sender;
      receiver = fits.header.receiver;
      stamp = fits.header.stamp;
      index = fits.header.index;
      epoch = fits.header.epoch;
    } in
    ap message_at (append_assoc (header m) (body_bytes m.body) rest) ∙ rw (header_exact.again (front_of m) (body_bytes m.body ++ rest) fit, body_again m.body rest fits.body) refl

all_takes : (bytes : List ℕ) (m : LinkMessage) → IsBytes bytes → all_of bytes ≡ Some m → MessageFits m × (bytes ≡ encoding_of m)
unfolding all_of
all_takes bytes m fits e =
    let b = bind_some (message_at bytes) (λ x. cond (eqb (length x.1) 0) (Some x.0) None) m e in
    let p = passed (eqb (length b.0.1) 0) (Some b.0.0) m b.2 in
    let t = message_takes bytes b.0 fits b.1 in
    let nothing : b.0.1 ≡ [] = nil_from_length b.0.1 (eqb-true _ _ p.0) in
    let whole : bytes ≡ encoding_of b.0.0 = t.0.parts ∙ ap (λ (r : List ℕ). encoding_of b.0.0 ++ r) nothing ∙ append-nil (encoding_of b.0.0) in
    subst (λ (n : LinkMessage). MessageFits n × (bytes ≡ encoding_of n)) (some_is b.0.0 m p.1) (t.1, whole)

all_again : (m : LinkMessage) → MessageFits m → all_of (encoding_of m) ≡ Some m
unfolding all_of
all_again m fits =
    let one : message_at (encoding_of m) ≡ Some (m, []) = ap message_at (sym (append-nil (encoding_of m))) ∙ message_again m [] fits in
    rw one refl

encodable_is_read : (bytes : List ℕ) (m : LinkMessage) → Encodes m bytes → all_of bytes ≡ Some m
encodable_is_read bytes m s = ap all_of s.encoding ∙ all_again m s.fits

-- ---- the contract of `decode`

pub found : (bytes : List ℕ) (m : LinkMessage) → IsBytes bytes → all_of bytes ≡ Some m → is_encodable m ≡ true → Encodes m bytes
found bytes m fits e t =
    let a = all_takes bytes m fits e in
    record { fits = a.0; rules = (decides_encodable m).0 t; encoding = a.1 }

pub only : (bytes : List ℕ) (m other : LinkMessage) → all_of bytes ≡ Some m → Encodes other bytes → other ≡ m
only bytes m other e s = some_is other m (sym (encodable_is_read bytes other s) ∙ e)

pub nothing_there : (bytes : List ℕ) (m : LinkMessage) → all_of bytes ≡ None → Encodes m bytes → ⊥
nothing_there bytes m e s = let one = sym (encodable_is_read bytes m s) ∙ e in cc

pub rules_broken : (bytes : List ℕ) (n m : LinkMessage) → all_of bytes ≡ Some n → is_encodable n ≡ false → Encodes m bytes → ⊥
rules_broken bytes n m e t s =
    let same = only bytes n m e s in
    let kept : is_encodable n ≡ true = (decides_encodable n).1 (subst IsEncodable same s.rules) in
    cc

pub one_value : (bytes : List ℕ) (m n : LinkMessage) → Encodes m bytes → Encodes n bytes → m ≡ n
one_value bytes m n s t = only bytes n m (encodable_is_read bytes n t) s

pub one_form : (m : LinkMessage) (a b : List ℕ) → Encodes m a → Encodes m b → a ≡ b
one_form m a b s t = s.encoding ∙ sym t.encoding
