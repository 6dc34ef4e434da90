-- One more turn of a door.
use Rattle.std.proofs.Common.{◌≡◌, ℕ, true, false, eqb, Result, Ok, Err, OnErr, List, [], ◌∷◌, ◌++◌, length, drop, slice_index_or, refl, sym, ap, ◌∙◌, append_assoc, subst, arith}
use Rattle.std.specs.List.{AllByRecursion}
use Rattle.craq_frames.specs.declared.ask.ClientMessage.{ClientMessage}
use Rattle.craq_frames.specs.declared.answer.ClientReply.{ClientReply}
use Rattle.craq_frames.specs.Payload.{AskFits, IsAnswer}
use Rattle.std.proofs.lemmas.List.{append-nil}
use Rattle.craq_frames.specs.declared.versions.Payload.TheVariants as payloads
use Rattle.craq_frames.specs.Versions.{AreFew}
use Rattle.craq_frames.specs.Allowed.{IsAllowed}
use Rattle.craq_frames.specs.Serving.{Turn, Turns, Replies, one, many, nothing, Begins, unasked, asked}

pub one_more : {D : Type 0} (turn : Turn D) (a b c : D) (ms : List ClientMessage) (rs : List ClientReply) (m : ClientMessage) (r : ClientReply)
    → Turns turn a ms rs b → turn b m r c → Turns turn a (ms ++ m ∷ []) (rs ++ r ∷ []) c
one_more turn a b c [] [] m r h t = (c, subst (λ x. turn x m r c) h t, refl)
one_more turn a b c [] (s ∷ rs) m r h t = absurd h
one_more turn a b c (n ∷ ms) [] m r h t = absurd h
one_more turn a b c (n ∷ ms) (s ∷ rs) m r h t = (h.0, h.1, one_more turn h.0 b c ms rs m r h.2 t)

pub all_more : {A : Type 0} (P : A → Type 0) (xs : List A) (x : A) → AllByRecursion P xs → P x → AllByRecursion P (xs ++ x ∷ [])
all_more P [] x h p = (p, tt)
all_more P (y ∷ xs) x h p = (h.0, all_more P xs x h.1 p)

-- a value removed in front of some values, with the rest, gives them back
pub removed_first : {A : Type 0} (xs rest : List A) (x : A) → (len : ℕ) → len ≡ length xs → false ≡ eqb len 0 → x ≡ slice_index_or xs 0 x → rest ≡ drop 1 xs → xs ≡ x ∷ rest
removed_first [] rest x len same some first others = let no : false ≡ true = some ∙ ap (λ (n : ℕ). eqb n 0) same in absurd cc
removed_first (y ∷ xs) rest x len same some first others = ap (λ z. z ∷ xs) (sym first) ∙ ap (λ zs. x ∷ zs) (sym others)

-- the messages that were asked, and one more of those that wait
pub more_asked : {D : Type 0} (turn : Turn D) (a b c : D) (messages waiting others : List ClientMessage) (replies : List ClientReply) (m : ClientMessage) (r : ClientReply)
    → ((ms : List ClientMessage) × (messages ≡ ms ++ waiting) × Turns turn a ms replies b) → waiting ≡ m ∷ others → turn b m r c
    → (ms : List ClientMessage) × (messages ≡ ms ++ others) × Turns turn a ms (replies ++ r ∷ []) c
more_asked turn a b c messages waiting others replies m r h e t =
    (h.0 ++ m ∷ [], h.1 ∙ ap (λ (x : List ClientMessage). h.0 ++ x) e ∙ sym (append_assoc h.0 (m ∷ []) others), one_more turn a b c h.0 replies m r h.2 t)

pub turns_len : {D : Type 0} (turn : Turn D) (a b : D) (ms : List ClientMessage) (rs : List ClientReply) → Turns turn a ms rs b → length rs ≡ length ms
turns_len turn a b [] [] h = refl
turns_len turn a b [] (r ∷ rs) h = absurd h
turns_len turn a b (m ∷ ms) [] h = absurd h
turns_len turn a b (m ∷ ms) (r ∷ rs) h = omega (arith, turns_len turn h.0 b ms rs h.2)

allowed_keep : (rs : List ClientReply) → AllByRecursion IsAllowed rs → AllByRecursion IsAnswer rs
allowed_keep [] h = tt
allowed_keep (r ∷ rs) h = (h.0.rules, allowed_keep rs h.1)

-- the replies to a payload of several messages can be encoded
pub many_answered : {D : Type 0} (turn : Turn D) (a b : D) (ms : List ClientMessage) (rs : List ClientReply) → AreFew AskFits ms → Turns turn a ms rs b → AllByRecursion IsAllowed rs → AreFew IsAnswer rs
many_answered turn a b ms rs f h k =
    let len = turns_len turn a b ms rs h in
    record { some = omega (arith, len, f.some); few = omega (arith, len, f.few); each = allowed_keep rs k }

-- a statement that holds in any case holds where a call failed
pub always : {T E P : Type 0} (r : Result T E) → P → OnErr r P
always (Ok x) p = tt
always (Err e) p = p

-- a reply that is not encoded leaves the payload begun
pub replies_begin : {D : Type 0} (turn : Turn D) (a b : D) (payload reply : List ℕ) → Replies turn a payload reply b → Begins turn a payload b
replies_begin turn a b payload reply (one version m r spelled t reported) = asked (payloads.One version m) (m ∷ []) [] (r ∷ []) spelled refl (b, t, refl)
replies_begin turn a b payload reply (many ms rs spelled t reported) = asked (payloads.Many ms) ms [] rs spelled (sym (append-nil ms)) t
replies_begin turn a b payload reply (nothing none same reported) = unasked same
