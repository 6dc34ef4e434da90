-- Room as entries are indexed and applied.
use Rattle.std.proofs.Common.{◌≡◌, inl, inr, ℕ, zero, suc, ◌+◌, ◌<◌, ◌≤◌, ◌==◌, Bool, true, false, List, [], ◌∷◌, ◌++◌, length, take, drop, get_or, refl, sym, ◌∙◌, ap, subst, arith, drop-drop, length-append, rules}
use Rattle.std.specs.Prelude.{if◌then◌else◌}
use Rattle.craq_names.specs.Maps.{same_bytes}
use Rattle.craq_commands.specs.declared.entry.Entry.{Entry}
use Rattle.craq_commands.specs.declared.entry.Write.{Write}
use Rattle.craq_model.specs.Past.{values_in, values_after}
use Rattle.craq_replies.specs.Replies.{Replies, KeepsOthersRoom, KeepsRoom}
use Rattle.craq_replies.specs.Replies as replies
use Rattle.craq_versions.specs.Tables.{room_at, KeepsOthersRoom as KeepsOtherLists}
use Rattle.craq_compact_state.specs.Placed.{Placed, count_of}
use Rattle.craq_compact_state.specs.Room.{replies_to, AreAppliable, HasRoomForReplies, HasRoomForVersions, HasRoomForWrites, IsAppliable, KeepsRoomBut}
use Rattle.craq_compact_state.proofs.Counts.{count_first, count_next, count_none}
use Rattle.craq_compact_state.proofs.Found.{values_split}
use Rattle.craq_compact_state.proofs.Placing.{own, same_is}

-- one more version of a key
pub room_pushed : (t u : Placed) (key : List ℕ) → room_at t key ≤ room_at u key + 1 → KeepsOtherLists t u key → (q : List ℕ) → room_at t q ≤ room_at u q + (if same_bytes key q then 1 else 0)
room_pushed t u key here others q =
    let split : (b : Bool) → same_bytes key q ≡ b → room_at t q ≤ room_at u q + (if b then 1 else 0) = elim [
      | true ↦ λ e. subst (λ (k : List ℕ). room_at t k ≤ room_at u k + 1) (same_is key q e) here
      | false ↦ λ e. let kept = others q e in omega (arith, kept)
    ] in
    split (same_bytes key q) refl

-- one more of some writes
pub room_next : (a b c : ℕ) (ws : List Write) (i : ℕ) (w : Write) (q : List ℕ) → i < length ws → w ≡ get_or ws i w → a ≤ b + count_of (take i ws) q → b ≤ c + (if same_bytes w.key q then 1 else 0) → a ≤ c + count_of (take (i + 1) ws) q
room_next a b c ws i w q low is before now =
    let n : ℕ = (if same_bytes w.key q then 1 else 0) in
    let more : count_of (take (i + 1) ws) q ≡ count_of (take i ws) q + n = count_next ws i w q low is in
    let now : b ≤ c + n = now in
    omega (arith, more, before, now)

pub room_none : (a : ℕ) (ws : List Write) (q : List ℕ) → a ≤ a + count_of (take 0 ws) q
room_none a ws q = omega arith

take_all : (n : ℕ) (ws : List Write) → length ws ≤ n → take n ws ≡ ws
take_all zero [] low = refl
take_all zero (w ∷ ws) low = absurd (omega (arith, low))
take_all (suc n) [] low = refl
take_all (suc n) (w ∷ ws) low = ap (λ (l : List Write). w ∷ l) (take_all n ws (omega (arith, low)))

-- all of the writes
pub room_all : (a b : ℕ) (ws : List Write) (i : ℕ) (q : List ℕ) → i ≤ length ws → length ws ≤ i → a ≤ b + count_of (take i ws) q → a ≤ b + count_of ws q
room_all a b ws i q high low room = subst (λ (l : List Write). a ≤ b + count_of l q) (take_all i ws low) room

count_take : (n : ℕ) (ws : List Write) (q : List ℕ) → count_of (take n ws) q ≤ count_of ws q
count_take zero ws q = let none : count_of (take 0 ws) q ≡ 0 = count_none q in omega (arith, none)
count_take (suc n) [] q = omega arith
count_take (suc n) (w ∷ ws) q =
    let k : ℕ = (if same_bytes w.key q then 1 else 0) in
    let a : count_of (w ∷ take n ws) q ≡ k + count_of (take n ws) q = count_first w (take n ws) q in
    let b : count_of (w ∷ ws) q ≡ k + count_of ws q = count_first w ws q in
    let rest = count_take n ws q in
    omega (arith, a, b, rest)

-- there is room for the next of some writes
pub room_left : (t u : Placed) (ws : List Write) (i : ℕ) (w : Write) → i < length ws → w ≡ get_or ws i w → HasRoomForWrites t ws → ((q : List ℕ) → room_at t q ≤ room_at u q + count_of (take i ws) q) → 0 < room_at u w.key
room_left t u ws i w low is all before =
    let q : List ℕ = w.key in
    let as_number : Bool → ℕ = λ b. if b then 1 else 0 in
    let one : as_number (same_bytes w.key q) ≡ 1 = ap as_number (own w.key) in
    let more : count_of (take (i + 1) ws) q ≡ count_of (take i ws) q + 1 = count_next ws i w q low is ∙ ap (λ (n : ℕ). count_of (take i ws) q + n) one in
    let few = count_take (i + 1) ws q in
    let has = all q in
    let was = before q in
    omega (arith, more, few, has, was)

-- the versions of the first entry
first_values : (es : List Entry) (e : Entry) (q : List ℕ) → 0 < length es → e ≡ get_or es 0 e → length (values_after (take 1 es) q) ≡ count_of e.writes q
unfolding values_after
first_values [] e q some is = absurd (omega (arith, some))
first_values (d ∷ es) e q some is =
    let sum : length (values_in d.writes q ++ []) ≡ length (values_in d.writes q) + 0 = length-append (values_in d.writes q) [] in
    let all : length (values_in d.writes q ++ []) ≡ length (values_in d.writes q) = omega (arith, sum) in
    all ∙ ap (λ (x : Entry). count_of x.writes q) (sym is)

pub room_first : (t : Placed) (es front : List Entry) (e : Entry) → front ≡ es → 0 < length front → e ≡ get_or front 0 e → HasRoomForVersions t.rooms (take 1 es) → HasRoomForWrites t e.writes
room_first t es front e same some is has q =
    let here : length (values_after (take 1 es) q) ≡ count_of e.writes q = ap (λ (l : List Entry). length (values_after (take 1 l) q)) (sym same) ∙ first_values front e q some is in
    let room = has q in
    omega (arith, here, room)

pub room_entry : (t u : Placed) (es front : List Entry) (e : Entry) → front ≡ es → 0 < length front → e ≡ get_or front 0 e → ((q : List ℕ) → room_at t q ≤ room_at u q + count_of e.writes q) → KeepsRoomBut (take 1 es) t u
room_entry t u es front e same some is kept q =
    let here : length (values_after (take 1 es) q) ≡ count_of e.writes q = ap (λ (l : List Entry). length (values_after (take 1 l) q)) (sym same) ∙ first_values front e q some is in
    let room = kept q in
    omega (arith, here, room)

parts : (n m : ℕ) (es : List Entry) (q : List ℕ) → m ≡ 1 + n → length (values_after (drop n es) q) ≡ length (values_after (take 1 (drop n es)) q) + length (values_after (drop m es) q)
parts n m es q next =
    ap (λ (l : List (ℕ × List ℕ)). length l) (sym (values_split 1 (drop n es) q))
    ∙ length-append (values_after (take 1 (drop n es)) q) (values_after (drop 1 (drop n es)) q)
    ∙ ap (λ (l : List Entry). length (values_after (take 1 (drop n es)) q) + length (values_after l q)) (drop-drop 1 n es)
    ∙ ap (λ (k : ℕ). length (values_after (take 1 (drop n es)) q) + length (values_after (drop k es) q)) (omega (arith, next))

-- room for all entries is room for the first, and then for the others
pub room_of_first : (t : Placed) (n : ℕ) (es : List Entry) → HasRoomForVersions t.rooms (drop n es) → HasRoomForVersions t.rooms (take 1 (drop n es))
room_of_first t n es has q =
    let all = parts n (1 + n) es q refl in
    let room = has q in
    omega (arith, all, room)

pub room_of_rest : (t u : Placed) (n m : ℕ) (es : List Entry) → m ≡ 1 + n → HasRoomForVersions t.rooms (drop n es) → KeepsRoomBut (take 1 (drop n es)) t u → HasRoomForVersions u.rooms (drop m es)
room_of_rest t u n m es next has kept q =
    let all = parts n m es q next in
    let room = has q in
    let left = kept q in
    omega (arith, all, room, left)

-- a nonempty list of entries has a first one
pub first_some : (es : List Entry) → 1 ≤ length es → (e : Entry) × (take 1 es ≡ e ∷ [])
first_some [] some = absurd (omega (arith, some))
first_some (e ∷ es) some = (e, refl)

same_first : (x y : Entry) → x ∷ [] ≡ y ∷ [] → x ≡ y
same_first x y e = cc

-- the first entry can be applied without more room
pub appliable_first : (base indexed n : ℕ) (es : List Entry) (e : Entry) → 0 < n → take 1 es ≡ e ∷ [] → AreAppliable base indexed (take n es) → IsAppliable base indexed e
unfolding AreAppliable
appliable_first base indexed zero es e some is all = absurd (omega (arith, some))
appliable_first base indexed (suc n) [] e some is all = cc
appliable_first base indexed (suc n) (d ∷ es) e some is all = subst (λ (x : Entry). IsAppliable base indexed x) (same_first d e is) all.0

-- this stays so as more is indexed
later_appliable : (base indexed now : ℕ) (es : List Entry) → indexed ≤ now → AreAppliable base indexed es → AreAppliable base now es
unfolding AreAppliable
later_appliable base indexed now [] more all = tt
later_appliable base indexed now (e ∷ es) more all =
    let here : IsAppliable base indexed e → IsAppliable base now e = elim [ inl low ↦ inl (omega (arith, low, more)) | inr high ↦ inr high ] in
    (here all.0, later_appliable (base + 1) indexed now es more all.1)

none_taken : (n : ℕ) → take {A = Entry} n [] ≡ []
none_taken zero = refl
none_taken (suc n) = refl

-- the other entries can be applied after the first
pub appliable_rest : (base next indexed now n m : ℕ) (es fs : List Entry) → next ≡ base + 1 → indexed ≤ now → n ≡ suc m → fs ≡ drop 1 es → AreAppliable base indexed (take n es) → AreAppliable next now (take m fs)
unfolding AreAppliable
appliable_rest base next indexed now n m [] fs here more one is all =
    subst (λ (l : List Entry). AreAppliable next now l) (sym (ap (λ (l : List Entry). take m l) is ∙ none_taken m)) tt
appliable_rest base next indexed now n m (e ∷ es) fs here more one is all =
    let whole : AreAppliable base indexed (take (suc m) (e ∷ es)) = subst (λ (k : ℕ). AreAppliable base indexed (take k (e ∷ es))) one all in
    let rest : AreAppliable (base + 1) now (take m es) = later_appliable (base + 1) indexed now (take m es) more whole.1 in
    subst (λ (k : ℕ). AreAppliable k now (take m fs)) (sym here) (subst (λ (l : List Entry). AreAppliable (base + 1) now (take m l)) (sym is) rest)

own_client : (client : ℕ) → (client == client) ≡ true
own_client client = search rules

-- there is room for the reply of the first entry
pub reply_first : (t : Replies) (n : ℕ) (es : List Entry) (e : Entry) → 0 < n → take 1 es ≡ e ∷ [] → HasRoomForReplies t (take n es) → 0 < replies.room_at t e.client
unfolding replies_to
reply_first t zero es e some is all = absurd (omega (arith, some))
reply_first t (suc n) [] e some is all = cc
reply_first t (suc n) (d ∷ es) e some is all =
    let room = (all d.client).1 in
    let f : Bool → ℕ = λ b. if b then 1 else 0 in
    let one : f (d.client == d.client) ≡ 1 = ap f (own_client d.client) in
    let here : 0 < replies.room_at t d.client = omega (arith, room, one) in
    subst (λ (x : Entry). 0 < replies.room_at t x.client) (same_first d e is) here

no_replies : (u : Replies) (m : ℕ) (fs : List Entry) → fs ≡ [] → HasRoomForReplies u (take m fs)
unfolding replies_to
no_replies u m fs none =
    let empty : HasRoomForReplies u [] = λ client. (omega arith, omega arith) in
    subst (λ (l : List Entry). HasRoomForReplies u l) (sym (ap (λ (l : List Entry). take m l) none ∙ none_taken m)) empty

-- there is room for the replies of the others after that
pub reply_rest : (t u : Replies) (n m : ℕ) (es fs : List Entry) → n ≡ suc m → fs ≡ drop 1 es → ((e : Entry) → take 1 es ≡ e ∷ [] → KeepsOthersRoom t u e.client) → HasRoomForReplies t (take n es) → HasRoomForReplies u (take m fs)
unfolding replies_to
reply_rest t u n m [] fs one is kept all = no_replies u m fs is
reply_rest t u n m (e ∷ es) fs one is kept all =
    let whole : HasRoomForReplies t (take (suc m) (e ∷ es)) = subst (λ (k : ℕ). HasRoomForReplies t (take k (e ∷ es))) one all in
    let k : ℕ → ℕ = λ client. replies_to (take m es) client in
    let rest : HasRoomForReplies u (take m es) = λ client.
    let split : (b : Bool) → (e.client == client) ≡ b → ((if b then 1 else 0) + k client ≤ 1) × ((if b then 1 else 0) + k client ≤ replies.room_at t client) → (k client ≤ 1) × (k client ≤ replies.room_at u client) = elim [
      | true ↦ λ same h. let few = h.0 in (omega (arith, few), omega (arith, few))
      | false ↦ λ other h. let few = h.0 in let room = h.1 in let now = kept e refl client other in (omega (arith, few), omega (arith, room, now))
    ] in
    split (e.client == client) refl (whole client) in
    subst (λ (l : List Entry). HasRoomForReplies u (take m l)) (sym is) rest
