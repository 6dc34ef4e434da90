-- A table of replies after the slot of one client is written.
use Rattle.std.proofs.Common.{◌≡◌, ◌<◌, ◌≤◌, ℕ, Bool, true, false, cond, [], ◌∷◌, length, Option, Some, None, refl, sym, ◌∙◌, ap, subst, arith, rules}
use Rattle.std.specs.Prelude.{unwrap_or, is_some, ◌==◌}
use Rattle.std.specs.Option.{option_and_then}
use Rattle.std.specs.Ordering.{nat_cmp, is_eq}
use Rattle.std.specs.declared.cmp.Ordering.{Ordering}
use Rattle.std.specs.declared.cmp.Ordering.TheVariants.{Less, Equal, Greater}
use Rattle.std.specs.Cmp.{nat_cmp_total, tied_itself}
use Rattle.std.specs.List.Sorted.{IsStrictlySortedBy}
use Rattle.std.specs.Map.{lookup, keys_of}
use Rattle.std.specs.BTreeMap.{is_at}
use Rattle.std.specs.FinMap.{nat_cmp-IsAntisymmetric}
use Rattle.std.specs.FinMap.Entries.{find}
use Rattle.craq_names.specs.Maps.{at_number, put_number}
use Rattle.craq_names.specs.Places.{filled}
use Rattle.craq_names.proofs.Places.{find_filled, is_sorted_of, filled_put, filled_same}
use Rattle.craq_commands.specs.declared.reply.Reply.{Reply}
use Rattle.craq_commands.specs.Kept.{Window, keep}
use Rattle.craq_commands.proofs.Keeping.{some_kept}
use Rattle.craq_replies.specs.Held.{Held}
use Rattle.craq_replies.specs.Replies.{Entries, window_of, room_at, unless_empty, shown, table_of, KeepsRoom, KeepsOthersRoom}

abbrev pub place_of : Entries → ℕ → Option Held
place_of es client = lookup (is_at (nat_cmp client)) es

-- one client has this slot, and every other client the slot it had
abbrev pub IsPlaced : Entries → Entries → ℕ → Held → Type 0
IsPlaced es gs client held = (q : ℕ) → place_of gs q ≡ cond (is_at (nat_cmp client) q) (Some held) (place_of es q)

found_is : (es : Entries) (client : ℕ) → find nat_cmp client es ≡ place_of es client
found_is [] client = refl
found_is (e ∷ es) client = ap (cond (is_at (nat_cmp client) e.0) (Some e.1)) (found_is es client)

found_after : (es gs : Entries) (client : ℕ) (held : Held) → IsPlaced es gs client held → (q : ℕ) → find nat_cmp q gs ≡ cond (is_at (nat_cmp client) q) (Some held) (find nat_cmp q es)
found_after es gs client held at q = found_is gs q ∙ at q ∙ ap (cond (is_at (nat_cmp client) q) (Some held)) (sym (found_is es q))

-- the replies kept for a client
pub kept_found : (es : Entries) (client : ℕ) → IsStrictlySortedBy nat_cmp (keys_of es) → at_number (filled shown es) client ≡ option_and_then shown (place_of es client)
kept_found es client rise = find_filled nat_cmp shown nat_cmp_total client es (is_sorted_of nat_cmp shown es rise) ∙ ap (option_and_then shown) (found_is es client)

pub kept_put : (es gs : Entries) (client : ℕ) (held : Held) (w : Window) → shown held ≡ Some w → IsStrictlySortedBy nat_cmp (keys_of es) → IsStrictlySortedBy nat_cmp (keys_of gs) → IsPlaced es gs client held → filled shown gs ≡ put_number (filled shown es) client w
kept_put es gs client held w has was is at = filled_put nat_cmp shown nat_cmp_total nat_cmp-IsAntisymmetric es gs client held w has was is (found_after es gs client held at)

kept_same : (es gs : Entries) (client : ℕ) (held : Held) → shown held ≡ option_and_then shown (place_of es client) → IsStrictlySortedBy nat_cmp (keys_of es) → IsStrictlySortedBy nat_cmp (keys_of gs) → IsPlaced es gs client held → filled shown gs ≡ filled shown es
kept_same es gs client held same was is at =
    filled_same nat_cmp shown nat_cmp_total nat_cmp-IsAntisymmetric es gs client held (same ∙ sym (ap (option_and_then shown) (found_is es client))) was is (found_after es gs client held at)

-- the replies of a slot are its client's window
unwrapped : (w : Window) → unwrap_or (unless_empty w) [] ≡ w
unwrapped [] = refl
unwrapped (k ∷ ks) = refl

pub window_here : (es : Entries) (client : ℕ) (old : Held) → IsStrictlySortedBy nat_cmp (keys_of es) → Some old ≡ place_of es client → window_of (table_of es) client ≡ old.replies
window_here es client old rise was = ap (λ (o : Option Window). unwrap_or o []) (kept_found es client rise ∙ ap (option_and_then shown) (sym was)) ∙ unwrapped old.replies

pub no_window : (es : Entries) (client : ℕ) → IsStrictlySortedBy nat_cmp (keys_of es) → None ≡ place_of es client → window_of (table_of es) client ≡ []
no_window es client rise was = ap (λ (o : Option Window). unwrap_or o []) (kept_found es client rise ∙ ap (option_and_then shown) (sym was))

pub some_shown : (w : Window) → 1 ≤ length w → unless_empty w ≡ Some w
some_shown [] h = absurd (omega (arith, h))
some_shown (k ∷ ks) h = refl

-- the table after the reply to a client's number is kept in its slot
pub kept_more : (es gs : Entries) (client : ℕ) (old new : Held) (number : ℕ) (reply : Reply) → IsStrictlySortedBy nat_cmp (keys_of es) → IsStrictlySortedBy nat_cmp (keys_of gs) → Some old ≡ place_of es client → IsPlaced es gs client new → new.replies ≡ keep old.replies number reply → (table_of gs).kept ≡ put_number (table_of es).kept client (keep (window_of (table_of es) client) number reply)
kept_more es gs client old new number reply rise rises was at is =
    let some : shown new ≡ Some (keep old.replies number reply) = ap unless_empty is ∙ some_shown (keep old.replies number reply) (some_kept old.replies number reply) in
    kept_put es gs client new (keep old.replies number reply) some rise rises at
    ∙ ap (λ (w : Window). put_number (filled shown es) client (keep w number reply)) (sym (window_here es client old rise was))

-- the table after the first reply to a client is kept in a new slot
pub kept_first : (es gs : Entries) (client : ℕ) (new : Held) (number : ℕ) (reply : Reply) → IsStrictlySortedBy nat_cmp (keys_of es) → IsStrictlySortedBy nat_cmp (keys_of gs) → place_of es client ≡ None → IsPlaced es gs client new → new.replies ≡ keep [] number reply → (table_of gs).kept ≡ put_number (table_of es).kept client (keep (window_of (table_of es) client) number reply)
kept_first es gs client new number reply rise rises none at is =
    let some : shown new ≡ Some (keep [] number reply) = ap unless_empty is ∙ some_shown (keep [] number reply) (some_kept [] number reply) in
    kept_put es gs client new (keep [] number reply) some rise rises at
    ∙ ap (λ (w : Window). put_number (filled shown es) client (keep w number reply)) (sym (no_window es client rise (sym none)))

-- the table after a slot with the same replies is written
pub kept_stays : (es gs : Entries) (client : ℕ) (old new : Held) → IsStrictlySortedBy nat_cmp (keys_of es) → IsStrictlySortedBy nat_cmp (keys_of gs) → Some old ≡ place_of es client → IsPlaced es gs client new → new.replies ≡ old.replies → (table_of gs).kept ≡ (table_of es).kept
kept_stays es gs client old new rise rises was at same = kept_same es gs client new (ap unless_empty same ∙ ap (option_and_then shown) was) rise rises at

-- the table after an empty slot is inserted
pub kept_placed : (es gs : Entries) (client : ℕ) (new : Held) → IsStrictlySortedBy nat_cmp (keys_of es) → IsStrictlySortedBy nat_cmp (keys_of gs) → place_of es client ≡ None → IsPlaced es gs client new → new.replies ≡ [] → (table_of gs).kept ≡ (table_of es).kept
kept_placed es gs client new rise rises none at empty = kept_same es gs client new (ap unless_empty empty ∙ sym (ap (option_and_then shown) none)) rise rises at

-- ---- room

abbrev pub room_in : Option Held → ℕ
room_in None = 0
room_in (Some held) = held.room

-- the room of a client is that of its slot
pub room_found : (es : Entries) (client : ℕ) → room_at (table_of es) client ≡ room_in (place_of es client)
room_found [] client = refl
room_found (e ∷ es) client =
    let split : (b : Bool) → unwrap_or (cond b (Some e.1.room) (at_number (table_of es).rooms client)) 0 ≡ room_in (cond b (Some e.1) (place_of es client)) = elim [ true ↦ refl | false ↦ room_found es client ] in
    split (is_at (nat_cmp client) e.0)

pub room_written : (es gs : Entries) (client : ℕ) (held : Held) → IsPlaced es gs client held → (q : ℕ) → room_at (table_of gs) q ≡ cond (is_at (nat_cmp client) q) held.room (room_at (table_of es) q)
room_written es gs client held at q =
    let split : (b : Bool) → room_in (cond b (Some held) (place_of es q)) ≡ cond b held.room (room_in (place_of es q)) = elim [ true ↦ refl | false ↦ refl ] in
    room_found gs q ∙ ap room_in (at q) ∙ split (is_at (nat_cmp client) q) ∙ ap (cond (is_at (nat_cmp client) q) held.room) (sym (room_found es q))

reported_equal : (client q : ℕ) → is_at (nat_cmp client) q ≡ true → client ≡ q
reported_equal client q h =
    let split : (r : Ordering) → nat_cmp client q ≡ r → is_eq r ≡ true → client ≡ q = elim [ Less ↦ λ e h. cc | Equal ↦ λ e h. nat_cmp-IsAntisymmetric client q e | Greater ↦ λ e h. cc ] in
    split (nat_cmp client q) refl h

is_eq_same : (x y : ℕ) → (x == y) ≡ is_at (nat_cmp x) y
is_eq_same x y = search rules

own_place : (client : ℕ) → is_at (nat_cmp client) client ≡ true
own_place client = ap is_eq (tied_itself nat_cmp_total client)

-- the room of the client itself
pub room_here : (es gs : Entries) (client : ℕ) (held : Held) → IsPlaced es gs client held → room_at (table_of gs) client ≡ held.room
room_here es gs client held at = room_written es gs client held at client ∙ ap (λ b. cond b held.room (room_at (table_of es) client)) (own_place client)

-- no client loses room if the written slot has at least as much
pub rooms_kept : (es gs : Entries) (client : ℕ) (held : Held) → room_at (table_of es) client ≤ held.room → IsPlaced es gs client held → KeepsRoom (table_of es) (table_of gs)
rooms_kept es gs client held more at q =
    let P : ℕ → Type 0 = λ n. room_at (table_of es) q ≤ n in
    let split : (b : Bool) → is_at (nat_cmp client) q ≡ b → room_at (table_of es) q ≤ cond b held.room (room_at (table_of es) q) = elim [
      | true ↦ λ h. let Q : ℕ → Type 0 = λ k. room_at (table_of es) k ≤ held.room in subst Q (reported_equal client q h) more
      | false ↦ λ h. omega arith
    ] in
    subst P (sym (room_written es gs client held at q)) (split (is_at (nat_cmp client) q) refl)

-- no other client loses room
pub others_kept : (es gs : Entries) (client : ℕ) (held : Held) → IsPlaced es gs client held → KeepsOthersRoom (table_of es) (table_of gs) client
others_kept es gs client held at q other =
    let apart : is_at (nat_cmp client) q ≡ false = sym (is_eq_same client q) ∙ other in
    let same : room_at (table_of gs) q ≡ room_at (table_of es) q = room_written es gs client held at q ∙ ap (λ b. cond b held.room (room_at (table_of es) q)) apart in
    omega (arith, same)

clash : true ≡ false → ⊥
clash e = cc

-- a client without a slot has no room
pub no_room : (es : Entries) (client : ℕ) → false ≡ is_some (place_of es client) → 0 < room_at (table_of es) client → ⊥
no_room es client none room =
    let split : (o : Option Held) → false ≡ is_some o → 0 < room_in o → ⊥ = elim [ None ↦ λ e h. omega arith | Some held ↦ λ e h. clash (sym e) ] in
    let P : ℕ → Type 0 = λ n. 0 < n in
    split (place_of es client) none (subst P (room_found es client) room)

-- the room of a client that has a slot
pub room_old : (es : Entries) (client : ℕ) (old : Held) → Some old ≡ place_of es client → room_at (table_of es) client ≡ old.room
room_old es client old was = room_found es client ∙ ap room_in (sym was)

pub no_place_room : (es : Entries) (client : ℕ) (room : ℕ) → place_of es client ≡ None → room_at (table_of es) client ≤ room
no_place_room es client room none =
    let zero_room : room_at (table_of es) client ≡ 0 = room_found es client ∙ ap room_in none in
    omega arith
