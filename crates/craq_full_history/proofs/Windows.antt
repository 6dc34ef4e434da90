-- A window of replies, and its slots.
use Rattle.std.proofs.Common.{◌≡◌, ◌<◌, ◌+◌, ◌-◌, ℕ, zero, suc, length, drop, Bool, true, false, cond, List, [], ◌∷◌, ◌++◌, map, Option, Some, None, unwrap_or, is_some, eqb→eq, refl, sym, ap, subst, ◌∙◌, arith}
use Rattle.std.specs.Prelude.{T, ◌==◌, nat_le, nat_lt, not, ◌&&◌, if◌then◌else◌, slice_get, option_map}
use Rattle.std.specs.Option.{option_and_then}
use Rattle.std.specs.Ordering.{nat_cmp, eq_by_cmp}
use Rattle.std.specs.Cmp.{nat_cmp_total, eq_by_cmp_equiv, unsigned_ties}
use Rattle.std.specs.declared.cmp.Ordering.{Ordering}
use Rattle.std.specs.declared.cmp.Ordering.TheVariants.{Less, Equal, Greater}
use Rattle.std.specs.FinMap.Entries.{find, put, by_order, find-put}
use Rattle.craq_names.specs.Limits.{window_limit}
use Rattle.craq_names.specs.Maps.{at_number}
use Rattle.craq_commands.specs.declared.entry.Entry.{Entry}
use Rattle.craq_commands.specs.declared.reply.Reply.{Reply}
use Rattle.craq_commands.specs.declared.reply.Reply.TheVariants.{Stale}
use Rattle.craq_commands.specs.declared.state.State.{State}
use Rattle.craq_commands.specs.Kept.{Kept, Window, smallest, largest, is_stale, is_new, keep, said_of}
use Rattle.craq_commands.specs.SingleCopy.{window_of, is_new_to, said, kept_with, after_entry, after_entries}
use Rattle.craq_commands.proofs.Entries.{after_entries-append}
use Rattle.craq_full_history.specs.Slots.{Slots, within_window, window_with, slots_from, slots_after, reply_at, first_number, last_number, is_stale_in, is_new_in, said_in}

-- ---- the values of slots

abbrev values : {A B : Type 0} → (A → B) → List (ℕ × A) → List (ℕ × B)
values f xs = map (λ x. (x.0, f x.1)) xs

put_values : {A B : Type 0} (f : A → B) (n : ℕ) (a : A) (xs : List (ℕ × A)) → put nat_cmp n (f a) (values f xs) ≡ values f (put nat_cmp n a xs)
put_values f n a [] = refl
put_values {A} {B} f n a (x ∷ xs) =
    let split : (o : Ordering) → by_order o ((n, f a) ∷ values f (x ∷ xs)) ((x.0, f a) ∷ values f xs) ((x.0, f x.1) ∷ put nat_cmp n (f a) (values f xs)) ≡ values f (by_order o ((n, a) ∷ x ∷ xs) ((x.0, a) ∷ xs) (x ∷ put nat_cmp n a xs)) = elim [
      | Less ↦ refl
      | Equal ↦ refl
      | Greater ↦ ap (λ (rest : List (ℕ × B)). (x.0, f x.1) ∷ rest) (put_values f n a xs)
    ] in
    split (nat_cmp n x.0)

length_values : {A B : Type 0} (f : A → B) (xs : List (ℕ × A)) → length (values f xs) ≡ length xs
length_values f [] = refl
length_values f (x ∷ xs) = ap suc (length_values f xs)

tail_values : {A B : Type 0} (f : A → B) (xs : List (ℕ × A)) → drop 1 (values f xs) ≡ values f (drop 1 xs)
tail_values f [] = refl
tail_values f (x ∷ xs) = refl

within_values : {A B : Type 0} (f : A → B) (xs : List (ℕ × A)) → within_window (values f xs) ≡ values f (within_window xs)
within_values f xs =
    let split : (b : Bool) → cond b (drop 1 (values f xs)) (values f xs) ≡ values f (cond b (drop 1 xs) xs) = elim [ true ↦ tail_values f xs | false ↦ refl ] in
    ap (λ n. cond (nat_lt window_limit n) (drop 1 (values f xs)) (values f xs)) (length_values f xs) ∙ split (nat_lt window_limit (length xs))

kept_values : {A B : Type 0} (f : A → B) (n : ℕ) (a : A) (xs : List (ℕ × A)) → window_with (values f xs) n (f a) ≡ values f (window_with xs n a)
kept_values f n a xs = ap within_window (put_values f n a xs) ∙ within_values f (put nat_cmp n a xs)

at_values : {A B : Type 0} (f : A → B) (n : ℕ) (xs : List (ℕ × A)) → at_number (values f xs) n ≡ option_map f (at_number xs n)
at_values f n [] = refl
at_values f n (x ∷ xs) =
    let split : (b : Bool) → cond b (Some (f x.1)) (find nat_cmp n (values f xs)) ≡ option_map f (cond b (Some x.1) (find nat_cmp n xs)) = elim [ true ↦ refl | false ↦ at_values f n xs ] in
    split (eq_by_cmp nat_cmp n x.0)

first_values : {A B : Type 0} (f : A → B) (xs : List (ℕ × A)) → first_number (values f xs) ≡ first_number xs
first_values f [] = refl
first_values f (x ∷ xs) = refl

last_values : {A B : Type 0} (f : A → B) (xs : List (ℕ × A)) → last_number (values f xs) ≡ last_number xs
last_values f [] = refl
last_values f (x ∷ []) = refl
last_values f (x ∷ y ∷ ys) = last_values f (y ∷ ys)

-- ---- slots that represent a window

abbrev StandFor : (ℕ → Option Reply) → Slots → Window → Type 0
StandFor reply xs w = values reply xs ≡ values Some w

module _ (reply : ℕ → Option Reply) where
  kept_stand : (xs : Slots) (w : Window) (n i : ℕ) (r : Reply) → StandFor reply xs w → reply i ≡ Some r → StandFor reply (window_with xs n i) (keep w n r)
  unfolding keep
  kept_stand xs w n i r s f =
      sym (kept_values reply n i xs)
      ∙ ap (λ (ys : List (ℕ × Option Reply)). window_with ys n (reply i)) s
      ∙ ap (λ (x : Option Reply). window_with (values Some w) n x) f
      ∙ kept_values Some n r w

  -- the slots of a window represent it
  opening_stand : (w : Window) (i : ℕ) → ((j : ℕ) (k : Kept) → slice_get w j ≡ Some k → reply (i + j) ≡ Some k.1) → StandFor reply (slots_from i w) w
  opening_stand [] i f = refl
  opening_stand (k ∷ w) i f =
      let first : reply i ≡ Some k.1 = let e : i + 0 ≡ i = omega arith in subst (λ n. reply n ≡ Some k.1) e (f 0 k refl) in
      let rest : StandFor reply (slots_from (i + 1) w) w = opening_stand w (i + 1) (λ j x h. let e : i + suc j ≡ i + 1 + j = omega arith in subst (λ n. reply n ≡ Some x.1) e (f (suc j) x h)) in
      ap (λ (x : Option Reply). (k.0, x) ∷ values reply (slots_from (i + 1) w)) first ∙ ap (λ (xs : List (ℕ × Option Reply)). (k.0, Some k.1) ∷ xs) rest

-- the window after a client's entries among these
abbrev window_after : ℕ → Window → List Entry → Window
window_after client w [] = w
window_after client w (e ∷ es) = window_after client (if e.client == client then keep w e.number e.reply else w) es

entries_stand : (reply : ℕ → Option Reply) (client : ℕ) (es : List Entry) (i : ℕ) (xs : Slots) (w : Window) → StandFor reply xs w → ((j : ℕ) (e : Entry) → slice_get es j ≡ Some e → reply (i + j) ≡ Some e.reply) → StandFor reply (slots_after client i es xs) (window_after client w es)
unfolding slots_after
entries_stand reply client [] i xs w s f = s
entries_stand reply client (e ∷ es) i xs w s f =
    let here : reply i ≡ Some e.reply = let z : i + 0 ≡ i = omega arith in subst (λ n. reply n ≡ Some e.reply) z (f 0 e refl) in
    let split : (b : Bool) → StandFor reply (cond b (window_with xs e.number i) xs) (cond b (keep w e.number e.reply) w) = elim [ true ↦ kept_stand reply xs w e.number i e.reply s here | false ↦ s ] in
    entries_stand reply client es (i + 1) (cond (e.client == client) (window_with xs e.number i) xs) (cond (e.client == client) (keep w e.number e.reply) w) (split (e.client == client))
    (λ j x h. let z : i + suc j ≡ i + 1 + j = omega arith in subst (λ n. reply n ≡ Some x.reply) z (f (suc j) x h))

-- ---- look-ups in slots

module _ (reply : ℕ → Option Reply) (xs : Slots) (w : Window) (s : StandFor reply xs w) where
  same_length : length xs ≡ length w
  same_length = sym (length_values reply xs) ∙ ap length s ∙ length_values Some w

  smallest_is : (v : Window) → first_number v ≡ smallest v
  smallest_is [] = refl
  smallest_is (k ∷ ks) = refl

  largest_is : (v : Window) → last_number v ≡ largest v
  largest_is [] = refl
  largest_is (k ∷ []) = refl
  largest_is (k ∷ l ∷ ks) = largest_is (l ∷ ks)

  same_first : first_number xs ≡ smallest w
  same_first = sym (first_values reply xs) ∙ ap first_number s ∙ first_values Some w ∙ smallest_is w

  same_last : last_number xs ≡ largest w
  same_last = sym (last_values reply xs) ∙ ap last_number s ∙ last_values Some w ∙ largest_is w

  same_stale : (n : ℕ) → is_stale_in xs n ≡ is_stale w n
  unfolding is_stale_in is_stale
  same_stale n = ap (λ m. nat_le window_limit m && nat_lt n (first_number xs)) same_length ∙ ap (λ m. nat_le window_limit (length w) && nat_lt n m) same_first

  same_found : (n : ℕ) → option_map reply (at_number xs n) ≡ option_map Some (at_number w n)
  same_found n = sym (at_values reply n xs) ∙ ap (λ (ys : List (ℕ × Option Reply)). at_number ys n) s ∙ at_values Some n w

  mapped_some : {A B : Type 0} (f : A → B) (o : Option A) → is_some (option_map f o) ≡ is_some o
  mapped_some f None = refl
  mapped_some f (Some x) = refl

  same_new : (n : ℕ) → is_new_in xs n ≡ is_new w n
  unfolding is_new_in is_new
  same_new n =
      ap (λ b. not b && not (is_stale_in xs n)) (sym (mapped_some reply (at_number xs n)) ∙ ap is_some (same_found n) ∙ mapped_some Some (at_number w n))
      ∙ ap (λ b. not (is_some (at_number w n)) && not b) (same_stale n)

  -- the inner of two options
  flat : Option (Option Reply) → Option Reply
  flat None = None
  flat (Some o) = o

  flat_then : (o : Option ℕ) → option_and_then reply o ≡ flat (option_map reply o)
  unfolding flat
  flat_then None = refl
  flat_then (Some i) = refl

  flat_some : (o : Option Reply) → flat (option_map Some o) ≡ o
  unfolding flat
  flat_some None = refl
  flat_some (Some r) = refl

  same_said : (n : ℕ) → said_in reply xs n ≡ said_of w n
  unfolding said_in said_of
  same_said n =
      ap (λ b. cond b (Some (Stale (last_number xs))) (option_and_then reply (at_number xs n))) (same_stale n)
      ∙ ap (λ m. cond (is_stale w n) (Some (Stale m)) (option_and_then reply (at_number xs n))) same_last
      ∙ ap (λ (o : Option Reply). cond (is_stale w n) (Some (Stale (largest w))) o) (flat_then (at_number xs n) ∙ ap flat (same_found n) ∙ flat_some (at_number w n))

-- ---- indexes of replies

below : (i n : ℕ) → i < n → nat_lt i n ≡ true
below i n h = grind (arith, h)

not_below : (n i : ℕ) → nat_lt (n + i) n ≡ false
not_below n i = grind (arith)

got_below : {A : Type 0} (xs : List A) (i : ℕ) (x : A) → slice_get xs i ≡ Some x → i < length xs
got_below [] i x h = cc
got_below (y ∷ ys) zero x h = omega arith
got_below (y ∷ ys) (suc i) x h = let e : i < length ys = got_below ys i x h in omega (arith, e)

reply_first : (w : Window) (es : List Entry) (j : ℕ) (k : Kept) → slice_get w j ≡ Some k → reply_at w es (0 + j) ≡ Some k.1
unfolding reply_at
reply_first w es j k h =
    let z : 0 + j ≡ j = omega arith in
    ap (λ n. cond (nat_lt n (length w)) (option_map (λ (x : Kept). x.1) (slice_get w n)) (option_map (λ (e : Entry). e.reply) (slice_get es (n - length w)))) z
    ∙ ap (λ b. cond b (option_map (λ (x : Kept). x.1) (slice_get w j)) (option_map (λ (e : Entry). e.reply) (slice_get es (j - length w)))) (below j (length w) (got_below w j k h))
    ∙ ap (option_map (λ (x : Kept). x.1)) h

reply_later : (w : Window) (es : List Entry) (j : ℕ) (e : Entry) → slice_get es j ≡ Some e → reply_at w es (length w + j) ≡ Some e.reply
unfolding reply_at
reply_later w es j e h =
    let z : length w + j - length w ≡ j = omega arith in
    ap (λ b. cond b (option_map (λ (x : Kept). x.1) (slice_get w (length w + j))) (option_map (λ (x : Entry). x.reply) (slice_get es (length w + j - length w)))) (not_below (length w) j)
    ∙ ap (λ n. option_map (λ (x : Entry). x.reply) (slice_get es n)) z
    ∙ ap (option_map (λ (x : Entry). x.reply)) h

-- ---- the window of a state after entries

kept_here : (s : State) (e : Entry) (client : ℕ) → window_of (after_entry s e) client ≡ cond (e.client == client) (keep (window_of s client) e.number e.reply) (window_of s client)
unfolding window_of after_entry kept_with
kept_here s e client =
    let w : Window = keep (window_of s e.client) e.number e.reply in
    let held : Window = window_of s client in
    let same : eq_by_cmp nat_cmp client e.client ≡ (e.client == client) = (eq_by_cmp_equiv nat_cmp_total).symm client e.client ∙ sym (unsigned_ties e.client client) in
    let split : (b : Bool) → unwrap_or (cond b (Some w) (at_number s.kept client)) [] ≡ cond b w held = elim [ true ↦ refl | false ↦ refl ] in
    let mine : (b : Bool) → (e.client == client) ≡ b → cond b w held ≡ cond b (keep held e.number e.reply) held = elim [
      | true ↦ λ h. ap (λ c. keep (window_of s c) e.number e.reply) (eqb→eq e.client client (subst T (sym h) tt))
      | false ↦ λ h. refl
    ] in
    ap (λ (o : Option Window). unwrap_or o []) (find-put nat_cmp nat_cmp_total client e.client w s.kept ∙ ap (λ b. cond b (Some w) (at_number s.kept client)) same)
    ∙ split (e.client == client)
    ∙ mine (e.client == client) refl

window_last : (s : State) (es : List Entry) (client : ℕ) → window_of (after_entries s es) client ≡ window_after client (window_of s client) es
window_last s [] client = refl
window_last s (e ∷ es) client = window_last (after_entry s e) es client ∙ ap (λ (w : Window). window_after client w es) (kept_here s e client)

-- ---- results

stand_after : (s : State) (es : List Entry) (client : ℕ) → let w = window_of s client in StandFor (reply_at w es) (slots_after client (length w) es (slots_from 0 w)) (window_of (after_entries s es) client)
stand_after s es client =
    let w : Window = window_of s client in
    let reply : ℕ → Option Reply = reply_at w es in
    entries_stand reply client es (length w) (slots_from 0 w) w (opening_stand reply w 0 (reply_first w es)) (reply_later w es)
    ∙ ap (values Some) (sym (window_last s es client))

pub said_after : (s : State) (es : List Entry) (client n : ℕ) → let w = window_of s client in said_in (reply_at w es) (slots_after client (length w) es (slots_from 0 w)) n ≡ said (after_entries s es) client n
said_after s es client n =
    let w : Window = window_of s client in
    same_said (reply_at w es) (slots_after client (length w) es (slots_from 0 w)) (window_of (after_entries s es) client) (stand_after s es client) n

pub slots_further : (client i : ℕ) (es fs : List Entry) (xs : Slots) → slots_after client i (es ++ fs) xs ≡ slots_after client (i + length es) fs (slots_after client i es xs)
unfolding slots_after
slots_further client i [] fs xs = let z : i + 0 ≡ i = omega arith in ap (λ n. slots_after client n fs xs) (sym z)
slots_further client i (e ∷ es) fs xs =
    let ys : Slots = cond (e.client == client) (window_with xs e.number i) xs in
    let z : i + 1 + length es ≡ i + suc (length es) = omega arith in
    slots_further client (i + 1) es fs ys ∙ ap (λ n. slots_after client n fs (slots_after client (i + 1) es ys)) z

pub new_later : (s : State) (es fs : List Entry) (client n : ℕ) → let w = window_of s client in is_new_in (slots_after client (length w + length es) fs (slots_after client (length w) es (slots_from 0 w))) n ≡ is_new_to (after_entries (after_entries s es) fs) client n
new_later s es fs client n =
    let w : Window = window_of s client in
    ap (λ (xs : Slots). is_new_in xs n) (sym (slots_further client (length w) es fs (slots_from 0 w)))
    ∙ same_new (reply_at w (es ++ fs)) (slots_after client (length w) (es ++ fs) (slots_from 0 w)) (window_of (after_entries s (es ++ fs)) client) (stand_after s (es ++ fs) client) n
    ∙ ap (λ (t : State). is_new_to t client n) (after_entries-append s es fs)
