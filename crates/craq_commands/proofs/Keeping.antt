-- Windows of kept replies: a number that is not new never becomes new.
use Rattle.std.proofs.Common.{◌≡◌, ◌≢◌, ◌⊎◌, ℕ, suc, ◌<◌, ◌≤◌, Bool, true, false, cond, not, ◌&&◌, [], ◌∷◌, length, drop, Some, is_some, refl, sym, ap, subst, ◌∙◌, inl, inr, arith}
use Rattle.std.specs.Prelude.{T, nat_lt}
use Rattle.std.proofs.lemmas.Bool.Decides.{nat_tests}
use Rattle.std.specs.List.{AllByRecursion}
use Rattle.std.specs.Ordering.{nat_cmp, eq_by_cmp, is_lt}
use Rattle.std.specs.declared.cmp.Ordering.TheVariants.{Less, Equal, Greater}
use Rattle.std.specs.Cmp.{nat_cmp_is, nat_cmp_total, eq_by_cmp_equiv}
use Rattle.std.specs.FinMap.Entries.{by_order, below_all, is_sorted, find-put, is_sorted-put}
use Rattle.craq_names.specs.Maps.{at_number, put_number}
use Rattle.craq_names.proofs.Numbers.{ByOrder, by_order_of, less_of, same_of}
use Rattle.craq_commands.specs.declared.reply.Reply.{Reply}
use Rattle.craq_commands.specs.Kept.{Kept, Window, smallest, is_stale, is_new, within_limit, keep}

-- ---- a reply put into a window

put_lower : (m : ℕ) (r : Reply) (k : Kept) (ks : Window) → m < k.0 → put_number (k ∷ ks) m r ≡ (m, r) ∷ k ∷ ks
put_lower m r k ks h = ap (λ o. by_order o ((m, r) ∷ k ∷ ks) ((k.0, r) ∷ ks) (k ∷ put_number ks m r)) (sym (nat_cmp_is m k.0 Less h))

put_same : (m : ℕ) (r : Reply) (k : Kept) (ks : Window) → m ≡ k.0 → put_number (k ∷ ks) m r ≡ (k.0, r) ∷ ks
put_same m r k ks h = ap (λ o. by_order o ((m, r) ∷ k ∷ ks) ((k.0, r) ∷ ks) (k ∷ put_number ks m r)) (sym (nat_cmp_is m k.0 Equal h))

put_higher : (m : ℕ) (r : Reply) (k : Kept) (ks : Window) → k.0 < m → put_number (k ∷ ks) m r ≡ k ∷ put_number ks m r
put_higher m r k ks h = ap (λ o. by_order o ((m, r) ∷ k ∷ ks) ((k.0, r) ∷ ks) (k ∷ put_number ks m r)) (sym (nat_cmp_is m k.0 Greater h))

pub found_put : (w : Window) (m : ℕ) (r : Reply) → at_number (put_number w m r) m ≡ Some r
found_put w m r = find-put nat_cmp nat_cmp_total m m r w ∙ ap (λ b. cond b (Some r) (at_number w m)) ((eq_by_cmp_equiv nat_cmp_total).refl m)

-- a number that is found stays found
still_found : (w : Window) (m n : ℕ) (r : Reply) → is_some (at_number w n) ≡ true → is_some (at_number (put_number w m r) n) ≡ true
still_found w m n r h =
    let split : (b : Bool) → is_some (cond b (Some r) (at_number w n)) ≡ true = elim [ true ↦ refl | false ↦ h ] in
    ap is_some (find-put nat_cmp nat_cmp_total n m r w) ∙ split (eq_by_cmp nat_cmp n m)

-- the first of a window is found
first_found : (k : Kept) (ks : Window) → at_number (k ∷ ks) k.0 ≡ Some k.1
first_found k ks = ap (λ b. cond b (Some k.1) (at_number ks k.0)) ((eq_by_cmp_equiv nat_cmp_total).refl k.0)

found_first : (n : ℕ) (k : Kept) (ks : Window) → n ≡ k.0 → is_some (at_number (k ∷ ks) n) ≡ true
found_first n k ks e = let P : ℕ → Type 0 = λ j. is_some (at_number (k ∷ ks) j) ≡ true in subst P (sym e) (ap is_some (first_found k ks))

-- a number that is not the first is found among the others, if at all
found_later : (n : ℕ) (k : Kept) (ks : Window) → n ≢ k.0 → at_number (k ∷ ks) n ≡ at_number ks n
found_later n k ks ne =
    let by : (b : Bool) → eq_by_cmp nat_cmp n k.0 ≡ b → cond b (Some k.1) (at_number ks n) ≡ at_number ks n = elim [
      | true ↦ λ e. absurd (ne (same_of n k.0 e))
      | false ↦ λ e. refl
    ] in
    by (eq_by_cmp nat_cmp n k.0) refl

-- a number that is not found adds to the length
length_put : (w : Window) (m : ℕ) (r : Reply) → is_some (at_number w m) ≡ false → length (put_number w m r) ≡ suc (length w)
length_put [] m r h = refl
length_put (k ∷ ks) m r h =
    let by : ByOrder m k.0 → length (put_number (k ∷ ks) m r) ≡ suc (suc (length ks)) = elim [
      | inl lt ↦ ap length (put_lower m r k ks lt)
      | inr o ↦ elim o [
        | inl e ↦ let clash : true ≡ false = sym (found_first m k ks e) ∙ h in cc
        | inr gt ↦ ap length (put_higher m r k ks gt) ∙ ap suc (length_put ks m r (sym (ap is_some (found_later m k ks (λ e. absurd (omega (arith, e, gt))))) ∙ h))
      ]
    ] in
    by (by_order_of m k.0)

-- ---- new and old numbers

new_parts : (w : Window) (n : ℕ) → is_new w n ≡ true → (is_some (at_number w n) ≡ false) × (is_stale w n ≡ false)
unfolding is_new
new_parts w n h =
    let split : (a b : Bool) → (not a && not b) ≡ true → (a ≡ false) × (b ≡ false) = λ a b. elim a as (λ a. (not a && not b) ≡ true → (a ≡ false) × (b ≡ false)) [
      | true ↦ λ e. cc
      | false ↦ elim b as (λ b. not b ≡ true → (◌≡◌ {A = Bool} false false) × (b ≡ false)) [ true ↦ λ e. cc | false ↦ λ e. (refl, refl) ]
    ] in
    split (is_some (at_number w n)) (is_stale w n) h

old_cases : (w : Window) (n : ℕ) → is_new w n ≡ false → (is_some (at_number w n) ≡ true) ⊎ (is_stale w n ≡ true)
unfolding is_new
old_cases w n h =
    let split : (a b : Bool) → (not a && not b) ≡ false → (a ≡ true) ⊎ (b ≡ true) = λ a b. elim a as (λ a. (not a && not b) ≡ false → (a ≡ true) ⊎ (b ≡ true)) [
      | true ↦ λ e. inl refl
      | false ↦ elim b as (λ b. not b ≡ false → (◌≡◌ {A = Bool} false true) ⊎ (b ≡ true)) [ true ↦ λ e. inr refl | false ↦ λ e. cc ]
    ] in
    split (is_some (at_number w n)) (is_stale w n) h

pub found_is_old : (w : Window) (n : ℕ) → is_some (at_number w n) ≡ true → is_new w n ≡ false
unfolding is_new
found_is_old w n h = ap (λ a. not a && not (is_stale w n)) h

pub stale_is_old : (w : Window) (n : ℕ) → is_stale w n ≡ true → is_new w n ≡ false
unfolding is_new
stale_is_old w n h =
    let split : (a : Bool) → (not a && not true) ≡ false = elim [ true ↦ refl | false ↦ refl ] in
    ap (λ b. not (is_some (at_number w n)) && not b) h ∙ split (is_some (at_number w n))

pub stale_parts : (w : Window) (n : ℕ) → is_stale w n ≡ true → (8 ≤ length w) × (n < smallest w)
unfolding is_stale
stale_parts w n h = (grind (arith, nat_tests, h), grind (arith, nat_tests, h))

pub low_is_stale : (w : Window) (n : ℕ) → 8 ≤ length w → n < smallest w → is_stale w n ≡ true
unfolding is_stale
low_is_stale w n f l = grind (arith, nat_tests, f, l)

-- ---- a window with one more reply

-- if a new number is one too many, it is above the smallest of a full window
too_many : (k : Kept) (ks : Window) (m : ℕ) (r : Reply) → is_new (k ∷ ks) m ≡ true → 8 < length (put_number (k ∷ ks) m r) → (k.0 < m) × (8 ≤ suc (length ks))
too_many k ks m r new long =
    let parts = new_parts (k ∷ ks) m new in
    let count : length (put_number (k ∷ ks) m r) ≡ suc (suc (length ks)) = length_put (k ∷ ks) m r parts.0 in
    let full : 8 ≤ suc (length ks) = omega (arith, count, long) in
    let by : ByOrder m k.0 → k.0 < m = elim [
      | inl lt ↦ let clash : true ≡ false = sym (low_is_stale (k ∷ ks) m full lt) ∙ parts.1 in cc
      | inr o ↦ elim o [
        | inl e ↦ let clash : true ≡ false = sym (found_first m k ks e) ∙ parts.0 in cc
        | inr gt ↦ gt
      ]
    ] in
    (by (by_order_of m k.0), full)

-- if a reply is dropped, it is that of the smallest number
dropped : (k : Kept) (ks : Window) (m : ℕ) (r : Reply) → is_new (k ∷ ks) m ≡ true → 8 < length (put_number (k ∷ ks) m r) → drop 1 (put_number (k ∷ ks) m r) ≡ put_number ks m r
dropped k ks m r new long = ap (drop 1) (put_higher m r k ks (too_many k ks m r new long).0)

-- a window after it kept a reply: all of it if at most 8, else without its smallest number
by_room : (P : Window → Type 0) (p : Window) → (length p ≤ 8 → P p) → (8 < length p → P (drop 1 p)) → P (within_limit p)
by_room P p room long =
    elim (nat_lt 8 (length p)) as (λ b. nat_lt 8 (length p) ≡ b → P (cond b (drop 1 p) p)) [
      | true ↦ λ e. long (grind (arith, nat_tests, e))
      | false ↦ λ e. room (grind (arith, nat_tests, e))
    ] refl

-- a new number is kept with its reply
pub kept_found : (w : Window) (m : ℕ) (r : Reply) → is_new w m ≡ true → at_number (keep w m r) m ≡ Some r
unfolding keep
kept_found [] m r new = found_put [] m r
kept_found (k ∷ ks) m r new =
    by_room (λ v. at_number v m ≡ Some r) (put_number (k ∷ ks) m r) (λ room. found_put (k ∷ ks) m r)
    (λ long. ap (λ v. at_number v m) (dropped k ks m r new long) ∙ found_put ks m r)

-- ---- windows sorted by number

both : (a b : Bool) → T a → T b → T (a && b)
both true b p q = q
both false b p q = p

second : (a b : Bool) → T (a && b) → T b
second true b p = p
second false b p = absurd p

first : (a b : Bool) → T (a && b) → T a
first true b p = tt
first false b p = p

abbrev pub IsRising : Window → Type 0
IsRising w = T (is_sorted nat_cmp w)

rising_drop : (w : Window) → IsRising w → IsRising (drop 1 w)
rising_drop [] h = tt
rising_drop (k ∷ ks) h = second (below_all nat_cmp k.0 ks) (is_sorted nat_cmp ks) h

pub rising_keep : (w : Window) (m : ℕ) (r : Reply) → IsRising w → IsRising (keep w m r)
unfolding keep
rising_keep w m r h =
    let p : IsRising (put_number w m r) = is_sorted-put nat_cmp nat_cmp_total m r w h in
    by_room IsRising (put_number w m r) (λ room. p) (λ long. rising_drop (put_number w m r) p)

-- in a sorted window, the others are above its smallest number
above_first : (k : Kept) (ks : Window) (m : ℕ) (r : Reply) → IsRising (k ∷ ks) → k.0 < m → k.0 < smallest (put_number ks m r)
above_first k [] m r h lt = lt
above_first k (l ∷ ls) m r h lt =
    let next : k.0 < l.0 = less_of k.0 l.0 (first (is_lt (nat_cmp k.0 l.0)) (below_all nat_cmp k.0 ls) (first (below_all nat_cmp k.0 (l ∷ ls)) (is_sorted nat_cmp (l ∷ ls)) h)) in
    let by : ByOrder m l.0 → k.0 < smallest (put_number (l ∷ ls) m r) = elim [
      | inl o ↦ let e : smallest (put_number (l ∷ ls) m r) ≡ m = ap smallest (put_lower m r l ls o) in omega (arith, e, lt)
      | inr o ↦ elim o [
        | inl o ↦ let e : smallest (put_number (l ∷ ls) m r) ≡ l.0 = ap smallest (put_same m r l ls o) in omega (arith, e, next)
        | inr o ↦ let e : smallest (put_number (l ∷ ls) m r) ≡ l.0 = ap smallest (put_higher m r l ls o) in omega (arith, e, next)
      ]
    ] in
    by (by_order_of m l.0)

old_with_room : (w : Window) (m n : ℕ) (r : Reply) → is_new w m ≡ true → length (put_number w m r) ≤ 8 → (is_some (at_number w n) ≡ true) ⊎ (is_stale w n ≡ true) → is_new (put_number w m r) n ≡ false
old_with_room w m n r new room (inl found) = found_is_old (put_number w m r) n (still_found w m n r found)
old_with_room w m n r new room (inr stale) =
    let full : 8 ≤ length w = (stale_parts w n stale).0 in
    let count : length (put_number w m r) ≡ suc (length w) = length_put w m r (new_parts w m new).0 in
    absurd (omega (arith, full, count, room))

-- a number is old in a full window if the smallest number is above it, or if it is in the window
old_beyond : (k : Kept) (ks : Window) (m n : ℕ) (r : Reply) → IsRising (k ∷ ks) → is_new (k ∷ ks) m ≡ true → 8 < length (put_number (k ∷ ks) m r) → (is_some (at_number (k ∷ ks) n) ≡ true) ⊎ (is_stale (k ∷ ks) n ≡ true) → is_new (put_number ks m r) n ≡ false
old_beyond k ks m n r h new long old =
    let shape = too_many k ks m r new long in
    let absent : is_some (at_number ks m) ≡ false = sym (ap is_some (found_later m k ks (λ e. absurd (omega (arith, e, shape.0))))) ∙ (new_parts (k ∷ ks) m new).0 in
    let count : length (put_number ks m r) ≡ suc (length ks) = length_put ks m r absent in
    let full : 8 ≤ length (put_number ks m r) = omega (arith, count, shape.1) in
    let above : k.0 < smallest (put_number ks m r) = above_first k ks m r h shape.0 in
    let low : n ≤ k.0 → is_new (put_number ks m r) n ≡ false = λ le. stale_is_old (put_number ks m r) n (low_is_stale (put_number ks m r) n full (omega (arith, le, above))) in
    let by : (is_some (at_number (k ∷ ks) n) ≡ true) ⊎ (is_stale (k ∷ ks) n ≡ true) → is_new (put_number ks m r) n ≡ false = elim [
      | inr stale ↦ let lt : n < k.0 = (stale_parts (k ∷ ks) n stale).1 in low (omega (arith, lt))
      | inl found ↦ elim (by_order_of n k.0) [
        | inl lt ↦ low (omega (arith, lt))
        | inr o ↦ elim o [
          | inl e ↦ low (omega (arith, e))
          | inr gt ↦ found_is_old (put_number ks m r) n (still_found ks m n r (sym (ap is_some (found_later n k ks (λ e. absurd (omega (arith, e, gt))))) ∙ found))
        ]
      ]
    ] in
    by old

-- a number that is not new stays so when any new number is kept
pub old_stays : (w : Window) (m n : ℕ) (r : Reply) → IsRising w → is_new w m ≡ true → is_new w n ≡ false → is_new (keep w m r) n ≡ false
unfolding keep
old_stays [] m n r h new old =
    by_room (λ v. is_new v n ≡ false) (put_number [] m r) (λ room. old_with_room [] m n r new room (old_cases [] n old)) (λ long. absurd (omega (arith, long)))
old_stays (k ∷ ks) m n r h new old =
    by_room (λ v. is_new v n ≡ false) (put_number (k ∷ ks) m r) (λ room. old_with_room (k ∷ ks) m n r new room (old_cases (k ∷ ks) n old))
    (λ long. ap (λ v. is_new v n) (dropped k ks m r new long) ∙ old_beyond k ks m n r h new long (old_cases (k ∷ ks) n old))

-- ---- at most 8 replies

length_put_le : (w : Window) (m : ℕ) (r : Reply) → length (put_number w m r) ≤ suc (length w)
length_put_le [] m r = omega arith
length_put_le (k ∷ ks) m r =
    let rest = length_put_le ks m r in
    let by : ByOrder m k.0 → length (put_number (k ∷ ks) m r) ≤ suc (suc (length ks)) = elim [
      | inl o ↦ let e : length (put_number (k ∷ ks) m r) ≡ suc (suc (length ks)) = ap length (put_lower m r k ks o) in omega (arith, e)
      | inr o ↦ elim o [
        | inl o ↦ let e : length (put_number (k ∷ ks) m r) ≡ suc (length ks) = ap length (put_same m r k ks o) in omega (arith, e)
        | inr o ↦ let e : length (put_number (k ∷ ks) m r) ≡ suc (length (put_number ks m r)) = ap length (put_higher m r k ks o) in omega (arith, e, rest)
      ]
    ] in
    by (by_order_of m k.0)

length_put_some : (w : Window) (m : ℕ) (r : Reply) → 1 ≤ length (put_number w m r)
length_put_some w m r =
    let found : at_number (put_number w m r) m ≡ Some r = found_put w m r in
    let by : (v : Window) → at_number v m ≡ Some r → 1 ≤ length v = elim [ [] ↦ λ e. cc | k ∷ ks ↦ λ e. omega arith ] in
    by (put_number w m r) found

one_less : (v : Window) → length v ≤ 9 → length (drop 1 v) ≤ 8
one_less [] h = omega arith
one_less (k ∷ ks) h = omega (arith, h)

pub few_but_first : (w : Window) (m : ℕ) (r : Reply) → length w ≤ 8 → length (drop 1 (put_number w m r)) ≤ 8
few_but_first w m r few = let le = length_put_le w m r in one_less (put_number w m r) (omega (arith, le, few))

pub few_kept : (w : Window) (m : ℕ) (r : Reply) → length w ≤ 8 → length (keep w m r) ≤ 8
unfolding keep
few_kept w m r few = by_room (λ v. length v ≤ 8) (put_number w m r) (λ room. room) (λ long. few_but_first w m r few)

pub some_kept : (w : Window) (m : ℕ) (r : Reply) → 1 ≤ length (keep w m r)
unfolding keep
some_kept w m r =
    by_room (λ v. 1 ≤ length v) (put_number w m r) (λ room. length_put_some w m r)
    (λ long. one_less (put_number w m r) long)
  where
    one_less : (v : Window) → 8 < length v → 1 ≤ length (drop 1 v)
    one_less [] h = absurd (omega (arith, h))
    one_less (k ∷ ks) h = omega (arith, h)

-- a property of the kept replies and of the new one holds for all that are kept afterwards
pub all_kept : (P : Reply → Type 0) (w : Window) (m : ℕ) (r : Reply) → P r → AllByRecursion (λ (k : Kept). P k.1) w → AllByRecursion (λ (k : Kept). P k.1) (keep w m r)
unfolding keep
all_kept P w m r q a =
    let p : AllByRecursion (λ (k : Kept). P k.1) (put_number w m r) = all_put w a in
    by_room (λ v. AllByRecursion (λ (k : Kept). P k.1) v) (put_number w m r) (λ room. p) (λ long. all_but_first (put_number w m r) p)
  where
    all_put : (v : Window) → AllByRecursion (λ (k : Kept). P k.1) v → AllByRecursion (λ (k : Kept). P k.1) (put_number v m r)
    all_put [] b = (q, tt)
    all_put (k ∷ ks) b =
        elim (nat_cmp m k.0) as (λ o. AllByRecursion (λ (k : Kept). P k.1) (by_order o ((m, r) ∷ k ∷ ks) ((k.0, r) ∷ ks) (k ∷ put_number ks m r))) [
          | Less ↦ (q, b)
          | Equal ↦ (q, b.1)
          | Greater ↦ (b.0, all_put ks b.1)
        ]

    all_but_first : (v : Window) → AllByRecursion (λ (k : Kept). P k.1) v → AllByRecursion (λ (k : Kept). P k.1) (drop 1 v)
    all_but_first [] b = tt
    all_but_first (k ∷ ks) b = b.1
