-- A reply appended to a window, after those to smaller numbers.
use Rattle.std.proofs.Common.{◌≡◌, ◌∙◌, ℕ, zero, suc, ◌<◌, [], ◌∷◌, ◌++◌, length, take, drop, get_or, refl, sym, ap, arith}
use Rattle.std.specs.Prelude.{nat_lt, slice_set, if◌then◌else◌}
use Rattle.std.specs.List.{AllByRecursion}
use Rattle.std.specs.declared.cmp.Ordering.TheVariants.{Greater}
use Rattle.std.specs.Cmp.{nat_cmp_is}
use Rattle.std.specs.FinMap.Entries.{by_order}
use Rattle.craq_names.specs.Limits.{window_limit}
use Rattle.craq_names.specs.Maps.{put_number}
use Rattle.craq_commands.specs.declared.reply.Reply.{Reply}
use Rattle.craq_commands.specs.Kept.{Kept, Window, within_limit, keep}

put_last : (w : Window) (n : ℕ) (r : Reply) → AllByRecursion (λ (k : ℕ × Reply). k.0 < n) w → put_number w n r ≡ w ++ (n, r) ∷ []
put_last [] n r h = refl
put_last (k ∷ ks) n r h =
    ap (λ o. by_order o ((n, r) ∷ k ∷ ks) ((k.0, r) ∷ ks) (k ∷ put_number ks n r)) (sym (nat_cmp_is n k.0 Greater h.0))
    ∙ ap (λ (l : Window). k ∷ l) (put_last ks n r h.1)

one_longer : (w : Window) (k : Kept) → length (w ++ k ∷ []) ≡ suc (length w)
one_longer [] k = refl
one_longer (x ∷ w) k = ap suc (one_longer w k)

over : (u : Window) → length u ≡ 9 → within_limit u ≡ drop 1 u
over u e = ap (λ (n : ℕ). if nat_lt window_limit n then drop 1 u else u) e

-- the largest number in a full window drops the first reply
pub kept_newest : (w : Window) (n : ℕ) (r : Reply) → length w ≡ 8 → AllByRecursion (λ (k : ℕ × Reply). k.0 < n) w → drop 1 (w ++ (n, r) ∷ []) ≡ keep w n r
unfolding keep
kept_newest w n r full h =
    let more : length (w ++ (n, r) ∷ []) ≡ 9 = one_longer w (n, r) ∙ ap suc full in
    sym (ap within_limit (put_last w n r h) ∙ over (w ++ (n, r) ∷ []) more)

-- the reply in hand stands at a place, and the one that was there is in hand
pub moved : (ks : Window) (i : ℕ) (a b : Kept) → i < length ks → a ≡ get_or ks i a → take i (slice_set ks i b) ++ a ∷ drop i (slice_set ks i b) ≡ take (suc i) ks ++ b ∷ drop (suc i) ks
moved [] i a b h is = absurd (omega (arith, h))
moved (k ∷ []) zero a b h is = ap (λ (x : Kept). x ∷ b ∷ []) is
moved (k ∷ l ∷ ks) zero a b h is = ap (λ (x : Kept). x ∷ b ∷ l ∷ ks) is
moved (k ∷ ks) (suc i) a b h is = ap (λ (l : Window). k ∷ l) (moved ks i a b (omega (arith, h)) is)

pub kept_length : (ks : Window) (i : ℕ) (b : Kept) → length (slice_set ks i b) ≡ length ks
kept_length [] i b = refl
kept_length (k ∷ ks) zero b = refl
kept_length (k ∷ ks) (suc i) b = ap suc (kept_length ks i b)

behind : (ks : Window) (a : Kept) → take (length ks) ks ++ a ∷ drop (length ks) ks ≡ ks ++ a ∷ []
behind [] a = refl
behind (k ∷ ks) a = ap (λ (l : Window). k ∷ l) (behind ks a)

-- behind all others, it is the last
pub begins : (ks : Window) (a : Kept) (n : ℕ) → n ≡ length ks → take n ks ++ a ∷ drop n ks ≡ ks ++ a ∷ []
begins ks a n e = ap (λ (m : ℕ). take m ks ++ a ∷ drop m ks) e ∙ behind ks a

nothing_before : (ks : Window) (a : Kept) → ks ≡ drop 1 (take 0 ks ++ a ∷ drop 0 ks)
nothing_before [] a = refl
nothing_before (k ∷ ks) a = refl

-- before all others, it is the one that goes
pub ends : (ks all : Window) (a : Kept) (i : ℕ) → i ≡ 0 → take i ks ++ a ∷ drop i ks ≡ all → ks ≡ drop 1 all
ends ks all a i z h = nothing_before ks a ∙ ap (λ (n : ℕ). drop 1 (take n ks ++ a ∷ drop n ks)) (sym z) ∙ ap (drop 1) h
