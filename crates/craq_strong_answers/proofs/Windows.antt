-- The reply to a number that was just kept is found.
use Rattle.std.proofs.Common.{◌≡◌, ℕ, ◌<◌, ◌≤◌, nat_lt, true, false, cond, [], ◌∷◌, length, drop, Some, is_some, refl, sym, ap, subst, ◌∙◌, arith}
use Rattle.std.specs.Ordering.{nat_cmp}
use Rattle.std.specs.declared.cmp.Ordering.TheVariants.{Less, Equal, Greater}
use Rattle.std.specs.Cmp.{ranked, nat_cmp_total, eq_by_cmp_equiv}
use Rattle.std.specs.FinMap.Entries.{by_order}
use Rattle.std.proofs.lemmas.Bool.{cond_both, cond-false, ltb-true, both_ways, false_from_ne_true}
use Rattle.craq_names.specs.Maps.{at_number, put_number}
use Rattle.craq_commands.specs.declared.reply.Reply.{Reply}
use Rattle.craq_commands.specs.declared.reply.Reply.TheVariants.{Stale}
use Rattle.craq_commands.specs.Kept.{Window, smallest, largest, is_stale, is_new, keep, said_of}
use Rattle.craq_commands.proofs.Keeping.{found_is_old, stale_is_old, stale_parts, low_is_stale, kept_found}

-- a number that was put into a window is not below its smallest
not_below : (w : Window) (m : ℕ) (r : Reply) → smallest (put_number w m r) ≤ m
not_below [] m r = omega arith
not_below (k ∷ ks) m r =
    elim (nat_cmp m k.0) as (λ o. o ≡ nat_cmp m k.0 → smallest (by_order o ((m, r) ∷ k ∷ ks) ((k.0, r) ∷ ks) (k ∷ put_number ks m r)) ≤ m) [
      | Less ↦ λ e. omega arith
      | Equal ↦ λ e. let same : m ≡ k.0 = ranked m k.0 Equal e in omega (arith, same)
      | Greater ↦ λ e. let above : k.0 < m = ranked m k.0 Greater e in omega (arith, above)
    ] refl

found_first : (w : Window) (n : ℕ) (r : Reply) → is_some (at_number ((n, r) ∷ w) n) ≡ true
found_first w n r = ap (λ b. is_some (cond b (Some r) (at_number w n))) ((eq_by_cmp_equiv nat_cmp_total).refl n)

-- nor is it below the smallest number that is left if the window was full, and its smallest number was dropped
not_below_rest : (w : Window) (m : ℕ) (r : Reply) → is_new w m ≡ true → 8 < length (put_number w m r) → smallest (drop 1 (put_number w m r)) ≤ m
not_below_rest [] m r new = λ long. omega arith
not_below_rest (k ∷ ks) m r new =
    elim (nat_cmp m k.0) as (λ o. o ≡ nat_cmp m k.0 → 8 < length (by_order o ((m, r) ∷ k ∷ ks) ((k.0, r) ∷ ks) (k ∷ put_number ks m r)) → smallest (drop 1 (by_order o ((m, r) ∷ k ∷ ks) ((k.0, r) ∷ ks) (k ∷ put_number ks m r))) ≤ m) [
      | Less ↦ λ e long.
          let below : m < k.0 = ranked m k.0 Less e in
          absurd (both_ways (is_new (k ∷ ks) m) (stale_is_old (k ∷ ks) m (low_is_stale (k ∷ ks) m (omega (arith, long)) below)) new)
      | Equal ↦ λ e long.
          let P : ℕ → Type 0 = λ n. is_some (at_number (k ∷ ks) n) ≡ true in
          absurd (both_ways (is_new (k ∷ ks) m) (found_is_old (k ∷ ks) m (subst P (sym (ranked m k.0 Equal e)) (found_first ks k.0 k.1))) new)
      | Greater ↦ λ e long. not_below ks m r
    ] refl

pub said_kept : (w : Window) (m : ℕ) (r : Reply) → is_new w m ≡ true → said_of (keep w m r) m ≡ Some r
unfolding keep said_of
said_kept w m r new =
    let p : Window = put_number w m r in
    let low : smallest (keep w m r) ≤ m = cond_both (nat_lt 8 (length p)) (drop 1 p) p (λ (v : Window). smallest v ≤ m) (λ e. not_below_rest w m r new (ltb-true 8 (length p) e)) (λ e. not_below w m r) in
    let fresh : is_stale (keep w m r) m ≡ false = false_from_ne_true (is_stale (keep w m r) m) (λ t. let lt : m < smallest (keep w m r) = (stale_parts (keep w m r) m t).1 in omega (arith, lt, low)) in
    cond-false (is_stale (keep w m r) m) (Some (Stale (largest (keep w m r)))) (at_number (keep w m r) m) fresh ∙ kept_found w m r new
