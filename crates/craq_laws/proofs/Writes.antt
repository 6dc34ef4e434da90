-- Writes to different objects.
use Rattle.std.proofs.Common.{◌≡◌, ◌≢◌, ℕ, ◌+◌, true, false, cond, T, List, [], ◌∷◌, map, Option, Some, unwrap_or, refl, sym, ap, ◌∙◌}
use Rattle.std.specs.List.{IsDistinct, AllByRecursion}
use Rattle.std.specs.Ordering.{eq_by_cmp, is_eq}
use Rattle.std.specs.declared.cmp.Ordering.{Ordering}
use Rattle.std.specs.declared.cmp.Ordering.TheVariants.{Less, Equal, Greater}
use Rattle.std.specs.Cmp.{eq_by_cmp_equiv}
use Rattle.std.specs.Cmp.Lexicographic.{nat_list_cmp_total, bytes_decides}
use Rattle.std.specs.FinMap.{IsAntisymmetric, nat_cmp-IsAntisymmetric, slice_cmp-IsAntisymmetric}
use Rattle.std.specs.FinMap.Entries.{find, find-put, is_sorted, same_entries}
use Rattle.craq_names.specs.Maps.{same_bytes, key_cmp, at_key, put_key}
use Rattle.craq_commands.specs.Objects.{Objects, object_of, version_of, set_object, written, all_written}
use Rattle.craq_commands.specs.SingleCopy.{with_writes}
use Rattle.craq_model.specs.Asks.{versioned_write}

pub reported_apart : (r : Ordering) → r ≢ Equal → is_eq r ≡ false
reported_apart Less n = refl
reported_apart Equal n = absurd (n refl)
reported_apart Greater n = refl

exact_keys : IsAntisymmetric key_cmp
exact_keys = slice_cmp-IsAntisymmetric nat_cmp-IsAntisymmetric

-- keys with different bytes are different in the order
two_keys : (k key : List ℕ) → same_bytes k key ≡ false → eq_by_cmp key_cmp key k ≡ false
two_keys k key n =
    reported_apart (key_cmp key k) (λ e. let t : same_bytes k key ≡ true = (bytes_decides k key).1 (sym (exact_keys key k e)) in cc)

same_key : (key : List ℕ) → eq_by_cmp key_cmp key key ≡ true
same_key key = (eq_by_cmp_equiv nat_list_cmp_total).refl key

pub found_here : (m : Objects) (key : List ℕ) (x : ℕ × List ℕ) → at_key (put_key m key x) key ≡ Some x
found_here m key x =
    find-put key_cmp nat_list_cmp_total key key x m ∙ ap (λ b. cond b (Some x) (find key_cmp key m)) (same_key key)

pub found_elsewhere : (m : Objects) (key other : List ℕ) (x : ℕ × List ℕ) → same_bytes key other ≡ false → at_key (put_key m key x) other ≡ at_key m other
found_elsewhere m key other x n =
    find-put key_cmp nat_list_cmp_total other key x m ∙ ap (λ b. cond b (Some x) (find key_cmp other m)) (two_keys key other n)

pub same_maps : (m n : Objects) → T (is_sorted key_cmp m) → T (is_sorted key_cmp n) → ((key : List ℕ) → at_key m key ≡ at_key n key) → m ≡ n
same_maps m n s t f = same_entries key_cmp nat_list_cmp_total exact_keys m n s t f

-- a write leaves every other object unchanged
pub written_elsewhere : (m : Objects) (w : List ℕ × List ℕ) (key : List ℕ) → same_bytes w.0 key ≡ false → object_of (written m w) key ≡ object_of m key
unfolding object_of set_object
written_elsewhere m w key n =
    let new : ℕ × List ℕ = (version_of m w.0 + 1, w.1) in
    ap (λ (o : Option (ℕ × List ℕ)). unwrap_or o (0, [])) (find-put key_cmp nat_list_cmp_total key w.0 new m ∙ ap (λ b. cond b (Some new) (find key_cmp key m)) (two_keys w.0 key n))

-- writes get the same versions after a write to another object
same_versions : (m : Objects) (w : List ℕ × List ℕ) (ws : List (List ℕ × List ℕ)) → AllByRecursion (λ key. same_bytes w.0 key ≡ false) (map (λ x. x.0) ws) → map (versioned_write m) ws ≡ map (versioned_write (written m w)) ws
same_versions m w [] d = refl
same_versions m w (x ∷ ws) d = λ i. (record { key = x.0; version = (sym (written_elsewhere m w x.0 d.0) i).0 + 1; value = x.1 }) ∷ same_versions m w ws d.1 i

pub with_versioned : (m : Objects) (ws : List (List ℕ × List ℕ)) → IsDistinct same_bytes (map (λ w. w.0) ws) → with_writes m (map (versioned_write m) ws) ≡ all_written m ws
unfolding IsDistinct
with_versioned m [] d = refl
with_versioned m (w ∷ ws) d = ap (with_writes (written m w)) (same_versions m w ws d.0) ∙ with_versioned (written m w) ws d.1
