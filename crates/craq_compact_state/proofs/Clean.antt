-- The clean version of each object after the versions of one are changed.
use Rattle.std.proofs.Common.{◌≡◌, ℕ, zero, Bool, true, false, cond, List, [], ◌∷◌, length, Option, Some, refl, sym, ◌∙◌, ap, subst, arith}
use Rattle.std.specs.Prelude.{unwrap_or, if◌then◌else◌, nat_le}
use Rattle.std.specs.Ordering.{eq_by_cmp}
use Rattle.std.specs.Cmp.Lexicographic.{nat_list_cmp_total}
use Rattle.std.specs.FinMap.Entries.{find-put}
use Rattle.craq_names.specs.Maps.{key_cmp, at_key, put_key, same_bytes}
use Rattle.craq_versions.specs.Tables.{Held, held_at, nothing, only_clean, popped, pushed, settled_as}
use Rattle.craq_versions.specs.Versions.{clean_without, without_newest}
use Rattle.craq_compact_state.specs.declared.value_locations.ValueLocation.{ValueLocation}
use Rattle.craq_compact_state.specs.declared.value_locations.ValueLocation.TheVariants.{Settled, Written}
use Rattle.craq_compact_state.specs.declared.value_locations.WriteRef.{WriteRef}
use Rattle.craq_compact_state.specs.Placed.{Placed, has_some, later_from, later_in, later_of, settled_in, settled_version, versions_of, IsPlaced, IsRising}
use Rattle.craq_compact_state.proofs.Placing.{IsPopped, clash, le_false, rising_put, rising_same, same_either_way, same_is, settled_more, without_is}

-- the clean version is the settled one
abbrev pub IsClean : Held ValueLocation → Type 0
IsClean h = h.clean ≡ settled_version h.versions

abbrev number : Option (ℕ × List ℕ) → ℕ
number o = (unwrap_or o (0, [])).0

-- the versions of each key after one is written
held_changed : (t u : Placed) (key : List ℕ) (h : Held ValueLocation) → u.objects ≡ put_key t.objects key h → (q : List ℕ) → held_at u q ≡ cond (same_bytes key q) h (held_at t q)
held_changed t u key h is q =
    let split : (b : Bool) → unwrap_or (cond b (Some h) (at_key t.objects q)) nothing ≡ cond b h (held_at t q) = elim [ true ↦ refl | false ↦ refl ] in
    ap (λ (m : List (List ℕ × Held ValueLocation)). unwrap_or (at_key m q) nothing) is
    ∙ ap (λ (o : Option (Held ValueLocation)). unwrap_or o nothing) (find-put key_cmp nat_list_cmp_total q key h t.objects)
    ∙ split (eq_by_cmp key_cmp q key) ∙ ap (λ b. cond b h (held_at t q)) (same_either_way key q)

-- a key is written whose clean version is the settled one
placed_put : (t u : Placed) (key : List ℕ) (h : Held ValueLocation) → u.objects ≡ put_key t.objects key h → IsClean h → IsPlaced t → IsPlaced u
placed_put t u key h is its was = record {
  rising = rising_put t u key h is was.rising;
  clean = λ q.
      let split : (b : Bool) → IsClean (cond b h (held_at t q)) = elim [ true ↦ its | false ↦ was.clean q ] in
      subst IsClean (sym (held_changed t u key h is q)) (split (same_bytes key q));
}

pub placed_same : (t u : Placed) → u.objects ≡ t.objects → IsPlaced t → IsPlaced u
placed_same t u is was = record {
  rising = rising_same t u is was.rising;
  clean = λ q. subst IsClean (ap (λ (m : List (List ℕ × Held ValueLocation)). unwrap_or (at_key m q) nothing) (sym is)) (was.clean q);
}

-- an object of one settled version is inserted
pub placed_first : (t u : Placed) (key : List ℕ) (version : ℕ) (value : List ℕ) → u.objects ≡ put_key t.objects key (only_clean version (Settled value)) → IsPlaced t → IsPlaced u
placed_first t u key version value is was = placed_put t u key (only_clean version (Settled value)) is refl was

-- a version is settled
pub placed_settled : (t u : Placed) (key : List ℕ) (version : ℕ) (value : List ℕ) → u.objects ≡ put_key t.objects key (settled_as (held_at t key) version (Settled value)) → IsPlaced t → IsPlaced u
placed_settled t u key version value is was = placed_put t u key (settled_as (held_at t key) version (Settled value)) is refl was

-- a later version is added
pub placed_pushed : (t u : Placed) (key : List ℕ) (n : ℕ) (at : WriteRef) → u.objects ≡ put_key t.objects key (pushed (held_at t key) n (Written at)) → IsPlaced t → IsPlaced u
placed_pushed t u key n at is was =
    let same : IsClean (pushed (held_at t key) n (Written at)) = was.clean key ∙ sym (ap number (settled_more (versions_of t key) n at)) in
    placed_put t u key (pushed (held_at t key) n (Written at)) is same was

-- the settled version stays the clean one after the newest later version is removed
clean_left : (vs : List (ℕ × ValueLocation)) → has_some (later_in vs) ≡ true → clean_without vs (settled_version vs) ≡ settled_version vs
clean_left [] some = absurd (clash (sym some))
clean_left (v ∷ vs) some = split v.0 v.1 vs some
  where
    none : (b : Bool) → (if b then zero else zero) ≡ zero
    none true = refl
    none false = refl

    split : (n : ℕ) (p : ValueLocation) (vs : List (ℕ × ValueLocation)) → has_some (later_from p ((n, p) ∷ vs) vs) ≡ true → clean_without ((n, p) ∷ vs) (settled_version ((n, p) ∷ vs)) ≡ settled_version ((n, p) ∷ vs)
    split n (Written at) vs some = none (nat_le (length ((n, Written at) ∷ vs)) 1)
    split n (Settled value) [] some = absurd (clash (sym some))
    split n (Settled value) (w ∷ ws) some = ap (λ (b : Bool). if b then zero else n) (le_false (length ((n, Settled value) ∷ w ∷ ws)) 1 (omega arith))

-- the newest later version is removed
pub placed_popped : (t u : Placed) (key : List ℕ) → IsRising u → IsPopped t u key → has_some (later_of t key) ≡ true → IsPlaced t → IsPlaced u
placed_popped t u key rise at some was =
    let popped_clean : IsClean (popped (held_at t key)) =
    ap (λ (n : ℕ). clean_without (versions_of t key) n) (was.clean key) ∙ clean_left (versions_of t key) some ∙ sym (ap number (without_is (versions_of t key) some).0) in
    record {
      rising = rise;
      clean = λ q.
          let split : (b : Bool) → same_bytes key q ≡ b → IsClean (if b then popped (held_at t q) else held_at t q) = elim [
            | true ↦ λ e. subst (λ (k : List ℕ). IsClean (popped (held_at t k))) (same_is key q e) popped_clean
            | false ↦ λ e. was.clean q
          ] in
          subst IsClean (sym (at q)) (split (same_bytes key q) refl);
    }
