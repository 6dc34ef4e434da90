-- Lists by place.
use Rattle.std.proofs.Common.{◌≡◌, List, [], ◌∷◌, ℕ, Option, Some, None, refl, sym, ◌∙◌, ap, subst}
use Rattle.std.proofs.lemmas.Option.{slice_get-map}
use Rattle.std.specs.Prelude.{IfNone, IfSome, IsSome, unwrap_or}
use Rattle.std.specs.Option.{option_and_then}
use Rattle.craq_names.specs.Maps.{at_key}
use Rattle.craq_key_map.specs.Mapped.{Mapped, entries_of, key_of}
use Rattle.craq_versions.specs.Versions.{Versions, CanSettleAs}
use Rattle.craq_versions.specs.Tables.{held_at, key_at, nothing, shown, table_in, unless_empty, HasNoList, Held, Table}
use Rattle.craq_versions.proofs.Taken.{rise, was, was_none}
use Rattle.craq_versions.proofs.Written.{clash, held_found, none_shown, room_found, room_in, settles_as_in}

-- the key at a place is that of the map
pub place_key : {V : Type 0} (m : Mapped (Versions V)) (place : ℕ) → key_at (table_in m) place ≡ key_of m place
place_key {V} m place = slice_get-map (λ (e : List ℕ × Versions V). e.0) m place

pub is_placed : {V : Type 0} (m : Mapped (Versions V)) (place : ℕ) → IsSome (key_at (table_in m) place) → IsSome (key_of m place)
is_placed m place h = subst (λ (o : Option (List ℕ)). IsSome o) (place_key m place) h

-- a place keeps its key if the map keeps it, twice
pub place_kept : {V : Type 0} (m n k : Mapped (Versions V)) (place : ℕ) → key_of k place ≡ key_of n place → key_of n place ≡ key_of m place → key_at (table_in k) place ≡ key_at (table_in m) place
place_kept m n k place second first = place_key k place ∙ second ∙ first ∙ sym (place_key m place)

-- a key that is not found has no list
pub none_placed : {V : Type 0} (m : Mapped (Versions V)) (key : List ℕ) (o : Option ℕ) → IfNone o (at_key (entries_of m) key ≡ None) → IfNone o (HasNoList (table_in m) key)
none_placed {V} m key o h =
    let split : (o : Option ℕ) → IfNone o (at_key (entries_of m) key ≡ None) → IfNone o (HasNoList (table_in m) key) = elim [
      | None ↦ λ at.
          let none = was_none m key at in
          record { versions = sym (none_shown (entries_of m) key (rise m) none); room = room_found (entries_of m) key ∙ ap room_in (sym none) }
      | Some place ↦ λ at. at
    ] in
    split o h

-- the place of a key that is found
pub some_placed : {V : Type 0} (m : Mapped (Versions V)) (key : List ℕ) (o : Option ℕ) → IfSome o (λ place. key_of m place ≡ Some key) → IfSome o (λ place. key_at (table_in m) place ≡ Some key)
some_placed {V} m key o h =
    let split : (o : Option ℕ) → IfSome o (λ place. key_of m place ≡ Some key) → IfSome o (λ place. key_at (table_in m) place ≡ Some key) = elim [
      | None ↦ λ at. at
      | Some place ↦ λ at. place_key m place ∙ at
    ] in
    split o h

-- the versions of the list of a key
pub shown_at : {V : Type 0} (m : Mapped (Versions V)) (key : List ℕ) (list : Versions V) → at_key (entries_of m) key ≡ Some list → shown list ≡ at_key (table_in m).objects key
shown_at m key list at = ap (option_and_then shown) (was m key list at) ∙ sym (held_found (entries_of m) key (rise m))

-- a version that can be settled at a place can be in the list there
pub settles_as_at : {V : Type 0} (m : Mapped (Versions V)) (place : ℕ) (old : Versions V) (version : ℕ) → IsSome (key_at (table_in m) place) → ((key : List ℕ) → key_of m place ≡ Some key → at_key (entries_of m) key ≡ Some old)
    → ((key : List ℕ) → key_at (table_in m) place ≡ Some key → CanSettleAs (held_at (table_in m) key).versions version) → CanSettleAs old.versions version
settles_as_at {V} m place old version placed found can =
    let split : (o : Option (List ℕ)) → key_at (table_in m) place ≡ o → IsSome o → CanSettleAs old.versions version = elim [
      | None ↦ λ e h. absurd (clash (sym h))
      | Some key ↦ λ e h. settles_as_in (entries_of m) key old version (rise m) (was m key old (found key (sym (place_key m place) ∙ e))) (can key e)
    ] in
    split (key_at (table_in m) place) refl placed

-- a property of one key at a place is one of each key there
pub same_key_at : {V : Type 0} (m : Mapped (Versions V)) (place : ℕ) (key : List ℕ) (P : List ℕ → Type 0) → key_at (table_in m) place ≡ Some key → P key → (q : List ℕ) → key_at (table_in m) place ≡ Some q → P q
same_key_at m place key P at h q e = let same : key ≡ q = cc in subst P same h

-- a version that can be settled at a place of a table can be settled in the equal table
pub settles_in_table : {V : Type 0} (t u : Table V) → u ≡ t → (place version : ℕ) → ((key : List ℕ) → key_at t place ≡ Some key → CanSettleAs (held_at t key).versions version) → (key : List ℕ) → key_at u place ≡ Some key → CanSettleAs (held_at u key).versions version
settles_in_table {V} t u same place version can =
    subst (λ (x : Table V). (key : List ℕ) → key_at x place ≡ Some key → CanSettleAs (held_at x key).versions version) (sym same) can

-- a list that is shown has the key's versions
pub versions_at : {V : Type 0} (t : Table V) (key : List ℕ) (list : Versions V) → shown list ≡ at_key t.objects key → list.versions ≡ (held_at t key).versions
versions_at {V} t key list is =
    let split : (vs : List (ℕ × V)) → vs ≡ (unwrap_or (unless_empty vs (record { versions = vs; clean = list.clean })) nothing).versions = elim [ [] ↦ refl | v ∷ vs ↦ refl ] in
    split list.versions ∙ ap (λ (o : Option (Held V)). (unwrap_or o nothing).versions) is
