-- Applicable entries that write each object at most once write the next versions.
use Rattle.std.proofs.Common.{◌≡◌, ℕ, ◌+◌, ◌==◌, Bool, true, false, ◌&&◌, cond, List, [], ◌∷◌, ◌++◌, map, refl, sym, ◌∙◌, ap, subst}
use Rattle.std.specs.List.{AllByRecursion, IsDistinct, list_all}
use Rattle.std.proofs.lemmas.Bool.{and_parts, eqb-true}
use Rattle.craq_names.specs.Maps.{same_bytes}
use Rattle.craq_commands.specs.declared.entry.Entry.{Entry}
use Rattle.craq_commands.specs.declared.entry.Write.{Write}
use Rattle.craq_commands.specs.declared.state.State.{State}
use Rattle.craq_commands.specs.Objects.{Objects, object_of, version_of}
use Rattle.craq_commands.specs.SingleCopy.{after_entry, is_new_to}
use Rattle.craq_model.specs.Deliveries.{are_applicable, is_applicable}
use Rattle.craq_model.specs.Past.{values_in, values_after}
use Rattle.craq_model.specs.Encodable.{IsEncodableEntry}
use Rattle.craq_full_history.specs.Scans.{last_value}
use Rattle.craq_full_history.proofs.Scans.{last_of_values}
use Rattle.craq_compact_state.specs.Followed.{AreNext, AreNextVersions}
use Rattle.craq_compact_state.proofs.Following.{next_join}
use Rattle.craq_compact_state.proofs.Placing.{clash, same_is}

-- an object that one write names is not named by the others
none_of_others : (ws : List Write) (key q : List ℕ) → same_bytes key q ≡ true → AllByRecursion (λ y. same_bytes key y ≡ false) (map (λ (w : Write). w.key) ws) → values_in ws q ≡ []
unfolding values_in
none_of_others [] key q same others = refl
none_of_others (w ∷ ws) key q same others =
    let rest = none_of_others ws key q same others.1 in
    let here : key ≡ q = same_is key q same in
    let split : (b : Bool) → same_bytes w.key q ≡ b → cond b ((w.version, w.value) ∷ values_in ws q) (values_in ws q) ≡ [] = elim [
      | true ↦ λ e. let there : w.key ≡ key = same_is w.key q e ∙ sym here in
          absurd (clash (sym e ∙ ap (λ (k : List ℕ). same_bytes k q) there ∙ ap (λ (k : List ℕ). same_bytes key k) (sym here) ∙ ap (λ (k : List ℕ). same_bytes key k) (sym there) ∙ others.0))
      | false ↦ λ e. rest
    ] in
    split (same_bytes w.key q) refl

next_of_writes : (m : Objects) (ws : List Write) (q : List ℕ) → list_all (λ (w : Write). w.version == version_of m w.key + 1) ws ≡ true → IsDistinct same_bytes (map (λ (w : Write). w.key) ws) → AreNext (version_of m q) (values_in ws q)
unfolding values_in IsDistinct
next_of_writes m [] q all once = tt
next_of_writes m (w ∷ ws) q all once =
    let parts = and_parts (w.version == version_of m w.key + 1) (list_all (λ (x : Write). x.version == version_of m x.key + 1) ws) all in
    let rest = next_of_writes m ws q parts.1 once.1 in
    let split : (b : Bool) → same_bytes w.key q ≡ b → AreNext (version_of m q) (cond b ((w.version, w.value) ∷ values_in ws q) (values_in ws q)) = elim [
      | true ↦ λ e.
          let is : w.version ≡ version_of m q + 1 = eqb-true w.version (version_of m w.key + 1) parts.0 ∙ ap (λ (k : List ℕ). version_of m k + 1) (same_is w.key q e) in
          (is, subst (λ (l : List (ℕ × List ℕ)). AreNext w.version l) (sym (none_of_others ws w.key q e once.0)) tt)
      | false ↦ λ e. rest
    ] in
    split (same_bytes w.key q) refl

pub are_next : (s : State) (es : List Entry) → are_applicable s es ≡ true → AllByRecursion IsEncodableEntry es → AreNextVersions s es
unfolding values_after is_applicable
are_next s [] all spelled q = tt
are_next s (e ∷ es) all spelled q =
    let parts = and_parts (is_applicable s e) (are_applicable (after_entry s e) es) all in
    let both = and_parts (list_all (λ (w : Write). w.version == version_of s.objects w.key + 1) e.writes) (is_new_to s e.client e.number) parts.0 in
    let o : ℕ × List ℕ = object_of s.objects q in
    let first = next_of_writes s.objects e.writes q both.0 spelled.0.once in
    let rest = are_next (after_entry s e) es parts.1 spelled.1 q in
    let one = values_after (e ∷ []) q in
    let after : object_of (after_entry s e).objects q ≡ last_value o one = last_of_values s (e ∷ []) q in
    next_join o (values_in e.writes q) (values_after es q) first (subst (λ (x : ℕ × List ℕ). AreNext x.0 (values_after es q)) (after ∙ ap (last_value o) (nothing_after (values_in e.writes q))) rest)
  where
    nothing_after : (vs : List (ℕ × List ℕ)) → vs ++ [] ≡ vs
    nothing_after [] = refl
    nothing_after (v ∷ vs) = ap (λ (l : List (ℕ × List ℕ)). v ∷ l) (nothing_after vs)
