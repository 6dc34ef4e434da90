-- An entry of one write that gives its object the next version.
use Rattle.std.proofs.Common.{◌≡◌, ℕ, ◌+◌, Bool, true, false, cond, List, [], ◌∷◌, ◌++◌, refl, sym, subst, ◌∙◌, ap}
use Rattle.craq_names.specs.Maps.{same_bytes}
use Rattle.craq_commands.specs.declared.entry.Entry.{Entry}
use Rattle.craq_commands.specs.declared.entry.Write.{Write}
use Rattle.craq_commands.specs.declared.state.State.{State}
use Rattle.craq_commands.specs.Objects.{version_of}
use Rattle.craq_model.specs.Past.{values_in, values_after}
use Rattle.craq_compact_state.specs.Followed.{AreNext, AreNextVersions}
use Rattle.craq_compact_state.proofs.Placing.{same_is}

pub one_write_is_next : (s : State) (e : Entry) (w : Write) → e.writes ≡ w ∷ [] → w.version ≡ version_of s.objects w.key + 1 → AreNextVersions s (e ∷ [])
unfolding values_in values_after
one_write_is_next s e w writes next q =
    let one : List (ℕ × List ℕ) = (w.version, w.value) ∷ [] in
    let split : (b : Bool) → same_bytes w.key q ≡ b → AreNext (version_of s.objects q) (cond b one [] ++ []) = elim [
      | true ↦ λ same. (next ∙ ap (λ (k : List ℕ). version_of s.objects k + 1) (same_is w.key q same), tt)
      | false ↦ λ same. tt
    ] in
    subst (λ (ws : List Write). AreNext (version_of s.objects q) (values_in ws q ++ [])) (sym writes) (split (same_bytes w.key q) refl)
