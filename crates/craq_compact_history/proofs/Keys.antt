-- Keys whose last bytes differ are not the same.
use Rattle.std.proofs.Common.{◌≡◌, ◌∙◌, ℕ, Bool, true, false, List, refl, sym, ap}
use Rattle.std.specs.Prelude.{◌==◌, nat_eq}
use Rattle.std.specs.Ordering.{is_eq}
use Rattle.std.specs.declared.cmp.Ordering.{Ordering}
use Rattle.std.specs.declared.cmp.Ordering.TheVariants.{Less, Equal, Greater}
use Rattle.std.specs.Cmp.{nat_eq_equiv}
use Rattle.std.specs.Cmp.Lexicographic.{texts_ties}
use Rattle.std.specs.FinMap.{IsAntisymmetric, nat_cmp-IsAntisymmetric, slice_cmp-IsAntisymmetric}
use Rattle.craq_names.specs.Maps.{key_cmp, same_bytes}
use Rattle.craq_compact_history.specs.Later.{last_byte}

exact : IsAntisymmetric key_cmp
exact = slice_cmp-IsAntisymmetric nat_cmp-IsAntisymmetric

equal : (r : Ordering) → is_eq r ≡ true → r ≡ Equal
equal Less p = cc
equal Equal p = refl
equal Greater p = cc

same_is : (key other : List ℕ) → same_bytes key other ≡ true → key ≡ other
same_is key other same = exact key other (equal (key_cmp key other) (sym (texts_ties key other) ∙ same))

clash : true ≡ false → ⊥
clash e = cc

-- keys with other last bytes are others
pub unlike_ends : (key other : List ℕ) → (last_byte key == last_byte other) ≡ false → same_bytes key other ≡ false
unlike_ends key other unlike =
    let split : (b : Bool) → same_bytes key other ≡ b → b ≡ false = elim [
      | true ↦ λ e. absurd (clash (sym (nat_eq_equiv.refl (last_byte key)) ∙ ap (λ (k : List ℕ). nat_eq (last_byte key) (last_byte k)) (same_is key other e) ∙ unlike))
      | false ↦ λ e. refl
    ] in
    split (same_bytes key other) refl
