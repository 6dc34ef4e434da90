-- The entries of one message.
use Rattle.std.proofs.Common.{◌≡◌, ℕ, suc, ◌-◌, List, [], ◌∷◌, length, Some, refl, ap, subst, arith}
use Rattle.std.specs.Prelude.{slice_get}
use Rattle.craq_commands.specs.declared.entry.Entry.{Entry}
use Rattle.craq_model.specs.Deliveries.{final_position}

final_at : (es : List Entry) (n : ℕ) (e : Entry) → length es ≡ suc n → slice_get es n ≡ Some e → final_position es ≡ e.position
final_at [] n e l h = absurd (omega (arith, l))
final_at (x ∷ []) n e l h =
    let z : n ≡ 0 = omega (arith, l) in
    let h' : slice_get (x ∷ []) 0 ≡ Some e = subst (λ (m : ℕ). slice_get (x ∷ []) m ≡ Some e) z h in
    let s : x ≡ e = cc in
    ap (λ (k : Entry). k.position) s
final_at (x ∷ y ∷ es) n e l h =
    let m : ℕ = length es in
    let z : n ≡ suc m = omega (arith, l) in
    final_at (y ∷ es) m e refl (subst (λ (i : ℕ). slice_get (x ∷ y ∷ es) i ≡ Some e) z h)

-- the last position is that of the last entry
pub final_last : (es : List Entry) (e : Entry) → slice_get es (length es - 1) ≡ Some e → final_position es ≡ e.position
final_last [] e h = cc
final_last (x ∷ es) e h =
    let l : length (x ∷ es) - 1 ≡ length es = omega arith in
    final_at (x ∷ es) (length es) e refl (subst (λ (i : ℕ). slice_get (x ∷ es) i ≡ Some e) l h)
