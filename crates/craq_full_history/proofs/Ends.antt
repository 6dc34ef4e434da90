-- The last slot of a window.
use Rattle.std.proofs.Common.{◌≡◌, ℕ, suc, ◌-◌, [], ◌∷◌, length, Option, Some, None, refl, ap, subst, arith}
use Rattle.std.specs.Prelude.{slice_get}
use Rattle.craq_commands.specs.declared.reply.Reply.{Reply}
use Rattle.craq_full_history.specs.Slots.{Slots, last_number, is_stale_in, said_in}

last_at : (xs : Slots) (n : ℕ) (x : ℕ × ℕ) → length xs ≡ suc n → slice_get xs n ≡ Some x → last_number xs ≡ x.0
last_at [] n x e h = absurd (omega (arith, e))
last_at (y ∷ []) n x e h =
    let z : n ≡ 0 = omega (arith, e) in
    let h' : slice_get (y ∷ []) 0 ≡ Some x = subst (λ (m : ℕ). slice_get (y ∷ []) m ≡ Some x) z h in
    let s : y ≡ x = cc in
    ap (λ (j : ℕ × ℕ). j.0) s
last_at (y ∷ v ∷ ys) n x e h =
    let m : ℕ = length ys in
    let z : n ≡ suc m = omega (arith, e) in
    last_at (v ∷ ys) m x refl (subst (λ (i : ℕ). slice_get (y ∷ v ∷ ys) i ≡ Some x) z h)

-- the last number is that of the last slot
pub last_is : (xs : Slots) (x : ℕ × ℕ) → slice_get xs (length xs - 1) ≡ Some x → last_number xs ≡ x.0
last_is [] x h = cc
last_is (y ∷ ys) x h =
    let e : length (y ∷ ys) - 1 ≡ length ys = omega arith in
    last_at (y ∷ ys) (length ys) x refl (subst (λ (i : ℕ). slice_get (y ∷ ys) i ≡ Some x) e h)

has_last : (y : ℕ × ℕ) (ys : Slots) → slice_get (y ∷ ys) (length ys) ≡ None → ⊥
has_last y [] h = cc
has_last y (v ∷ ys) h = has_last v ys h

-- without slots every number is new
pub none_said : (reply : ℕ → Option Reply) (xs : Slots) (n : ℕ) → slice_get xs (length xs - 1) ≡ None → said_in reply xs n ≡ None
unfolding said_in is_stale_in
none_said reply [] n h = refl
none_said reply (y ∷ ys) n h =
    let e : length (y ∷ ys) - 1 ≡ length ys = omega arith in
    absurd (has_last y ys (subst (λ (i : ℕ). slice_get (y ∷ ys) i ≡ None) e h))
