-- Updates of which none waits for at most a position, since positions rise.
use Rattle.std.proofs.Common.{◌≡◌, ◌<◌, ◌≤◌, ◌∙◌, refl, subst, ℕ, suc, zero, nat_le, Bool, true, false, List, [], ◌∷◌, length, drop, get_or, arith}
use Rattle.std.specs.Ordering.{is_le, nat_cmp}
use Rattle.std.proofs.lemmas.Bool.{and_parts, leb-true, lt-leb, cond-false}
use Rattle.craq_model.specs.declared.waiting.WaitingUpdate.{WaitingUpdate}
use Rattle.craq_model.specs.Deliveries.{pending_updates}
use Rattle.craq_history.specs.Waiting.{rise_from, rise}

pub is_later : (m n : ℕ) (r : Bool) → r ≡ is_le (nat_cmp m n) → r ≡ false → n < m
is_later m n r le fails = grind (arith, le, fails)

none_pending : (low position : ℕ) (us : List WaitingUpdate) → position < low → rise_from low us ≡ true → pending_updates position us ≡ []
unfolding pending_updates
none_pending low position [] l r = refl
none_pending low position (u ∷ us) l r =
    let parts : _ = and_parts (nat_le low u.position) (rise_from u.position us) r in
    let above : low ≤ u.position = leb-true low u.position parts.0 in
    let is : position < u.position = omega (arith, l, above) in
    cond-false (nat_le u.position position) (u ∷ pending_updates position us) (pending_updates position us) (lt-leb u.position position is)
    ∙ none_pending u.position position us is parts.1

none_pending_from : (low position place : ℕ) (us : List WaitingUpdate) (u : WaitingUpdate) → rise_from low us ≡ true → u ≡ get_or us place u → position < u.position → place < length us
    → pending_updates position (drop place us) ≡ []
unfolding pending_updates
none_pending_from low position zero [] u r e l n = refl
none_pending_from low position (suc place) [] u r e l n = refl
none_pending_from low position zero (v ∷ us) u r e l n =
    let parts : _ = and_parts (nat_le low v.position) (rise_from v.position us) r in
    let is : position < v.position = subst (λ (w : WaitingUpdate). position < w.position) e l in
    cond-false (nat_le v.position position) (v ∷ pending_updates position us) (pending_updates position us) (lt-leb v.position position is)
    ∙ none_pending v.position position us is parts.1
none_pending_from low position (suc place) (v ∷ us) u r e l n =
    none_pending_from v.position position place us u (and_parts (nat_le low v.position) (rise_from v.position us) r).1 e l (omega (arith, n))

-- from the first one on that waits for a later position none is pending
pub none_from_later : (position place : ℕ) (us : List WaitingUpdate) (u : WaitingUpdate) → rise us ≡ true → u ≡ get_or us place u → position < u.position → place < length us
    → pending_updates position (drop place us) ≡ []
none_from_later position place us u r e l n = none_pending_from 0 position place us u r e l n
