-- The predicates on members, in the model of a node and in the protocol.
use Rattle.std.proofs.Common.{◌≡◌, ℕ, ◌==◌, true, ◌&&◌, ◌||◌, List, [], ◌∷◌, Option, Some, None, slice_get, refl, ap}
use Rattle.std.proofs.lemmas.Bool.{and_from, or_left, or_right, eqb-true, eq-eqb, cond_both}
use Rattle.craq_model.specs.Members as model
use Rattle.craq_model.specs.Members.{is_id, first_of, last_of, successor_in, predecessor_in}
use Rattle.craq_protocol.specs.Members as protocol
use Rattle.craq_protocol.specs.Members.{is_first, is_last, is_next}
use Rattle.craq_protocol.proofs.Lists.{is_member_none}

pub is_member-same : (ms : List ℕ) (id : ℕ) → model.is_member ms id ≡ protocol.is_member ms id
unfolding model.is_member protocol.is_member
is_member-same [] id = refl
is_member-same (m ∷ ms) id = ap (λ b. (m == id) || b) (is_member-same ms id)

last_of-cons : (m : ℕ) (ms : List ℕ) (id : ℕ) → (last_of (m ∷ ms) == id) ≡ is_last (m ∷ ms) id
unfolding last_of is_last
last_of-cons m [] id = refl
last_of-cons m (k ∷ ms) id = last_of-cons k ms id

-- a member is last in the model exactly if it is last in the protocol
pub last_of-same : (ms : List ℕ) (id : ℕ) → protocol.is_member ms id ≡ true → (last_of ms == id) ≡ is_last ms id
last_of-same [] id h = absurd (is_member_none id h)
last_of-same (m ∷ ms) id h = last_of-cons m ms id

pub first_of-same : (ms : List ℕ) (id : ℕ) → protocol.is_member ms id ≡ true → (first_of ms == id) ≡ is_first ms id
unfolding is_first
first_of-same [] id h = absurd (is_member_none id h)
first_of-same (m ∷ ms) id h = refl

pub next_from_successor : (ms : List ℕ) (id s : ℕ) → successor_in ms id ≡ Some s → is_next ms id s ≡ true
unfolding successor_in is_next
next_from_successor [] id s h = absurd (cc)
next_from_successor (m ∷ []) id s h =
    let none : List ℕ = [] in
    absurd (cond_both (m == id) (slice_get none 0) (successor_in [] id) (λ o. o ≡ Some s → ⊥) (λ e i. cc) (λ e i. cc) h)
next_from_successor (m ∷ k ∷ ms) id s h =
    cond_both (m == id) (slice_get (k ∷ ms) 0) (successor_in (k ∷ ms) id) (λ o. o ≡ Some s → is_next (m ∷ k ∷ ms) id s ≡ true)
    (λ e i. let same : k ≡ s = cc in or_left ((m == id) && (k == s)) (is_next (k ∷ ms) id s) (and_from (m == id) (k == s) e (eq-eqb k s same)))
    (λ e i. or_right ((m == id) && (k == s)) (is_next (k ∷ ms) id s) (next_from_successor (k ∷ ms) id s i))
    h

pub next_from_predecessor : (ms : List ℕ) (id s : ℕ) → predecessor_in ms id ≡ Some s → is_next ms s id ≡ true
unfolding predecessor_in is_next
next_from_predecessor [] id s h = absurd (cc)
next_from_predecessor (m ∷ []) id s h = absurd (cc)
next_from_predecessor (m ∷ k ∷ ms) id s h =
    cond_both (k == id) (Some m) (predecessor_in (k ∷ ms) id) (λ o. o ≡ Some s → is_next (m ∷ k ∷ ms) s id ≡ true)
    (λ e i. let same : m ≡ s = cc in or_left ((m == s) && (k == id)) (is_next (k ∷ ms) s id) (and_from (m == s) (k == id) (eq-eqb m s same) e))
    (λ e i. or_right ((m == s) && (k == id)) (is_next (k ∷ ms) s id) (next_from_predecessor (k ∷ ms) id s i))
    h

pub is_id-some : (o : Option ℕ) (id : ℕ) → is_id o id ≡ true → o ≡ Some id
is_id-some None id h = absurd (cc)
is_id-some (Some m) id h = ap Some (eqb-true m id h)
