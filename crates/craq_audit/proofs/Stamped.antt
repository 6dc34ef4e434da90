-- The record of a stamp in a journal, whose stamps ascend.
use Rattle.std.proofs.Common.{◌≡◌, ◌≢◌, Bool, ◌<◌, ◌≤◌, ℕ, zero, suc, ltb, true, false, List, [], ◌∷◌, length, get_or, Option, Some, None, refl, subst, ap, ◌∙◌, arith, inl, inr}
use Rattle.std.specs.Prelude.{Contains}
use Rattle.std.specs.List.Sorted.{IsNonDecreasingBy, IsPartitionPoint}
use Rattle.std.proofs.lemmas.List.{get_or_default}
use Rattle.std.proofs.lemmas.Bool.{ltb-false, ltb-true}
use Rattle.craq_causality.proofs.Nodes.{same_or_not}
use Rattle.craq_seat.specs.declared.journal.Record.{Record}
use Rattle.craq_seat.specs.Journal.{IsStamped, RisesTo}
use Rattle.craq_seat.proofs.Taking.{stamps_rise}
use Rattle.craq_audit.specs.Journals.{records_in}
use Rattle.craq_audit.specs.Lookups.{Rise}

pub rise_of : {E : Type 0} (bears : E → ℕ) (first last : ℕ) (j : Option (List (Record E))) → IsStamped bears first j last → Rise (records_in j)
rise_of bears first last None h = (0, 0, refl)
rise_of bears first last (Some rs) h = (first, last, stamps_rise bears first last rs h)

above : {E : Type 0} (first last : ℕ) (rs : List (Record E)) (k : ℕ) (d : Record E) → RisesTo first rs last → k < length rs → first < (get_or rs k d).stamp
above first last [] k d h less = absurd (omega (arith, less))
above first last (x ∷ rs) zero d h less = h.0
above first last (x ∷ rs) (suc k) d h less =
    let a = h.0 in let b = above x.stamp last rs k d h.1 (omega (arith, less)) in omega (arith, a, b)

strictly : {E : Type 0} (first last : ℕ) (rs : List (Record E)) (i k : ℕ) (d : Record E) → RisesTo first rs last → i < k → k < length rs → (get_or rs i d).stamp < (get_or rs k d).stamp
strictly first last [] i k d h up less = absurd (omega (arith, less))
strictly first last (x ∷ rs) zero zero d h up less = absurd (omega (arith, up))
strictly first last (x ∷ rs) zero (suc k) d h up less = above x.stamp last rs k d h.1 (omega (arith, less))
strictly first last (x ∷ rs) (suc i) zero d h up less = absurd (omega (arith, up))
strictly first last (x ∷ rs) (suc i) (suc k) d h up less = strictly x.stamp last rs i k d h.1 (omega (arith, up)) (omega (arith, less))

pub rising_by : {E : Type 0} (rs : List (Record E)) → Rise rs → IsNonDecreasingBy (λ (r : Record E). r.stamp) rs
rising_by rs (first, last, h) i j d le less =
    elim (same_or_not i j) [
      | inl e ↦ rw e (omega arith)
      | inr n ↦ (let s = strictly first last rs i j d h (omega (arith, le, n)) less in omega (arith, s))
    ]

-- a record of the stamp is the one at the first place whose stamp is not below it
pub is_at : {E : Type 0} (rs : List (Record E)) (stamp place : ℕ) (r : Record E) → Rise rs → IsPartitionPoint (λ (y : Record E). ltb y.stamp stamp ≡ true) (λ (y : Record E). ltb y.stamp stamp ≡ false) rs place → Contains rs r → r.stamp ≡ stamp → (place < length rs) × (get_or rs place r ≡ r)
is_at rs stamp place r (first, last, h) p (k, less, is) e =
    let own : (get_or rs k r).stamp ≡ stamp = ap (λ (y : Record _). y.stamp) is ∙ e in
    elim (same_or_not k place) [
      | inl s ↦ (let l : place < length rs = omega (arith, less, s) in (l, subst (λ n. get_or rs n r ≡ r) s is))
      | inr n ↦ by_test (ltb k place) refl own n
    ]
  where
    by_test : (b : Bool) → ltb k place ≡ b → (get_or rs k r).stamp ≡ stamp → k ≢ place → (place < length rs) × (get_or rs place r ≡ r)
    by_test true t own n =
        let below : k < place = ltb-true k place t in
        let b = ltb-true (get_or rs k r).stamp stamp (p.0 k r (omega arith) below) in
        absurd (omega (arith, b, own))
    by_test false t own n =
        let after : place ≤ k = ltb-false k place t in
        let up = strictly first last rs place k r h (omega (arith, after, n)) less in
        let b = ltb-false (get_or rs place r).stamp stamp (p.1 place r (omega arith) (omega (arith, after, less))) in
        absurd (omega (arith, up, b, own))

-- a record of another stamp in that place is not it
pub not_at : {E : Type 0} (rs : List (Record E)) (stamp place : ℕ) (x r : Record E) → (place < length rs) × (get_or rs place r ≡ r) → x ≡ get_or rs place x → x ≡ r
not_at rs stamp place x r at is = is ∙ get_or_default rs place x r at.0 ∙ at.1

pub rises_at : {E : Type 0} (bears : E → ℕ) (first last : ℕ) (j : Option (List (Record E))) (rs : List (Record E)) → IsStamped bears first j last → j ≡ Some rs → Rise rs
rises_at bears first last None rs h e = cc
rises_at bears first last (Some xs) rs h e = let same : xs ≡ rs = cc in subst (λ ys. Rise ys) same (first, last, stamps_rise bears first last xs h)
