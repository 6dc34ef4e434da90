-- The filled slots of a list sorted by key.
use Rattle.std.proofs.Common.{◌≡◌, Bool, true, false, cond, List, [], ◌∷◌, Option, Some, None, refl, sym, ◌∙◌, ap, subst}
use Rattle.std.specs.Prelude.{◌&&◌}
use lib.Dec.{T}
use Rattle.std.specs.Option.{option_and_then}
use Rattle.std.specs.Ordering.{is_lt, is_eq, eq_by_cmp, ordering_reverse}
use Rattle.std.specs.Cmp.{IsTotalOrder}
use Rattle.std.specs.declared.cmp.Ordering.{Ordering}
use Rattle.std.specs.declared.cmp.Ordering.TheVariants.{Less, Equal, Greater}
use Rattle.std.specs.List.{AllByRecursion}
use Rattle.std.specs.List.Sorted.{IsStrictlySortedBy}
use Rattle.std.specs.Map.{keys_of}
use Rattle.std.specs.BTreeMap.{is_at}
use Rattle.std.specs.FinMap.Entries.{find, put, is_sorted, below_all, find-put, is_sorted-put, same_entries}
use Rattle.craq_names.specs.Places.{with_filled, filled}

both : (a b : Bool) → T a → T b → T (a && b)
both true b p q = q
both false b p q = p

first : (a b : Bool) → T (a && b) → T a
first true b p = tt
first false b p = p

second : (a b : Bool) → T (a && b) → T b
second true b p = p
second false b p = absurd p

true_of : (b : Bool) → b ≡ true → T b
true_of b e = subst T (sym e) tt

less : (r : Ordering) → T (is_lt r) → r ≡ Less
less Less p = refl
less Equal p = absurd p
less Greater p = absurd p

equal : (r : Ordering) → is_eq r ≡ true → r ≡ Equal
equal Less p = cc
equal Equal p = refl
equal Greater p = cc

reversed_eq : (r : Ordering) → is_eq (ordering_reverse r) ≡ is_eq r
reversed_eq Less = refl
reversed_eq Equal = refl
reversed_eq Greater = refl

module _ {K V X : Type 0} (R : K → K → Ordering) (f : V → Option X) where
  -- a lower bound of the slots' keys bounds the filled slots' keys
  below_filled : (k : K) (es : List (K × V)) → T (below_all R k es) → T (below_all R k (filled f es))
  below_filled k [] h = tt
  below_filled k (e ∷ es) h =
      let rest = below_filled k es (second _ _ h) in
      elim (f e.1) as (λ x. T (below_all R k (with_filled e.0 x (filled f es)))) [
        | None ↦ rest
        | Some x ↦ both _ _ (first _ _ h) rest
      ]

  pub is_sorted_filled : (es : List (K × V)) → T (is_sorted R es) → T (is_sorted R (filled f es))
  is_sorted_filled [] h = tt
  is_sorted_filled (e ∷ es) h =
      let rest = is_sorted_filled es (second _ _ h) in
      elim (f e.1) as (λ x. T (is_sorted R (with_filled e.0 x (filled f es)))) [
        | None ↦ rest
        | Some x ↦ both _ _ (below_filled e.0 es (first _ _ h)) rest
      ]

  all_filled : (P : K → Type 0) (es : List (K × V)) → AllByRecursion P (keys_of es) → AllByRecursion P (keys_of (filled f es))
  all_filled P [] h = tt
  all_filled P (e ∷ es) h =
      elim (f e.1) as (λ x. AllByRecursion P (keys_of (with_filled e.0 x (filled f es)))) [
        | None ↦ all_filled P es h.1
        | Some x ↦ (h.0, all_filled P es h.1)
      ]

  -- the keys of the filled slots are strictly increasing
  pub keys_filled : (es : List (K × V)) → IsStrictlySortedBy R (keys_of es) → IsStrictlySortedBy R (keys_of (filled f es))
  unfolding IsStrictlySortedBy
  keys_filled [] h = tt
  keys_filled (e ∷ es) h =
      elim (f e.1) as (λ x. IsStrictlySortedBy R (keys_of (with_filled e.0 x (filled f es)))) [
        | None ↦ keys_filled es h.1
        | Some x ↦ (all_filled (λ y. R e.0 y ≡ Less) es h.0, keys_filled es h.1)
      ]

  below_all_of : (k : K) (es : List (K × V)) → AllByRecursion (λ y. R k y ≡ Less) (keys_of es) → T (below_all R k es)
  below_all_of k [] h = tt
  below_all_of k (e ∷ es) h = both _ _ (subst (λ r. T (is_lt r)) (sym h.0) tt) (below_all_of k es h.1)

  -- strictly increasing keys pass the test `is_sorted`
  pub is_sorted_of : (es : List (K × V)) → IsStrictlySortedBy R (keys_of es) → T (is_sorted R es)
  unfolding IsStrictlySortedBy
  is_sorted_of [] h = tt
  is_sorted_of (e ∷ es) h = both _ _ (below_all_of e.0 es h.0) (is_sorted_of es h.1)

  module _ (o : IsTotalOrder R) where
    below_tied : (k q : K) (es : List (K × V)) → R q k ≡ Equal → T (below_all R k es) → find R q es ≡ None
    below_tied k q [] t h = refl
    below_tied k q (e ∷ es) t h =
        let above : R q e.0 ≡ Less = o.congr q k e.0 t ∙ less _ (first _ _ h) in
        ap (λ r. cond (is_eq r) (Some e.1) (find R q es)) above ∙ below_tied k q es t (second _ _ h)

    -- looking up a key in the filled slots gives the content of the key's slot
    pub find_filled : (q : K) (es : List (K × V)) → T (is_sorted R es) → find R q (filled f es) ≡ option_and_then f (find R q es)
    find_filled q [] h = refl
    find_filled q (e ∷ es) h =
        let rest = find_filled q es (second _ _ h) in
        elim (eq_by_cmp R q e.0) as (λ b. eq_by_cmp R q e.0 ≡ b → find R q (with_filled e.0 (f e.1) (filled f es)) ≡ option_and_then f (cond b (Some e.1) (find R q es))) [
          | true ↦ λ t.
              let nothing = rest ∙ ap (option_and_then f) (below_tied e.0 q es (equal _ t) (first _ _ h)) in
              elim (f e.1) as (λ x. find R q (with_filled e.0 x (filled f es)) ≡ x) [
                | None ↦ nothing
                | Some x ↦ ap (λ b. cond b (Some x) (find R q (filled f es))) t
              ]
          | false ↦ λ t.
              elim (f e.1) as (λ x. find R q (with_filled e.0 x (filled f es)) ≡ option_and_then f (find R q es)) [
                | None ↦ rest
                | Some x ↦ ap (λ b. cond b (Some x) (find R q (filled f es))) t ∙ rest
              ]
        ] refl

    is_eq_back : (k q : K) → eq_by_cmp R q k ≡ is_at (R k) q
    is_eq_back k q = ap is_eq (o.antisymm q k) ∙ reversed_eq (R k q)

    module _ (exact : (x y : K) → R x y ≡ Equal → x ≡ y) where
      -- a slot gets content: the filled slots gain that entry
      pub filled_put : (es gs : List (K × V)) (k : K) (v : V) (x : X) → f v ≡ Some x → IsStrictlySortedBy R (keys_of es) → IsStrictlySortedBy R (keys_of gs) → ((q : K) → find R q gs ≡ cond (is_at (R k) q) (Some v) (find R q es)) → filled f gs ≡ put R k x (filled f es)
      filled_put es gs k v x has was is at =
          let es_rise = is_sorted_of es was in
          let gs_rise = is_sorted_of gs is in
          let split : (q : K) (b : Bool) → option_and_then f (cond b (Some v) (find R q es)) ≡ cond b (Some x) (find R q (filled f es)) = λ q b. elim b as (λ b. option_and_then f (cond b (Some v) (find R q es)) ≡ cond b (Some x) (find R q (filled f es))) [ true ↦ has | false ↦ sym (find_filled q es es_rise) ] in
          same_entries R o exact (filled f gs) (put R k x (filled f es)) (is_sorted_filled gs gs_rise) (is_sorted-put R o k x (filled f es) (is_sorted_filled es es_rise))
          (λ q. find_filled q gs gs_rise ∙ ap (option_and_then f) (at q) ∙ split q (is_at (R k) q) ∙ ap (λ b. cond b (Some x) (find R q (filled f es))) (sym (is_eq_back k q)) ∙ sym (find-put R o q k x (filled f es)))

      -- a slot is added or changed with the content its key had: the filled slots are unchanged
      pub filled_same : (es gs : List (K × V)) (k : K) (v : V) → f v ≡ option_and_then f (find R k es) → IsStrictlySortedBy R (keys_of es) → IsStrictlySortedBy R (keys_of gs) → ((q : K) → find R q gs ≡ cond (is_at (R k) q) (Some v) (find R q es)) → filled f gs ≡ filled f es
      filled_same es gs k v same was is at =
          let es_rise = is_sorted_of es was in
          let gs_rise = is_sorted_of gs is in
          let split : (q : K) (b : Bool) → is_at (R k) q ≡ b → option_and_then f (cond b (Some v) (find R q es)) ≡ option_and_then f (find R q es) = λ q b. elim b as (λ b. is_at (R k) q ≡ b → option_and_then f (cond b (Some v) (find R q es)) ≡ option_and_then f (find R q es)) [ true ↦ λ t. same ∙ ap (λ k. option_and_then f (find R k es)) (exact k q (equal _ t)) | false ↦ λ t. refl ] in
          same_entries R o exact (filled f gs) (filled f es) (is_sorted_filled gs gs_rise) (is_sorted_filled es es_rise)
          (λ q. find_filled q gs gs_rise ∙ ap (option_and_then f) (at q) ∙ split q (is_at (R k) q) refl ∙ sym (find_filled q es es_rise))
