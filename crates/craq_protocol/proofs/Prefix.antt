-- Prefixes of lists.
use Rattle.std.proofs.Common.{Some, ◌≡◌, ℕ, zero, suc, ◌≤◌, List, [], ◌∷◌, ◌++◌, length, take, drop, slice_get, refl, ap, sym, subst, ◌∙◌, arith, append-nil, append_assoc, length-append, take_at, take-append-drop, take-take}
use Rattle.std.proofs.lemmas.List.{take-append-le}
use Rattle.craq_protocol.specs.Promises.{IsPrefix}
use Rattle.craq_protocol.specs.Machine.{entry_at}

pub prefix_self : {A : Type 0} → (xs : List A) → IsPrefix xs xs
prefix_self {A} xs = record { rest = []; is = append-nil xs }

pub prefix_nil : {A : Type 0} → (xs : List A) → IsPrefix [] xs
prefix_nil {A} xs = record { rest = xs; is = refl }

pub prefix_trans : {A : Type 0} → {xs ys zs : List A} → IsPrefix xs ys → IsPrefix ys zs → IsPrefix xs zs
prefix_trans {A} {xs} {ys} {zs} p q = record {
  rest = p.rest ++ q.rest;
  is = sym (append_assoc xs p.rest q.rest) ∙ (ap (λ l. l ++ q.rest) p.is ∙ q.is);
}

pub prefix_more : {A : Type 0} → (xs ys : List A) → IsPrefix xs (xs ++ ys)
prefix_more {A} xs ys = record { rest = ys; is = refl }

pub prefix_length : {A : Type 0} → {xs ys : List A} → IsPrefix xs ys → length xs ≤ length ys
prefix_length {A} {xs} {ys} p = omega (arith, length-append xs p.rest, ap length p.is)

pub prefix_take : {A : Type 0} → (k : ℕ) (xs : List A) → IsPrefix (take k xs) xs
prefix_take {A} k xs = record { rest = drop k xs; is = take-append-drop k xs }

-- the first elements of ys, as many as its prefix has, are the prefix
pub prefix_is_take : {A : Type 0} → {xs ys : List A} → IsPrefix xs ys → take (length xs) ys ≡ xs
prefix_is_take {A} {xs} {ys} p = rw (← p.is) (take_at xs p.rest (length xs) refl)

pub prefix_both : {A : Type 0} → {xs ys zs : List A} → IsPrefix xs zs → IsPrefix ys zs → length xs ≤ length ys → IsPrefix xs ys
prefix_both {A} {xs} {ys} {zs} p q le =
    let e : take (length xs) ys ≡ xs =
    ap (take (length xs)) (sym (prefix_is_take q)) ∙ (take-take (length xs) (length ys) zs le ∙ prefix_is_take p)
    in
    let P : List A → Type 0 = λ l. IsPrefix l ys in subst P e (prefix_take (length xs) ys)

-- a prefix and the longer history have equal first elements
pub take_prefix : {A : Type 0} → (k : ℕ) {xs ys : List A} → IsPrefix xs ys → k ≤ length xs → take k ys ≡ take k xs
take_prefix {A} k {xs} {ys} p le = ap (take k) (sym p.is) ∙ take-append-le k xs p.rest le

pub prefix_within : {A : Type 0} → (k : ℕ) {xs ys : List A} → IsPrefix xs ys → k ≤ length xs → IsPrefix (take k ys) xs
prefix_within {A} k {xs} {ys} p le = let P : List A → Type 0 = λ l. IsPrefix l xs in subst P (sym (take_prefix k p le)) (prefix_take k xs)

-- a list within the first k of a longer one is within this one, once it has k
pub prefix_reached : {A : Type 0} → (k : ℕ) {log xs ys : List A} → IsPrefix log (take k ys) → IsPrefix xs ys → k ≤ length xs → IsPrefix log xs
prefix_reached {A} k l p le = prefix_trans l (prefix_within k p le)

cons_prefix : {A : Type 0} → (y : A) {us vs : List A} → IsPrefix us vs → IsPrefix (y ∷ us) (y ∷ vs)
cons_prefix {A} y r = record { rest = r.rest; is = ap (λ l. y ∷ l) r.is }

take_more : {A : Type 0} → (k : ℕ) (xs rest : List A) → IsPrefix (take k xs) (take k (xs ++ rest))
take_more {A} zero xs rest = prefix_nil []
take_more {A} (suc k) [] rest = prefix_nil (take (suc k) rest)
take_more {A} (suc k) (x ∷ xs) rest = cons_prefix x (take_more k xs rest)

-- the first k of a longer list are no fewer
pub take_grows : {A : Type 0} → (k : ℕ) {xs ys : List A} → IsPrefix xs ys → IsPrefix (take k xs) (take k ys)
take_grows {A} k {xs} {ys} p = let P : List A → Type 0 = λ l. IsPrefix (take k xs) (take k l) in subst P p.is (take_more k xs p.rest)

get_left : {A : Type 0} → (xs ys : List A) (i : ℕ) (x : A) → slice_get xs i ≡ Some x → slice_get (xs ++ ys) i ≡ Some x
get_left {A} [] ys i x e = cc
get_left {A} (y ∷ xs) ys zero x e = e
get_left {A} (y ∷ xs) ys (suc i) x e = get_left xs ys i x e

pub entry_at_grows : {A : Type 0} → {xs ys : List A} → IsPrefix xs ys → (i : ℕ) (x : A) → entry_at xs i ≡ Some x → entry_at ys i ≡ Some x
unfolding entry_at
entry_at_grows {A} p zero x e = cc
entry_at_grows {A} {xs} {ys} p (suc i) x e = let P : List A → Type 0 = λ l. slice_get l i ≡ Some x in subst P p.is (get_left xs p.rest i x e)

head_of : {A : Type 0} → (ys : List A) (x : A) → slice_get ys 0 ≡ Some x → IsPrefix (x ∷ []) ys
head_of {A} [] x e = cc
head_of {A} (y ∷ ys) x e = record { rest = ys; is = cc }

get_behind : {A : Type 0} → (xs ys : List A) (x : A) → slice_get (xs ++ ys) (length xs) ≡ Some x → IsPrefix (x ∷ []) ys
get_behind {A} [] ys x e = head_of ys x e
get_behind {A} (y ∷ xs) ys x e = get_behind xs ys x e

-- the next element
pub prefix_next : {A : Type 0} → {xs ys : List A} → IsPrefix xs ys → (x : A) → entry_at ys (suc (length xs)) ≡ Some x → IsPrefix (xs ++ x ∷ []) ys
unfolding entry_at
prefix_next {A} {xs} {ys} p x e =
    let at : slice_get (xs ++ p.rest) (length xs) ≡ Some x = rw p.is e in
    let h : IsPrefix (x ∷ []) p.rest = get_behind xs p.rest x at in
    record { rest = h.rest; is = append_assoc xs (x ∷ []) h.rest ∙ (ap (λ l. xs ++ l) h.is ∙ p.is) }

-- the first k of a history stay as it grows
pub prefix_taken : {A : Type 0} → (k : ℕ) {xs ys log : List A} → IsPrefix xs ys → k ≤ length xs → IsPrefix (take k xs) log → IsPrefix (take k ys) log
prefix_taken {A} k {xs} {ys} {log} p le h = let P : List A → Type 0 = λ l. IsPrefix l log in subst P (sym (take_prefix k p le)) h
