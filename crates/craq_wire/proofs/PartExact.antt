-- Reading the parts of messages is the inverse of writing them.
use Rattle.std.proofs.Common.{◌≡◌, ℕ, zero, suc, ◌^◌, ◌<◌, ◌≤◌, false, cond, eqb, ltb, List, [], ◌∷◌, ◌++◌, length, Option, Some, None, refl, sym, ap, subst, ◌∙◌, append_assoc, arith}
use Rattle.std.specs.Int.{Width, w8, w16, w64, byte_len}
use Rattle.std.specs.List.{flat_map, AllByRecursion}
use Rattle.std.proofs.lemmas.Bool.{ltb-false, le-ltb}
use Rattle.std.proofs.lemmas.List.Concat.{flat_map-cons}
use Rattle.craq_names.specs.declared.name.ObjectId.{ObjectId}
use Rattle.craq_names.specs.Limits.{value_limit}
use Rattle.craq_wire.specs.NumberEncoding.{number}
use Rattle.craq_wire.specs.NumberReading.{◌>>=◌, number_at, bytes_at}
use Rattle.craq_wire.proofs.NumberExact.{IsBytes, Takes, Takes-then, IsExact, bind_some, guard_some, some_is, step, IsWide, number_exact, number_again, u8_exact, u16_exact, u64_exact, bytes_takes, bytes_again}
use Rattle.craq_wire.specs.PartEncoding.{key, value, object, pair, IsKey, IsValue, IsObject, IsPair, counted, AreCounted}
use Rattle.craq_wire.specs.PartReading.{key_at, value_at, object_at, request_at, pair_at, many_at, counted_at, mapped}

key_takes : (bytes : List ℕ) (x : List ℕ × List ℕ) → IsBytes bytes → key_at bytes ≡ Some x → Takes bytes (key x.0) x.1 × IsKey x.0
unfolding key_at
key_takes bytes x fits e =
    let s = step (number w8) (λ n. n < 2 ^ 8) (number_at w8) u8_exact bytes (λ n. cond (eqb n.0 0) None (cond (ltb 128 n.0) None (bytes_at n.0 n.1))) x fits e in
    let n = s.0.0 in
    let some = guard_some (eqb n 0) (cond (ltb 128 n) None (bytes_at n s.0.1)) x s.3 in
    let few = guard_some (ltb 128 n) (bytes_at n s.0.1) x some.1 in
    let t = bytes_takes n s.0.1 x s.1.rest_fits few.1 in
    let both : Takes bytes (number w8 n ++ x.0) x.1 = Takes-then s.1 t.0 in
    let at_least : 1 ≤ n = grind (arith, some.0) in
    let at_most : n ≤ 128 = ltb-false _ _ few.0 in
    (subst (λ (k : ℕ). Takes bytes (number w8 k ++ x.0) x.1) (sym t.1) both, record { some = omega (arith, t.1); few = omega (arith, t.1) })

key_again : (text rest : List ℕ) → IsKey text → key_at (key text ++ rest) ≡ Some (text, rest)
unfolding key_at
key_again text rest fits =
    let len : length text < 2 ^ 8 = omega (arith, fits.few) in
    let some : eqb (length text) 0 ≡ false = grind (arith, fits.some) in
    let few : ltb 128 (length text) ≡ false = le-ltb _ _ fits.few in
    ap key_at (append_assoc (number w8 (length text)) text rest) ∙ rw (u8_exact.again (length text) (text ++ rest) len, some, few, bytes_again text rest) refl

pub key_exact : IsExact key IsKey key_at
key_exact = record { takes = key_takes; again = key_again }

value_takes : (bytes : List ℕ) (x : List ℕ × List ℕ) → IsBytes bytes → value_at bytes ≡ Some x → Takes bytes (value x.0) x.1 × IsValue x.0
unfolding value_at
value_takes bytes x fits e =
    let s = step (number w16) (λ n. n < 2 ^ 16) (number_at w16) u16_exact bytes (λ n. cond (ltb value_limit n.0) None (bytes_at n.0 n.1)) x fits e in
    let n = s.0.0 in
    let few = guard_some (ltb value_limit n) (bytes_at n s.0.1) x s.3 in
    let t = bytes_takes n s.0.1 x s.1.rest_fits few.1 in
    let both : Takes bytes (number w16 n ++ x.0) x.1 = Takes-then s.1 t.0 in
    let at_most : n ≤ value_limit = ltb-false _ _ few.0 in
    (subst (λ (k : ℕ). Takes bytes (number w16 k ++ x.0) x.1) (sym t.1) both, omega (arith, t.1))

value_again : (text rest : List ℕ) → IsValue text → value_at (value text ++ rest) ≡ Some (text, rest)
unfolding value_at
value_again text rest fits =
    let len : length text < 2 ^ 16 = omega arith in
    let few : ltb value_limit (length text) ≡ false = le-ltb _ _ fits in
    ap value_at (append_assoc (number w16 (length text)) text rest) ∙ rw (u16_exact.again (length text) (text ++ rest) len, few, bytes_again text rest) refl

pub value_exact : IsExact value IsValue value_at
value_exact = record { takes = value_takes; again = value_again }

request_takes : (bytes : List ℕ) (x : ℕ × List ℕ) → IsBytes bytes → request_at bytes ≡ Some x → Takes bytes (number w64 x.0) x.1 × (1 ≤ x.0) × (x.0 < 2 ^ 64)
unfolding request_at
request_takes bytes x fits e =
    let s = step (number w64) (λ n. n < 2 ^ 64) (number_at w64) u64_exact bytes (λ n. cond (eqb n.0 0) None (Some n)) x fits e in
    let some = guard_some (eqb s.0.0 0) (Some s.0) x s.3 in
    let at_least : 1 ≤ s.0.0 = grind (arith, some.0) in
    subst (λ (y : ℕ × List ℕ). Takes bytes (number w64 y.0) y.1 × (1 ≤ y.0) × (y.0 < 2 ^ 64)) (some_is s.0 x some.1) (s.1, at_least, s.2)

request_again : (n : ℕ) (rest : List ℕ) → (1 ≤ n) × (n < 2 ^ 64) → request_at (number w64 n ++ rest) ≡ Some (n, rest)
unfolding request_at
request_again n rest fits =
    let some : eqb n 0 ≡ false = grind (arith, fits.0) in
    rw (u64_exact.again n rest fits.1, some) refl

pub request_exact : IsExact (number w64) (λ n. (1 ≤ n) × (n < 2 ^ 64)) request_at
request_exact = record { takes = λ bytes x fits e. let t = request_takes bytes x fits e in (t.0, (t.1, t.2)); again = request_again }

-- ---- several parts

module _ {A B : Type 0} (first : A → List ℕ) (P : A → Type 0) (first_at : List ℕ → Option (A × List ℕ)) (one : IsExact first P first_at)
    (second : B → List ℕ) (Q : B → Type 0) (second_at : List ℕ → Option (B × List ℕ)) (two : IsExact second Q second_at) where
  pair_takes : (bytes : List ℕ) (x : (A × B) × List ℕ) → IsBytes bytes → pair_at first_at second_at bytes ≡ Some x → Takes bytes (pair first second x.0) x.1 × IsPair P Q x.0
  unfolding pair_at
  pair_takes bytes x fits e =
      let a = step first P first_at one bytes (λ a. second_at a.1 >>= λ b. Some ((a.0, b.0), b.1)) x fits e in
      let b = step second Q second_at two a.0.1 (λ b. Some ((a.0.0, b.0), b.1)) x a.1.rest_fits a.3 in
      let both : Takes bytes (first a.0.0 ++ second b.0.0) b.0.1 = Takes-then a.1 b.1 in
      subst (λ (y : (A × B) × List ℕ). Takes bytes (pair first second y.0) y.1 × IsPair P Q y.0) (some_is ((a.0.0, b.0.0), b.0.1) x b.3) (both, (a.2, b.2))

  pair_again : (p : A × B) (rest : List ℕ) → IsPair P Q p → pair_at first_at second_at (pair first second p ++ rest) ≡ Some (p, rest)
  unfolding pair_at
  pair_again p rest fits =
      ap (pair_at first_at second_at) (append_assoc (first p.0) (second p.1) rest) ∙ rw (one.again p.0 (second p.1 ++ rest) fits.0, two.again p.1 rest fits.1) refl

  pub pair_exact : IsExact (pair first second) (IsPair P Q) (pair_at first_at second_at)
  pair_exact = record { takes = pair_takes; again = pair_again }

object_takes : (bytes : List ℕ) (x : ObjectId × List ℕ) → IsBytes bytes → object_at bytes ≡ Some x → Takes bytes (object x.0) x.1 × IsObject x.0
unfolding object_at
object_takes bytes x fits e =
    let a = step (number w16) (λ n. n < 2 ^ 16) (number_at w16) u16_exact bytes (λ chain. key_at chain.1 >>= λ k. Some (record { chain = chain.0; key = k.0 }, k.1)) x fits e in
    let b = step key IsKey key_at key_exact a.0.1 (λ k. Some (record { chain = a.0.0; key = k.0 }, k.1)) x a.1.rest_fits a.3 in
    let made : ObjectId × List ℕ = (record { chain = a.0.0; key = b.0.0 }, b.0.1) in
    subst (λ (y : ObjectId × List ℕ). Takes bytes (object y.0) y.1 × IsObject y.0) (some_is made x b.3) (Takes-then a.1 b.1, record { chain = a.2; key = b.2 })

object_again : (o : ObjectId) (rest : List ℕ) → IsObject o → object_at (object o ++ rest) ≡ Some (o, rest)
unfolding object_at
object_again o rest fits =
    ap object_at (append_assoc (number w16 o.chain) (key o.key) rest) ∙ rw (u16_exact.again o.chain (key o.key ++ rest) fits.chain, key_exact.again o.key rest fits.key) refl

pub object_exact : IsExact object IsObject object_at
object_exact = record { takes = object_takes; again = object_again }

module _ {A : Type 0} (encoding : A → List ℕ) (fits : A → Type 0) (part : List ℕ → Option (A × List ℕ)) (exact : IsExact encoding fits part) where
  pub many_takes : (n : ℕ) (bytes : List ℕ) (x : List A × List ℕ) → IsBytes bytes → many_at part n bytes ≡ Some x
      → Takes bytes (flat_map encoding x.0) x.1 × (length x.0 ≡ n) × AllByRecursion fits x.0
  unfolding many_at
  many_takes zero bytes x h e =
      subst (λ (y : List A × List ℕ). Takes bytes (flat_map encoding y.0) y.1 × (length y.0 ≡ 0) × AllByRecursion fits y.0) (some_is ([], bytes) x e) (record { parts = refl; rest_fits = h }, refl, tt)
  many_takes (suc n) bytes x h e =
      let a = step encoding fits part exact bytes (λ first. many_at part n first.1 >>= λ others. Some (first.0 ∷ others.0, others.1)) x h e in
      let b = bind_some (many_at part n a.0.1) (λ others. Some (a.0.0 ∷ others.0, others.1)) x a.3 in
      let t = many_takes n a.0.1 b.0 a.1.rest_fits b.1 in
      let both : Takes bytes (encoding a.0.0 ++ flat_map encoding b.0.0) b.0.1 = Takes-then a.1 t.0 in
      let made : List A × List ℕ = (a.0.0 ∷ b.0.0, b.0.1) in
      subst (λ (y : List A × List ℕ). Takes bytes (flat_map encoding y.0) y.1 × (length y.0 ≡ suc n) × AllByRecursion fits y.0) (some_is made x b.2) (rw flat_map-cons both, ap suc t.1, (a.2, t.2))

  pub many_again : (xs : List A) (rest : List ℕ) → AllByRecursion fits xs → many_at part (length xs) (flat_map encoding xs ++ rest) ≡ Some (xs, rest)
  unfolding many_at
  many_again [] rest h = refl
  many_again (a ∷ xs) rest h =
      let regrouped : flat_map encoding (a ∷ xs) ++ rest ≡ encoding a ++ (flat_map encoding xs ++ rest) = ap (λ (x : List ℕ). x ++ rest) (flat_map-cons encoding a xs) ∙ append_assoc (encoding a) (flat_map encoding xs) rest in
      ap (many_at part (suc (length xs))) regrouped ∙ rw (exact.again a (flat_map encoding xs ++ rest) h.0, many_again xs rest h.1) refl

  pub counted_exact : (w : Width) → IsWide w (256 ^ byte_len w) → IsExact (counted w encoding) (AreCounted w fits) (counted_at w part)
  unfolding counted_at
  counted_exact w wide = record {
    takes = λ bytes x h e.
        let s = step (number w) (λ n. n < 256 ^ byte_len w) (number_at w) (number_exact w (256 ^ byte_len w) wide) bytes (λ n. many_at part n.0 n.1) x h e in
        let t = many_takes s.0.0 s.0.1 x s.1.rest_fits s.3 in
        let both : Takes bytes (number w s.0.0 ++ flat_map encoding x.0) x.1 = Takes-then s.1 t.0 in
        (subst (λ (k : ℕ). Takes bytes (number w k ++ flat_map encoding x.0) x.1) (sym t.1) both, record { few = subst (λ (k : ℕ). k < 256 ^ byte_len w) (sym t.1) s.2; each = t.2 });
    again = λ xs rest h.
        ap (counted_at w part) (append_assoc (number w (length xs)) (flat_map encoding xs) rest) ∙ rw (number_again w (256 ^ byte_len w) wide (length xs) (flat_map encoding xs ++ rest) h.few) (many_again xs rest h.each);
  }

  -- a part seen as another value
  module _ {B : Type 0} (f : A → B) (g : B → A) (others : B → List ℕ) (kind : B → Type 0) (into : (a : A) → fits a → kind (f a)) (back : (b : B) → kind b → fits (g b))
      (whole : (b : B) → f (g b) ≡ b) (alike : (a : A) → others (f a) ≡ encoding a) where
    pub mapped_takes : (bytes : List ℕ) (x : B × List ℕ) → IsBytes bytes → mapped f (part bytes) ≡ Some x → Takes bytes (others x.0) x.1 × kind x.0
    mapped_takes bytes x h e =
        let s = step encoding fits part exact bytes (λ y. Some (f y.0, y.1)) x h e in
        subst (λ (y : B × List ℕ). Takes bytes (others y.0) y.1 × kind y.0) (some_is (f s.0.0, s.0.1) x s.3) (subst (λ (t : List ℕ). Takes bytes t s.0.1) (sym (alike s.0.0)) s.1, into s.0.0 s.2)

    pub mapped_again : (b : B) (rest : List ℕ) → kind b → mapped f (part (others b ++ rest)) ≡ Some (b, rest)
    mapped_again b rest h =
        let same : others b ≡ encoding (g b) = ap others (sym (whole b)) ∙ alike (g b) in
        rw (same, exact.again (g b) rest (back b h)) (ap (λ (y : B). Some (y, rest)) (whole b))

    pub mapped_exact : IsExact others kind (λ bytes. mapped f (part bytes))
    mapped_exact = record { takes = mapped_takes; again = mapped_again }
