-- Reading a tag and what follows it is the inverse of writing them.
use Rattle.std.proofs.Common.{◌≡◌, ℕ, ◌^◌, ◌<◌, List, [], ◌++◌, Option, Some, refl, sym, ap, subst, ◌∙◌, append_assoc}
use Rattle.std.specs.Int.{w8}
use Rattle.craq_wire.specs.NumberEncoding.{number}
use Rattle.craq_wire.specs.NumberReading.{◌>>=◌, number_at}
use Rattle.craq_wire.proofs.NumberExact.{IsBytes, Takes, Takes-then, IsExact, some_is, step, u8_exact}
use Rattle.craq_wire.specs.PartReading.{mapped}

-- a tag and what follows it are read as they are written
pub record IsTagged {X : Type 0} (tag_of : X → ℕ) (body : X → List ℕ) (fits : X → Type 0) (body_at : ℕ → List ℕ → Option (X × List ℕ)) : Type 0 where
  pub small : (x : X) → tag_of x < 2 ^ 8
  pub takes : (tag : ℕ) (bytes : List ℕ) (x : X × List ℕ) → IsBytes bytes → body_at tag bytes ≡ Some x → (Takes bytes (body x.0) x.1 × fits x.0) × (tag_of x.0 ≡ tag)
  pub again : (x : X) (rest : List ℕ) → fits x → body_at (tag_of x) (body x ++ rest) ≡ Some (x, rest)

module _ {X : Type 0} (tag_of : X → ℕ) (body : X → List ℕ) (fits : X → Type 0) where
  -- the case of one tag, made of a part that is read
  pub one_case : {A : Type 0} (encoding : A → List ℕ) (P : A → Type 0) (part : List ℕ → Option (A × List ℕ)) → IsExact encoding P part
      → (f : A → X) → ((a : A) → body (f a) ≡ encoding a) → ((a : A) → P a → fits (f a)) → (tag : ℕ) → ((a : A) → tag_of (f a) ≡ tag)
      → (bytes : List ℕ) (x : X × List ℕ) → IsBytes bytes → mapped f (part bytes) ≡ Some x → (Takes bytes (body x.0) x.1 × fits x.0) × (tag_of x.0 ≡ tag)
  one_case encoding P part exact f same into tag named bytes x h e =
      let s = step encoding P part exact bytes (λ y. Some (f y.0, y.1)) x h e in
      subst (λ (y : X × List ℕ). (Takes bytes (body y.0) y.1 × fits y.0) × (tag_of y.0 ≡ tag)) (some_is (f s.0.0, s.0.1) x s.3)
      ((subst (λ (t : List ℕ). Takes bytes t s.0.1) (sym (same s.0.0)) s.1, into s.0.0 s.2), named s.0.0)

  -- a tag that stands for one value
  pub bare_case : (y : X) → body y ≡ [] → fits y → (bytes : List ℕ) (x : X × List ℕ) → IsBytes bytes → Some (y, bytes) ≡ Some x → (Takes bytes (body x.0) x.1 × fits x.0) × (tag_of x.0 ≡ tag_of y)
  bare_case y empty fit bytes x h e =
      subst (λ (z : X × List ℕ). (Takes bytes (body z.0) z.1 × fits z.0) × (tag_of z.0 ≡ tag_of y)) (some_is (y, bytes) x e)
      ((record { parts = ap (λ (t : List ℕ). t ++ bytes) (sym empty); rest_fits = h }, fit), refl)

  pub tagged_exact : (body_at : ℕ → List ℕ → Option (X × List ℕ)) → IsTagged tag_of body fits body_at
      → IsExact (λ x. number w8 (tag_of x) ++ body x) fits (λ bytes. number_at w8 bytes >>= λ tag. body_at tag.0 tag.1)
  tagged_exact body_at tagged = record {
    takes = λ bytes x h e.
        let s = step (number w8) (λ n. n < 2 ^ 8) (number_at w8) u8_exact bytes (λ tag. body_at tag.0 tag.1) x h e in
        let t = tagged.takes s.0.0 s.0.1 x s.1.rest_fits s.3 in
        let both : Takes bytes (number w8 s.0.0 ++ body x.0) x.1 = Takes-then s.1 t.0.0 in
        (subst (λ (k : ℕ). Takes bytes (number w8 k ++ body x.0) x.1) (sym t.1) both, t.0.1);
    again = λ x rest h.
        ap (λ (bytes : List ℕ). number_at w8 bytes >>= λ tag. body_at tag.0 tag.1) (append_assoc (number w8 (tag_of x)) (body x) rest)
        ∙ rw (u8_exact.again (tag_of x) (body x ++ rest) (tagged.small x)) (tagged.again x rest h);
  }
