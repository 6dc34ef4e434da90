-- A reader takes exactly the encoding of its value from the front, and reads an encoding back
-- whatever follows it.
use Rattle.std.proofs.Common.{◌≡◌, ℕ, ◌+◌, ◌^◌, ◌%◌, ◌<◌, ◌≤◌, Bool, true, false, cond, eqb, ltb, List, [], ◌∷◌, ◌++◌, length, get_or, take, drop, Option, Some, None, refl, sym, ap, subst, ◌∙◌, append_assoc, arith, inl, inr}
use Rattle.std.specs.Int.{Width, w8, w16, w32, w64, byte_len, from_be_bytes, to_be_bytes}
use Rattle.std.proofs.lemmas.Bool.{cases_lt, eqb-true, ltb-false, le-ltb}
use Rattle.std.proofs.lemmas.List.{take_at, drop_at, take-append-drop, length-append, length-take, get_or-drop, get_or-take, get_or_past}
use Rattle.std.proofs.lemmas.Nat.{be_bytes_2, be_bytes_4, be_bytes_8, from_be_bytes-to_be_bytes_2, from_be_bytes-to_be_bytes_4, from_be_bytes-to_be_bytes_8}
use Rattle.craq_wire.specs.NumberEncoding.{number}
use Rattle.craq_wire.specs.NumberReading.{◌>>=◌, number_at, bytes_at}

abbrev pub IsBytes : List ℕ → Type 0
IsBytes bytes = (i : ℕ) → get_or bytes i 0 < 256

IsBytes-drop : (n : ℕ) (bytes : List ℕ) → IsBytes bytes → IsBytes (drop n bytes)
IsBytes-drop n bytes h i = rw get_or-drop (h (n + i))

IsBytes-take : (n : ℕ) (bytes : List ℕ) → IsBytes bytes → IsBytes (take n bytes)
IsBytes-take n bytes h i =
    elim (cases_lt i n) [
      | inl lt ↦ rw (get_or-take n bytes i 0 lt) (h i)
      | inr le ↦ rw (get_or_past (take n bytes) i 0 (omega (arith, length-take n bytes))) (omega arith)
    ]

-- the bytes are a text that a reader took, and the rest
pub record Takes (bytes text rest : List ℕ) : Type 0 where
  pub parts : bytes ≡ text ++ rest
  pub rest_fits : IsBytes rest

pub Takes-then : {a x b y c : List ℕ} → Takes a x b → Takes b y c → Takes a (x ++ y) c
Takes-then {a} {x} {b} {y} {c} p q = record { parts = p.parts ∙ ap (λ (t : List ℕ). x ++ t) q.parts ∙ sym (append_assoc x y c); rest_fits = q.rest_fits }

-- a reader takes exactly the encoding of its value, and reads every encoding back
pub record IsExact {A : Type 0} (encoding : A → List ℕ) (fits : A → Type 0) (part : List ℕ → Option (A × List ℕ)) : Type 0 where
  pub takes : (bytes : List ℕ) (x : A × List ℕ) → IsBytes bytes → part bytes ≡ Some x → Takes bytes (encoding x.0) x.1 × fits x.0
  pub again : (a : A) (rest : List ℕ) → fits a → part (encoding a ++ rest) ≡ Some (a, rest)

-- a step that succeeded has a value
pub bind_some : {A B : Type 0} (r : Option A) (f : A → Option B) (y : B) → (r >>= f) ≡ Some y → (x : A) × (r ≡ Some x) × (f x ≡ Some y)
bind_some (Some x) f y e = (x, refl, e)
bind_some None f y e = absurd cc

-- a test that was passed
pub guard_some : {A : Type 0} (b : Bool) (r : Option A) (y : A) → cond b None r ≡ Some y → (b ≡ false) × (r ≡ Some y)
guard_some true r y e = absurd cc
guard_some false r y e = (refl, e)

pub some_is : {A : Type 0} (x y : A) → Some x ≡ Some y → x ≡ y
some_is x y e = cc

-- the first step of a reading, and the reading that goes on from there
pub step : {A B : Type 0} (encoding : A → List ℕ) (fits : A → Type 0) (part : List ℕ → Option (A × List ℕ)) → IsExact encoding fits part
    → (bytes : List ℕ) (f : A × List ℕ → Option B) (y : B) → IsBytes bytes → (part bytes >>= f) ≡ Some y
    → (x : A × List ℕ) × Takes bytes (encoding x.0) x.1 × fits x.0 × (f x ≡ Some y)
step encoding fits part exact bytes f y h e =
    let b = bind_some (part bytes) f y e in
    let t = exact.takes bytes b.0 h b.1 in
    (b.0, t.0, t.1, b.2)

-- ---- numbers

pub record IsWide (w : Width) (limit : ℕ) : Type 0 where
  pub len : (n : ℕ) → length (to_be_bytes w n) ≡ byte_len w
  pub back : (bytes : List ℕ) → length bytes ≡ byte_len w → IsBytes bytes → to_be_bytes w (from_be_bytes w bytes) ≡ bytes
  pub again : (n : ℕ) → n < limit → from_be_bytes w (to_be_bytes w n) ≡ n
  pub below : (bytes : List ℕ) → IsBytes bytes → from_be_bytes w bytes < limit

one_byte : (bytes : List ℕ) → length bytes ≡ 1 → IsBytes bytes → to_be_bytes w8 (from_be_bytes w8 bytes) ≡ bytes
one_byte [] len fits = absurd (omega arith)
one_byte (b ∷ []) len fits = let lt : b < 256 = fits 0 in let e : b % 256 ≡ b = omega arith in ap (λ (x : ℕ). x ∷ []) e
one_byte (b ∷ c ∷ bytes) len fits = absurd (omega arith)

pub wide8 : IsWide w8 (2 ^ 8)
wide8 = record {
  len = λ n. refl;
  back = one_byte;
  again = λ n lt. omega arith;
  below = λ bytes fits. omega (arith, fits 0);
}

pub wide16 : IsWide w16 (2 ^ 16)
wide16 = record {
  len = λ n. refl;
  back = λ bytes len fits. be_bytes_2 bytes _ len fits refl;
  again = λ n lt. from_be_bytes-to_be_bytes_2 n lt;
  below = λ bytes fits. omega (arith, fits 0, fits 1);
}

pub wide32 : IsWide w32 (2 ^ 32)
wide32 = record {
  len = λ n. refl;
  back = λ bytes len fits. be_bytes_4 bytes _ len fits refl;
  again = λ n lt. from_be_bytes-to_be_bytes_4 n lt;
  below = λ bytes fits. omega (arith, fits 0, fits 1, fits 2, fits 3);
}

pub wide64 : IsWide w64 (2 ^ 64)
wide64 = record {
  len = λ n. refl;
  back = λ bytes len fits. be_bytes_8 bytes _ len fits refl;
  again = λ n lt. from_be_bytes-to_be_bytes_8 n lt;
  below = λ bytes fits. omega (arith, fits 0, fits 1, fits 2, fits 3, fits 4, fits 5, fits 6, fits 7);
}

number_takes : (w : Width) (limit : ℕ) → IsWide w limit → (bytes : List ℕ) (x : ℕ × List ℕ) → IsBytes bytes → number_at w bytes ≡ Some x → Takes bytes (number w x.0) x.1 × (x.0 < limit)
unfolding number_at number
number_takes w limit wide bytes x fits e =
    let k = byte_len w in
    let g = guard_some (ltb (length bytes) k) (Some (from_be_bytes w (take k bytes), drop k bytes)) x e in
    let long : k ≤ length bytes = ltb-false _ _ g.0 in
    let front = IsBytes-take k bytes fits in
    let back = wide.back (take k bytes) (omega (arith, length-take k bytes)) front in
    let whole : Takes bytes (to_be_bytes w (from_be_bytes w (take k bytes))) (drop k bytes) = record { parts = sym (take-append-drop k bytes) ∙ ap (λ (t : List ℕ). t ++ drop k bytes) (sym back); rest_fits = IsBytes-drop k bytes fits } in
    subst (λ (y : ℕ × List ℕ). Takes bytes (to_be_bytes w y.0) y.1 × (y.0 < limit)) (some_is (from_be_bytes w (take k bytes), drop k bytes) x g.1) (whole, wide.below (take k bytes) front)

pub number_again : (w : Width) (limit : ℕ) → IsWide w limit → (n : ℕ) (rest : List ℕ) → n < limit → number_at w (number w n ++ rest) ≡ Some (n, rest)
unfolding number_at number
number_again w limit wide n rest lt =
    let len = wide.len n in
    let long : ltb (length (to_be_bytes w n ++ rest)) (byte_len w) ≡ false = le-ltb _ _ (omega (arith, length-append (to_be_bytes w n) rest)) in
    rw (long, take_at (to_be_bytes w n) rest (byte_len w) len, drop_at (to_be_bytes w n) rest (byte_len w) len, wide.again n lt) refl

pub number_exact : (w : Width) (limit : ℕ) → IsWide w limit → IsExact (number w) (λ n. n < limit) (number_at w)
number_exact w limit wide = record { takes = number_takes w limit wide; again = number_again w limit wide }

pub u8_exact : IsExact (number w8) (λ n. n < 2 ^ 8) (number_at w8)
u8_exact = number_exact w8 (2 ^ 8) wide8

pub u16_exact : IsExact (number w16) (λ n. n < 2 ^ 16) (number_at w16)
u16_exact = number_exact w16 (2 ^ 16) wide16

pub u32_exact : IsExact (number w32) (λ n. n < 2 ^ 32) (number_at w32)
u32_exact = number_exact w32 (2 ^ 32) wide32

pub u64_exact : IsExact (number w64) (λ n. n < 2 ^ 64) (number_at w64)
u64_exact = number_exact w64 (2 ^ 64) wide64

-- ---- bytes

pub bytes_takes : (n : ℕ) (bytes : List ℕ) (x : List ℕ × List ℕ) → IsBytes bytes → bytes_at n bytes ≡ Some x → Takes bytes x.0 x.1 × (length x.0 ≡ n)
unfolding bytes_at
bytes_takes n bytes x fits e =
    let g = guard_some (ltb (length bytes) n) (Some (take n bytes, drop n bytes)) x e in
    let long : n ≤ length bytes = ltb-false _ _ g.0 in
    let whole : Takes bytes (take n bytes) (drop n bytes) = record { parts = sym (take-append-drop n bytes); rest_fits = IsBytes-drop n bytes fits } in
    subst (λ (y : List ℕ × List ℕ). Takes bytes y.0 y.1 × (length y.0 ≡ n)) (some_is (take n bytes, drop n bytes) x g.1) (whole, omega (arith, length-take n bytes))

pub bytes_again : (text rest : List ℕ) → bytes_at (length text) (text ++ rest) ≡ Some (text, rest)
unfolding bytes_at
bytes_again text rest =
    let long : ltb (length (text ++ rest)) (length text) ≡ false = le-ltb _ _ (omega (arith, length-append text rest)) in
    rw (long, take_at text rest (length text) refl, drop_at text rest (length text) refl) refl

-- a reading chosen by a test
pub chosen : {A : Type 0} (n k : ℕ) (here there : Option A) (y : A) → cond (eqb n k) here there ≡ Some y → (P : ℕ → Type 0) → (here ≡ Some y → P k) → (there ≡ Some y → P n) → P n
chosen n k here there y e P one other =
    elim (eqb n k) as (λ b. eqb n k ≡ b → cond b here there ≡ Some y → P n) [
      | true ↦ λ t r. subst P (sym (eqb-true n k t)) (one r)
      | false ↦ λ t r. other r
    ] refl e
