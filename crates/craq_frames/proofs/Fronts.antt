-- Classifies the front of bytes by the length read there; and a frame whose length was overwritten.
use Rattle.std.proofs.Common.{◌≡◌, ℕ, ◌+◌, ◌<◌, ◌≤◌, ◌∙◌, List, ◌++◌, length, take, drop, Option, Some, None, refl, sym, ap, arith, append_assoc, length-append, length-take, take-append-drop, inl, inr}
use Rattle.std.specs.Int.{w32, from_be_bytes}
use Rattle.std.specs.Io.{StartsWith}
use Rattle.std.proofs.lemmas.Bool.{cases_lt}
use Rattle.std.proofs.lemmas.List.{take_at, drop_at, take-take}
use Rattle.craq_wire.specs.NumberEncoding.{number}
use Rattle.craq_wire.specs.NumberReading.{number_at, Fails}
use Rattle.craq_wire.specs.declared.decode_error.DecodeError.{DecodeError}
use Rattle.craq_wire.specs.declared.decode_error.DecodeError.TheVariants as unread
use Rattle.craq_wire.proofs.NumberExact.{IsBytes, wide32, u32_exact}
use Rattle.craq_frames.specs.Frame.{frame, payload_limit, BeginsTooLong, IsPartial}

-- ---- reading

none_read : {Y : Type 0} (e : DecodeError) (read : Option Y) → Fails e read → (e ≡ unread.Memory → ⊥) → read ≡ None
none_read unread.Memory read h free = absurd (free refl)
none_read unread.BadFrame read h free = h

-- no length is at the front
pub no_length : (bytes : List ℕ) (e : DecodeError) → Fails e (number_at w32 bytes) → (e ≡ unread.Memory → ⊥) → IsPartial bytes
unfolding number_at
no_length bytes e h free = elim (cases_lt (length bytes) 4) [
  | inl short ↦ inl short
  | inr long ↦
      let x : ℕ × List ℕ = (from_be_bytes w32 (take 4 bytes), drop 4 bytes) in
      let found : number_at w32 bytes ≡ Some x = grind (arith, long) in
      let not : None ≡ Some x = sym (none_read e (number_at w32 bytes) h free) ∙ found in
      absurd cc
]

module _ (bytes : List ℕ) (n : ℕ) (rest : List ℕ) (fits : IsBytes bytes) (read : number_at w32 bytes ≡ Some (n, rest)) where
  -- the length is above the limit
  pub long_length : payload_limit < n → BeginsTooLong bytes
  long_length above = let t = u32_exact.takes bytes (n, rest) fits read in (n, rest, above, t.1, t.0.parts)

  -- fewer bytes follow than the length says
  pub few_follow : n ≤ payload_limit → length rest < n → IsPartial bytes
  few_follow within lacks = let t = u32_exact.takes bytes (n, rest) fits read in inr (n, rest, within, t.0.parts, lacks)

  -- the payload follows
  pub payload_follows : n ≤ payload_limit → n ≤ length rest → (after : List ℕ) × (length (take n rest) ≤ payload_limit) × (bytes ≡ frame (take n rest) ++ after)
  payload_follows within enough =
      let t = u32_exact.takes bytes (n, rest) fits read in
      let len : length (take n rest) ≡ n = omega (arith, length-take n rest, enough) in
      let parts : bytes ≡ frame (take n rest) ++ drop n rest =
      t.0.parts ∙ ap (λ (r : List ℕ). number w32 n ++ r) (sym (take-append-drop n rest)) ∙ ap (λ (k : ℕ). number w32 k ++ (take n rest ++ drop n rest)) (sym len)
      ∙ sym (append_assoc (number w32 (length (take n rest))) (take n rest) (drop n rest)) in
      (drop n rest, omega (arith, len, within), parts)

-- ---- writing

four_bytes : (n : ℕ) → length (number w32 n) ≡ 4
unfolding number
four_bytes n = wide32.len n

pub starts_before : (xs ys zs : List ℕ) → StartsWith xs (ys ++ zs) → StartsWith xs ys
starts_before xs ys zs h =
    let shorter : length ys ≤ length (ys ++ zs) = omega (arith, length-append ys zs) in
    sym (take-take (length ys) (length (ys ++ zs)) xs shorter) ∙ ap (take (length ys)) h ∙ take_at ys zs (length ys) refl

-- `new` is `old`, a placeholder length and the payload; `set` is `new` with the payload's length
-- written over the placeholder
module _ (old new payload : List ℕ) (parts : new ≡ (old ++ number w32 0) ++ payload) where
  pub room_for_length : length old + 4 ≤ length new
  room_for_length = omega (arith, ap length parts, length-append (old ++ number w32 0) payload, length-append old (number w32 0), four_bytes 0)

  pub framed : (set : List ℕ) (start n : ℕ) → start ≡ length old → n ≡ length payload → set ≡ take start new ++ (number w32 n ++ drop (start + 4) new)
      → take (length new) (set ++ drop (length set) new) ≡ old ++ frame payload
  framed set start n at len is =
      let front : length (old ++ number w32 0) ≡ start + 4 = omega (arith, length-append old (number w32 0), four_bytes 0, at) in
      let before : take start new ≡ old = ap (take start) (parts ∙ append_assoc old (number w32 0) payload) ∙ take_at old (number w32 0 ++ payload) start (sym at) in
      let behind : drop (start + 4) new ≡ payload = ap (drop (start + 4)) parts ∙ drop_at (old ++ number w32 0) payload (start + 4) front in
      let whole : set ≡ old ++ frame payload =
      is ∙ ap (λ (x : List ℕ). x ++ (number w32 n ++ drop (start + 4) new)) before ∙ ap (λ (x : List ℕ). old ++ (number w32 n ++ x)) behind
      ∙ ap (λ (k : ℕ). old ++ (number w32 k ++ payload)) len in
      let same : length set ≡ length new =
      omega (
        arith,
        ap length whole,
        ap length parts,
        length-append old (frame payload),
        length-append (number w32 (length payload)) payload,
        four_bytes (length payload),
        length-append (old ++ number w32 0) payload,
        front,
        at,
      ) in
      take_at set (drop (length set) new) (length new) same ∙ whole
