-- SipHash-1-3 as functions of its state, by words of 8 bytes.
use Rattle.std.specs.Prelude.{ℕ, suc, zero, ◌+◌, ◌*◌, ◌/◌, ◌%◌, ◌^◌, List, [], ◌∷◌, length, take, drop, bit_xor}
use Rattle.std.specs.Int.{w64, from_le_bytes, rotate_left}
use Rattle.craq_key_map.specs.declared.sip.Sip.{Sip}

-- the state with the words k0 and k1 of the key
unfoldable pub opened : ℕ → ℕ → Sip
opened k0 k1 = record { v0 = bit_xor k0 0x736f_6d65_7073_6575; v1 = bit_xor k1 0x646f_7261_6e64_6f6d; v2 = bit_xor k0 0x6c79_6765_6e65_7261; v3 = bit_xor k1 0x7465_6462_7974_6573 }

-- the state after one SipRound
unfoldable pub rounded : Sip → Sip
rounded s =
    let a0 = (s.v0 + s.v1) % 2 ^ 64 in
    let a2 = (s.v2 + s.v3) % 2 ^ 64 in
    let a1 = bit_xor (rotate_left w64 s.v1 13) a0 in
    let a3 = bit_xor (rotate_left w64 s.v3 16) a2 in
    let b2 = (a2 + a1) % 2 ^ 64 in
    let b0 = (rotate_left w64 a0 32 + a3) % 2 ^ 64 in
    record { v0 = b0; v1 = bit_xor (rotate_left w64 a1 17) b2; v2 = rotate_left w64 b2 32; v3 = bit_xor (rotate_left w64 a3 21) b0 }

-- the state after one more word
unfoldable pub with_word : Sip → ℕ → Sip
with_word s m =
    let t = rounded (record { v0 = s.v0; v1 = s.v1; v2 = s.v2; v3 = bit_xor s.v3 m }) in
    record { v0 = bit_xor t.v0 m; v1 = t.v1; v2 = t.v2; v3 = t.v3 }

-- the hash of the words so far
unfoldable pub finished : Sip → ℕ
finished s =
    let t = rounded (rounded (rounded (record { v0 = s.v0; v1 = s.v1; v2 = bit_xor s.v2 255; v3 = s.v3 }))) in
    bit_xor (bit_xor (bit_xor t.v0 t.v1) t.v2) t.v3

-- the word of a count and these bytes behind it
unfoldable pub last_word : ℕ → List ℕ → ℕ
last_word count [] = count
last_word count (b ∷ bs) = last_word (((count * 256) % 2 ^ 64 + b) % 2 ^ 64) bs

-- the state after n words of these bytes, and a last word of the count and the other bytes
unfoldable pub absorbed : ℕ → Sip → ℕ → List ℕ → Sip
absorbed zero s count bs = with_word s (last_word count bs)
absorbed (suc n) s count bs = absorbed n (with_word s (from_le_bytes w64 (take 8 bs))) count (drop 8 bs)

-- the hash of bytes: of their whole words, and of their count with the bytes that are left
abbrev pub digest_of : Sip → List ℕ → ℕ
digest_of s bs = finished (absorbed (length bs / 8) s (length bs) bs)
