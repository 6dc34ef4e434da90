-- The codec cuts off exactly the frames of the grammar.
use Rattle.std.proofs.Common.{◌≡◌, ℕ, ◌+◌, ◌^◌, ◌<◌, ◌≤◌, ◌↔◌, ◌≢◌, ◌∙◌, Bool, true, false, ◌&&◌, leb, ltb, List, [], ◌++◌, length, take, drop, All, Some, None, Ok, Err, le-leb, append-nil, refl, sym, ap, subst, arith, append_assoc, length-append, length-take, take-append-drop, inl, inr}
use Rattle.std.specs.Int.{w32, to_be_bytes, from_be_bytes}
use Rattle.std.specs.Int.Digits.{number_from_digits}
use Rattle.std.proofs.lemmas.Bool.{cases_lt, cond-true, lt-ltb, leb-true, ltb-true, and_from}
use Rattle.std.proofs.lemmas.List.{take_at, drop_at}
use Rattle.std.specs.IoError.{error_kind}
use Rattle.std.specs.declared.io.Error.{Error}
use Rattle.std.specs.declared.io.ErrorKind.TheVariants.{OutOfMemory}
use Rattle.bytes.specs.Filled.{Filled}
use Rattle.tokio_util.specs.declared.codec.length_delimited.LengthDelimitedCodec.{LengthDelimitedCodec}
use Rattle.tokio_util.specs.declared.codec.length_delimited.DecodeState.{DecodeState}
use Rattle.tokio_util.specs.declared.codec.length_delimited.DecodeState.TheVariants.{Head}
use Rattle.tokio_util.specs.Codec.Next.{decoded, partial, Resumes}
use Rattle.tokio_util.specs.Codec.LengthField.{Layout, field_value, add_adjustment}
use Rattle.tokio_util.specs.Codec.LengthDelimited.{frame as cut_off, too_big, overflows, codec_layout, Cut, cut_payload, cut_adjusted, cut_frame, cut_in, cut, Answers, IsUnfinished, gives_frames}
use Rattle.tokio_util.specs.Codec.LengthDelimitedLaws.{cut_payload_whole, cut_payload_short, cut_frame_short, cut_frame_big, cut_frame_head}
use Rattle.craq_wire.specs.NumberEncoding.{number}
use Rattle.craq_wire.specs.NumberReading.{number_at}
use Rattle.craq_wire.proofs.NumberExact.{IsBytes, wide32, u32_exact}
use Rattle.craq_frames.specs.Frame.{frame, frame_layout, payload_limit, BeginsTooLong, IsPartial}
use Rattle.craq_frames.specs.Reading.{is_partial, lacks_bytes}
use Rattle.craq_frames.proofs.Frames.{digits, each_byte}

-- the bytes are a length and a rest
record Headed (bytes : List ℕ) : Type 0 where
  n : ℕ
  rest : List ℕ
  few : n < 2 ^ 32
  parts : bytes ≡ number w32 n ++ rest

headed : (bytes : List ℕ) → IsBytes bytes → 4 ≤ length bytes → Headed bytes
unfolding number_at
headed bytes fits long =
    let x : ℕ × List ℕ = (from_be_bytes w32 (take 4 bytes), drop 4 bytes) in
    let found : number_at w32 bytes ≡ Some x = grind (arith, long) in
    let t = u32_exact.takes bytes x fits found in
    record { n = x.0; rest = x.1; few = t.1; parts = t.0.parts }

module _ (n : ℕ) (rest : List ℕ) (few : n < 2 ^ 32) where
  long_enough : 4 ≤ length (number w32 n ++ rest)
  unfolding number
  long_enough = omega (arith, length-append (to_be_bytes w32 n) rest, wide32.len n)

  field_is : field_value frame_layout (number w32 n ++ rest) ≡ n
  unfolding number
  field_is =
      ap (number_from_digits 256) (take_at (to_be_bytes w32 n) rest 4 (wide32.len n)) ∙ digits (to_be_bytes w32 n) (wide32.len n) ∙ wide32.again n few

  after_it : drop 4 (number w32 n ++ rest) ≡ rest
  unfolding number
  after_it = drop_at (to_be_bytes w32 n) rest 4 (wide32.len n)

  cut_long : payload_limit < n → cut_frame frame_layout (number w32 n ++ rest) ≡ too_big
  cut_long above = cut_frame_big frame_layout (number w32 n ++ rest) long_enough (omega (arith, above, field_is))

  cut_short : n ≤ payload_limit → cut_frame frame_layout (number w32 n ++ rest) ≡ cut_payload n rest
  cut_short within =
      let sum : n + 0 ≡ n = omega arith in
      cut_frame_head frame_layout (number w32 n ++ rest) long_enough (omega (arith, within, field_is))
      ∙ ap (λ (v : ℕ). cut_adjusted (add_adjustment v frame_layout.adjustment) (drop 4 (number w32 n ++ rest))) field_is
      ∙ rw sum (ap (λ o. cut_adjusted o (drop 4 (number w32 n ++ rest))) (cond-true _ _ _ (lt-ltb n (2 ^ 64) (omega (arith, few)))))
      ∙ ap (cut_payload n) after_it

  -- a payload is cut off if the length is within the limit
  cut_parts : (payload after : List ℕ) → cut_frame frame_layout (number w32 n ++ rest) ≡ cut_off payload after → (n ≡ length payload) × (n ≤ payload_limit) × (rest ≡ payload ++ after)
  cut_parts payload after e = elim (cases_lt payload_limit n) [
    | inl above ↦ let no = sym (cut_long above) ∙ e in absurd cc
    | inr within ↦ let c = sym (cut_short within) ∙ e in elim (cases_lt (length rest) n) [
      | inl lacks ↦ let no = sym (cut_payload_short n rest lacks) ∙ c in absurd cc
      | inr whole ↦
          let same : cut_off (take n rest) (drop n rest) ≡ cut_off payload after = sym (cut_payload_whole n rest whole) ∙ c in
          let p : take n rest ≡ payload = cc in
          let a : drop n rest ≡ after = cc in
          let len : n ≡ length payload = omega (arith, ap length p, length-take n rest, whole) in
          (len, within, subst (λ (x : List ℕ). rest ≡ x ++ after) p (subst (λ (y : List ℕ). rest ≡ take n rest ++ y) a (sym (take-append-drop n rest))))
    ]
  ]

  too_long_parts : cut_frame frame_layout (number w32 n ++ rest) ≡ too_big → payload_limit < n
  too_long_parts e = elim (cases_lt payload_limit n) [
    | inl above ↦ above
    | inr within ↦ let c = sym (cut_short within) ∙ e in elim (cases_lt (length rest) n) [
      | inl lacks ↦ let no = sym (cut_payload_short n rest lacks) ∙ c in absurd cc
      | inr whole ↦ let no = sym (cut_payload_whole n rest whole) ∙ c in absurd cc
    ]
  ]

  never_parts : cut_frame frame_layout (number w32 n ++ rest) ≢ overflows
  never_parts e = elim (cases_lt payload_limit n) [
    | inl above ↦ let no = sym (cut_long above) ∙ e in absurd cc
    | inr within ↦ let c = sym (cut_short within) ∙ e in elim (cases_lt (length rest) n) [
      | inl lacks ↦ let no = sym (cut_payload_short n rest lacks) ∙ c in absurd cc
      | inr whole ↦ let no = sym (cut_payload_whole n rest whole) ∙ c in absurd cc
    ]
  ]

-- ---- the laws

cut_is_frame : (bytes payload rest : List ℕ) → IsBytes bytes → cut_frame frame_layout bytes ≡ cut_off payload rest → (length payload ≤ payload_limit) × (bytes ≡ frame payload ++ rest)
cut_is_frame bytes payload rest fits e = elim (cases_lt (length bytes) 4) [
  | inl short ↦ let no = sym (cut_frame_short frame_layout bytes short) ∙ e in absurd cc
  | inr long ↦
      let h = headed bytes fits long in
      let p = cut_parts h.n h.rest h.few payload rest (ap (cut_frame frame_layout) (sym h.parts) ∙ e) in
      let split : bytes ≡ number w32 (length payload) ++ (payload ++ rest) = h.parts ∙ ap (λ (k : ℕ). number w32 k ++ h.rest) p.0 ∙ ap (λ (r : List ℕ). number w32 (length payload) ++ r) p.2 in
      (omega (arith, p.0, p.1), split ∙ sym (append_assoc (number w32 (length payload)) payload rest))
]

frame_is_cut : (bytes payload rest : List ℕ) → length payload ≤ payload_limit → bytes ≡ frame payload ++ rest → cut_frame frame_layout bytes ≡ cut_off payload rest
frame_is_cut bytes payload rest within e =
    let few : length payload < 2 ^ 32 = omega (arith, within) in
    ap (cut_frame frame_layout) (e ∙ append_assoc (number w32 (length payload)) payload rest)
    ∙ cut_short (length payload) (payload ++ rest) few within
    ∙ cut_payload_whole (length payload) (payload ++ rest) (omega (arith, length-append payload rest))
    ∙ rw (take_at payload rest (length payload) refl, drop_at payload rest (length payload) refl) refl

pub all_bytes : (bytes : List ℕ) → All (λ b. b < 2 ^ 8) bytes → IsBytes bytes
all_bytes bytes h i = each_byte bytes h i

pub whole_frames : (bytes payload rest : List ℕ) → All (λ b. b < 2 ^ 8) bytes → (cut_frame frame_layout bytes ≡ cut_off payload rest) ↔ ((length payload ≤ payload_limit) × (bytes ≡ frame payload ++ rest))
whole_frames bytes payload rest h = (λ e. cut_is_frame bytes payload rest (all_bytes bytes h) e, λ p. frame_is_cut bytes payload rest p.0 p.1)

pub long_frames : (bytes : List ℕ) → All (λ b. b < 2 ^ 8) bytes → (cut_frame frame_layout bytes ≡ too_big) ↔ BeginsTooLong bytes
long_frames bytes h = (
  λ e. elim (cases_lt (length bytes) 4) [
    | inl short ↦ let no = sym (cut_frame_short frame_layout bytes short) ∙ e in absurd cc
    | inr long ↦
        let d = headed bytes (all_bytes bytes h) long in
        let above = too_long_parts d.n d.rest d.few (ap (cut_frame frame_layout) (sym d.parts) ∙ e) in
        (d.n, d.rest, above, d.few, d.parts)
  ],
  λ b. ap (cut_frame frame_layout) b.4 ∙ cut_long b.0 b.1 b.3 b.2,
)

pub never_overflows : (bytes : List ℕ) → All (λ b. b < 2 ^ 8) bytes → cut_frame frame_layout bytes ≢ overflows
never_overflows bytes h e = elim (cases_lt (length bytes) 4) [
  | inl short ↦ let no = sym (cut_frame_short frame_layout bytes short) ∙ e in absurd cc
  | inr long ↦ let d = headed bytes (all_bytes bytes h) long in never_parts d.n d.rest d.few (ap (cut_frame frame_layout) (sym d.parts) ∙ e)
]

-- ---- at the front is less than a frame, a length above the limit, or a frame

and_true : (x y : Bool) → (x && y) ≡ true → (x ≡ true) × (y ≡ true)
and_true true y e = (refl, e)
and_true false y e = absurd cc

-- the test of less than a frame, where a length is at the front
partial_headed : (bytes : List ℕ) (fits : IsBytes bytes) (h : Headed bytes) → is_partial bytes ≡ (leb h.n payload_limit && ltb (length h.rest) h.n)
unfolding is_partial
partial_headed bytes fits h =
    let found : number_at w32 bytes ≡ Some (h.n, h.rest) = ap (number_at w32) h.parts ∙ u32_exact.again h.n h.rest h.few in
    ap lacks_bytes found

partial_short : (bytes : List ℕ) → length bytes < 4 → is_partial bytes ≡ true
unfolding is_partial number_at
partial_short bytes short = ap lacks_bytes (cond-true (ltb (length bytes) 4) None (Some (from_be_bytes w32 (take 4 bytes), drop 4 bytes)) (lt-ltb (length bytes) 4 short))

pub partial_is : (bytes : List ℕ) → IsBytes bytes → is_partial bytes ≡ true → IsPartial bytes
partial_is bytes fits t = elim (cases_lt (length bytes) 4) [
  | inl short ↦ inl short
  | inr long ↦
      let h = headed bytes fits long in
      let both = and_true (leb h.n payload_limit) (ltb (length h.rest) h.n) (sym (partial_headed bytes fits h) ∙ t) in
      inr (h.n, h.rest, leb-true _ _ both.0, h.parts, ltb-true _ _ both.1)
]

-- the codec finds a length above the limit or a frame, if the bytes are not less than a frame
pub data Found (bytes : List ℕ) : Type 0 where
  long : BeginsTooLong bytes → cut_frame frame_layout bytes ≡ too_big → Found bytes
  whole : (payload rest : List ℕ) → length payload ≤ payload_limit → bytes ≡ frame payload ++ rest → cut_frame frame_layout bytes ≡ cut_off payload rest → Found bytes

pub found : (bytes : List ℕ) → IsBytes bytes → is_partial bytes ≡ false → Found bytes
found bytes fits t = elim (cases_lt (length bytes) 4) [
  | inl short ↦ let no = sym (partial_short bytes short) ∙ t in absurd cc
  | inr enough ↦
      let h = headed bytes fits enough in
      elim (cases_lt payload_limit h.n) [
        | inl above ↦ long (h.n, h.rest, above, h.few, h.parts) (ap (cut_frame frame_layout) h.parts ∙ cut_long h.n h.rest h.few above)
        | inr within ↦ elim (cases_lt (length h.rest) h.n) [
          | inl lacks ↦
              let held : (leb h.n payload_limit && ltb (length h.rest) h.n) ≡ true = and_from _ _ (le-leb h.n payload_limit within) (lt-ltb (length h.rest) h.n lacks) in
              let no = sym held ∙ sym (partial_headed bytes fits h) ∙ t in
              absurd cc
          | inr enough_bytes ↦
              let len : length (take h.n h.rest) ≡ h.n = omega (arith, length-take h.n h.rest, enough_bytes) in
              let parts : bytes ≡ frame (take h.n h.rest) ++ drop h.n h.rest =
              h.parts ∙ ap (λ (r : List ℕ). number w32 h.n ++ r) (sym (take-append-drop h.n h.rest)) ∙ ap (λ (k : ℕ). number w32 k ++ (take h.n h.rest ++ drop h.n h.rest)) (sym len)
              ∙ sym (append_assoc (number w32 (length (take h.n h.rest))) (take h.n h.rest) (drop h.n h.rest)) in
              whole (take h.n h.rest) (drop h.n h.rest) (omega (arith, len, within)) parts
              (ap (cut_frame frame_layout) h.parts ∙ cut_short h.n h.rest h.few within ∙ cut_payload_whole h.n h.rest enough_bytes)
        ]
      ]
]

-- ---- the result of `decode` on such bytes, where the codec waits for a head

module _ (c t : LengthDelimitedCodec) (bytes ys : List ℕ) (same : codec_layout c ≡ frame_layout) (head : c.state ≡ Head) (fits : IsBytes bytes) (enough : is_partial bytes ≡ false) where
  finds : cut c bytes ≡ cut_frame frame_layout bytes
  finds = ap (λ (s : DecodeState). cut_in (codec_layout c) s bytes) head ∙ ap (λ (l : Layout). cut_frame l bytes) same

  pub decoded_frame : (b : Filled) → gives_frames c bytes (decoded (Ok b) t ys) → (length b.items ≤ payload_limit) × (bytes ≡ frame b.items ++ ys)
  decoded_frame b g = elim (found bytes fits enough) [
    | long begins e ↦ absurd (subst (λ (v : Cut). Answers c bytes v (Ok b) t ys) (finds ∙ e) g)
    | whole payload rest few parts e ↦
        let a = subst (λ (v : Cut). Answers c bytes v (Ok b) t ys) (finds ∙ e) g in
        rw (a.0, a.2) (few, parts)
  ]

  pub decoded_nothing : Resumes gives_frames c bytes t ys → gives_frames t ys partial → ⊥
  decoded_nothing resumes g =
      let again : gives_frames c bytes partial = rw append-nil at (resumes [] partial (rw append-nil g)) in
      elim (found bytes fits enough) [
        | long begins e ↦ subst IsUnfinished (finds ∙ e) again
        | whole payload rest few parts e ↦ subst IsUnfinished (finds ∙ e) again
      ]

  pub decoded_error : (e : Error) → (error_kind e ≡ OutOfMemory → ⊥) → gives_frames c bytes (decoded (Err e) t ys) → BeginsTooLong bytes × (ys ≡ bytes)
  decoded_error err other g = elim (found bytes fits enough) [
    | long begins e ↦ let a = subst (λ (v : Cut). Answers c bytes v (Err err) t ys) (finds ∙ e) g in (begins, a.2)
    | whole payload rest few parts e ↦ let a = subst (λ (v : Cut). Answers c bytes v (Err err) t ys) (finds ∙ e) g in absurd (other a.0)
  ]
