-- The codec writes a payload's frame.
use Rattle.std.proofs.Common.{◌≡◌, ℕ, ◌<◌, ◌∙◌, true, List, [], ◌∷◌, ◌++◌, length, get_or, Some, refl, sym, ap, subst, arith, inl, inr, All, leb, le-leb, ◌-◌}
use Rattle.std.specs.Prelude.{pos}
use Rattle.std.specs.Int.{w32, from_be_bytes, to_be_bytes}
use Rattle.std.specs.Int.Digits.{number_from_digits}
use Rattle.std.proofs.lemmas.Bool.{cases_lt}
use Rattle.std.proofs.lemmas.List.{get_or_past}
use Rattle.std.proofs.lemmas.Nat.{be_bytes_4}
use Rattle.tokio_util.specs.Codec.LengthField.{Layout, IsFrameOf, sub_adjustment}
use Rattle.craq_wire.specs.NumberEncoding.{number}
use Rattle.craq_wire.proofs.NumberExact.{some_is}
use Rattle.craq_frames.specs.Frame.{frame, frame_layout}

pub digits : (field : List ℕ) → length field ≡ 4 → number_from_digits 256 field ≡ from_be_bytes w32 field
digits [] len = absurd (omega arith)
digits (a ∷ []) len = absurd (omega arith)
digits (a ∷ b ∷ []) len = absurd (omega arith)
digits (a ∷ b ∷ c ∷ []) len = absurd (omega arith)
digits (a ∷ b ∷ c ∷ d ∷ []) len = omega arith
digits (a ∷ b ∷ c ∷ d ∷ e ∷ rest) len = absurd (omega arith)

pub each_byte : (field : List ℕ) → All (λ b. b < 256) field → (i : ℕ) → get_or field i 0 < 256
each_byte field h i =
    elim (cases_lt i (length field)) [ inl within ↦ h i 0 within | inr past ↦ rw (get_or_past field i 0 past) (omega arith) ]

sub_nothing : (n v : ℕ) → sub_adjustment n (pos 0) ≡ Some v → Some n ≡ Some v
sub_nothing n v e =
    let enough : leb 0 n ≡ true = le-leb 0 n (omega arith) in
    let kept : n - 0 ≡ n = omega arith in
    let same : sub_adjustment n (pos 0) ≡ Some n = rw (enough, kept) refl in
    sym same ∙ e

framed_so : (payload f : List ℕ) → IsFrameOf frame_layout payload f → f ≡ frame payload
unfolding number
framed_so payload f h =
    let field = h.1.0 in
    let is = h.1.1 in
    let value : length payload ≡ number_from_digits 256 field = some_is (length payload) (number_from_digits 256 field) (sub_nothing (length payload) (number_from_digits 256 field) is.value) in
    let worth : length payload ≡ from_be_bytes w32 field = value ∙ digits field is.len in
    let same : to_be_bytes w32 (length payload) ≡ field = be_bytes_4 field (length payload) is.len (each_byte field is.bytes) worth in
    h.1.2 ∙ ap (λ (t : List ℕ). t ++ payload) (sym same)

pub framed_by : (l : Layout) → l ≡ frame_layout → (payload f : List ℕ) → IsFrameOf l payload f → f ≡ frame payload
framed_by l same payload f h = framed_so payload f (subst (λ (k : Layout). IsFrameOf k payload f) same h)
