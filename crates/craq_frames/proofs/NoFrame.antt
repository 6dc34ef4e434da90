-- No frame stands in front of less than a frame.
use Rattle.std.proofs.Common.{◌≡◌, ℕ, ◌<◌, ◌≤◌, ◌∙◌, List, ◌++◌, length, Some, sym, ap, arith, inl, inr, length-append, append_assoc}
use Rattle.std.specs.Int.{w32}
use Rattle.craq_wire.specs.NumberEncoding.{number}
use Rattle.craq_wire.specs.NumberReading.{number_at}
use Rattle.craq_wire.proofs.NumberExact.{some_is, u32_exact}
use Rattle.craq_frames.specs.Frame.{frame, payload_limit, IsPartial}
use Rattle.craq_frames.proofs.Lengths.{len32}

-- the length that is read there says how many bytes follow
same_front : (n k : ℕ) (xs ys : List ℕ) → n ≤ payload_limit → k ≤ payload_limit → number w32 n ++ xs ≡ number w32 k ++ ys → ◌≡◌ {A = ℕ × List ℕ} (n, xs) (k, ys)
same_front n k xs ys few few_too same =
    some_is {A = ℕ × List ℕ} (n, xs) (k, ys) (sym (u32_exact.again n xs (omega (arith, few))) ∙ ap (number_at w32) same ∙ u32_exact.again k ys (omega (arith, few_too)))

pub no_frame : (bytes payload rest : List ℕ) → IsPartial bytes → length payload ≤ payload_limit → bytes ≡ frame payload ++ rest → ⊥
no_frame bytes payload rest part within is = elim part [
  | inl short ↦
      omega (
        arith,
        short,
        ap length is,
        length-append (number w32 (length payload) ++ payload) rest,
        length-append (number w32 (length payload)) payload,
        len32 (length payload),
      )
  | inr p ↦
      let same : ◌≡◌ {A = ℕ × List ℕ} (p.0, p.1) (length payload, payload ++ rest) =
      same_front p.0 (length payload) p.1 (payload ++ rest) p.2 within (sym (p.3) ∙ is ∙ append_assoc (number w32 (length payload)) payload rest) in
      omega (
        arith,
        p.4,
        ap (λ (x : ℕ × List ℕ). x.0) same,
        ap (λ (x : ℕ × List ℕ). length x.1) same,
        length-append payload rest,
      )
]
