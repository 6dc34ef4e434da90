-- Ends of an exchange, and that a frame comes to an end.
use Rattle.std.proofs.Common.{◌≡◌, ℕ, zero, suc, ◌<◌, ◌⊎◌, inl, inr, List, ◌++◌, length, Result, Ok, Err, IfOk, IfErr, refl, sym, ap, subst, arith, length-append}
use Rattle.std.specs.Int.{w32}
use Rattle.craq_names.specs.declared.refusal.Refusal.{Refusal}
use Rattle.craq_names.specs.declared.refusal.Refusal.TheVariants as refusals
use Rattle.craq_wire.specs.NumberEncoding.{number}
use Rattle.craq_frames.specs.declared.ask.ClientMessage.{ClientMessage}
use Rattle.craq_frames.specs.declared.answer.ClientReply.{ClientReply}
use Rattle.craq_frames.specs.Frame.{frame, IsPartial}
use Rattle.craq_frames.specs.Payload.{EncodesAnswer}
use Rattle.craq_front.specs.Exchange.{IsFrameOf, Exchanged}
use Rattle.craq_frames.proofs.Lengths.{len32}

-- the payload of the frame that came is decoded
pub decoded : (m : ClientMessage) (sent payload rest : List ℕ) (r : Result ClientReply Refusal) → IsFrameOf m sent → IfOk r (λ x. EncodesAnswer x payload)
    → (r ≡ Err refusals.BadFrame → (x : ClientReply) → EncodesAnswer x payload → ⊥) → IfErr r (λ e. (e ≡ refusals.BadFrame) ⊎ (e ≡ refusals.Memory)) → Exchanged m sent (frame payload ++ rest) 0 r
decoded m sent payload rest (Ok x) h found bad err = (h, refl, (payload, rest, refl, found))
decoded m sent payload rest (Err e) h found bad err = elim err [
  | inl q ↦ subst (λ (x : Refusal). Exchanged m sent (frame payload ++ rest) 0 (Err x)) (sym q) (h, refl, (payload, rest, refl, bad (ap Err q)))
  | inr q ↦ subst (λ (x : Refusal). Exchanged m sent (frame payload ++ rest) 0 (Err x)) (sym q) (refl, inr h)
]

-- less than a frame is fewer bytes than the longest frame has
pub partial_few : (bytes : List ℕ) → IsPartial bytes → length bytes < 1048580
partial_few bytes h = elim h [
  | inl short ↦ omega (arith, short)
  | inr p ↦ omega (arith, p.2, ap length p.3, length-append (number w32 p.0) p.1, len32 p.0, p.4)
]

pub positive : (n : ℕ) → (n ≡ 0 → ⊥) → 0 < n
positive zero none = absurd (none refl)
positive (suc n) none = omega arith
