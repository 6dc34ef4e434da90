-- The next frame, by the steps of a protocol codec.
use Rattle.std.proofs.Common.{◌≡◌, ◌≤◌, ◌+◌, ℕ, List, [], ◌++◌, length, drop, true, Option, Result, Ok, Err, refl, sym, ap, subst, ◌∙◌}
use Rattle.std.proofs.lemmas.List.{append-nil}
use Rattle.craq_names.specs.declared.refusal.Refusal.{Refusal}
use Rattle.craq_names.specs.declared.refusal.Refusal.TheVariants as refusals
use Rattle.craq_frames.specs.declared.ask.ClientMessage.{ClientMessage}
use Rattle.craq_frames.specs.Frame.{frame, payload_limit}
use Rattle.craq_frames.specs.declared.protocol_codec.Asking.{Asking}
use Rattle.craq_frames.specs.declared.protocol_codec.CodecEvent.{CodecEvent}
use Rattle.craq_frames.specs.declared.protocol_codec.CodecEvent.TheVariants.{Ask, Refused}
use Rattle.craq_frames.specs.Serving.{Turn, Replies, nothing, Begins, idle, begun, Next}
use Rattle.craq_frames.specs.Steps.{IsFirst, Advances}
use Rattle.craq_frames.proofs.Lengths.{behind_frame}
use Rattle.craq_frames.proofs.Conversations.{served_one}

-- the first message of the payload in front is asked
pub first_asked : (asking : Option Asking) (m : ClientMessage) (payload : List ℕ) → length payload ≤ payload_limit → IsFirst asking m payload
    → (rest : List ℕ) → Advances (frame payload ++ rest) rest [] asking (Ok (Ask m))
first_asked asking m payload few first rest = (payload, refl, few, refl, first)

-- the outcome of a payload holds of the bytes in front of which its frame lay
pub taken_off : (input left unsent payload rest : List ℕ) (asking : Option Asking) (r : Result CodecEvent Refusal) → input ≡ frame payload ++ rest → left ≡ drop (length payload + 4) input
    → ((rest : List ℕ) → Advances (frame payload ++ rest) rest unsent asking r) → Advances input left unsent asking r
taken_off input left unsent payload rest asking r e l h =
    subst (λ (x : List ℕ). Advances x left unsent asking r) (sym e)
    (subst (λ (x : List ℕ). Advances (frame payload ++ rest) x unsent asking r) (sym (l ∙ behind_frame input payload rest e)) (h rest))

-- no message is asked
pub not_begun : {D : Type 0} (turn : Turn D) (a : D) (input rest unsent : List ℕ) (asking : Option Asking) (e : Refusal) → Advances input rest unsent asking (Err e) → Next turn a input rest unsent a (Err e)
not_begun turn a input rest unsent asking refusals.FrameTooLong h = (h, refl)
not_begun turn a input rest unsent asking refusals.Memory h = (idle refl, h)
not_begun turn a input rest unsent asking _ h = absurd h

-- the payload encodes nothing
pub refused_one : {D : Type 0} (turn : Turn D) (a : D) (input rest unsent : List ℕ) (asking : Option Asking) → Advances input rest unsent asking (Ok Refused) → Next turn a input rest unsent a (Ok true)
refused_one turn a input rest unsent asking h =
    served_one turn a a input rest unsent h.0 h.1 h.3 h.2 h.4 (nothing h.6 refl h.7)

-- all replies to the payload
pub answered_one : {D : Type 0} (turn : Turn D) (a c : D) (input rest old mid all unsent : List ℕ) (asking : Option Asking) (m : ClientMessage)
    → Advances input rest unsent asking (Ok (Ask m)) → mid ≡ old ++ unsent
    → ((payload : List ℕ) → IsFirst asking m payload → (reply : List ℕ) × (all ≡ mid ++ frame reply) × Replies turn a payload reply c)
    → (unsent : List ℕ) × (all ≡ old ++ unsent) × Next turn a input rest unsent c (Ok true)
answered_one turn a c input rest old mid all unsent asking m h e answered =
    let r = answered h.0 h.4 in (
      frame r.0,
      r.1 ∙ ap (λ (x : List ℕ). x ++ frame r.0) (e ∙ ap (λ (x : List ℕ). old ++ x) h.3 ∙ append-nil old),
      served_one turn a c input rest (frame r.0) h.0 r.0 h.2 h.1 refl r.2,
    )

-- or some
pub begun_one : {D : Type 0} (turn : Turn D) (a c : D) (input rest old mid all unsent : List ℕ) (asking : Option Asking) (m : ClientMessage)
    → Advances input rest unsent asking (Ok (Ask m)) → mid ≡ old ++ unsent
    → ((payload : List ℕ) → IsFirst asking m payload → (all ≡ mid) × Begins turn a payload c)
    → (unsent : List ℕ) × (all ≡ old ++ unsent) × Next turn a input rest unsent c (Err refusals.Memory)
begun_one turn a c input rest old mid all unsent asking m h e answered =
    let r = answered h.0 h.4 in
    ([], r.0 ∙ e ∙ ap (λ (x : List ℕ). old ++ x) h.3, (begun h.0 rest h.1 r.1, refl))
