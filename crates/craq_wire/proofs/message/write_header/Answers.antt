use Rattle.std.proofs.Common.{◌≡◌, ◌∙◌, ◌++◌, ℕ, List, [], ◌∷◌, append_assoc, ap, refl}
use Rattle.std.specs.Int.{w8, w16, w32, w64, to_be_bytes}
use Rattle.craq_wire.specs.NumberEncoding.{number}
use Rattle.craq_model.specs.declared.message.Body.{Body}
use Rattle.craq_model.specs.declared.message.Body.TheVariants as bodies
use Rattle.craq_wire.specs.Encoding.{message_kind}
use Rattle.craq_wire.proofs.message.write_header.Goals as goal

-- the number of a kind is one byte
kind_is : (b : Body) → message_kind b ∷ [] ≡ to_be_bytes w8 (message_kind b)
kind_is (bodies.Config members) = refl
kind_is (bodies.Entry e) = refl
kind_is (bodies.Ack position) = refl
kind_is (bodies.Query ticket k) = refl
kind_is (bodies.VersionIs ticket version) = refl
kind_is (bodies.Blank count) = refl
kind_is (bodies.Copy position s) = refl
kind_is (bodies.Floor count) = refl
kind_is (bodies.Part p) = refl
kind_is (bodies.Batch es) = refl

-- bytes appended to appended bytes follow both
behind : (before mid after own own' rest : List ℕ) → mid ≡ before ++ own → own ≡ own' → after ≡ mid ++ rest → after ≡ before ++ (own' ++ rest)
behind before mid after own own' rest e s f =
    f
    ∙ ap (λ (z : List ℕ). z ++ rest) (e ∙ ap (λ (z : List ℕ). before ++ z) s)
    ∙ append_assoc before own' rest

pub returns-clause-spelled : goal.returns-clause-spelled
unfolding number
returns-clause-spelled c =
    behind _ _ _ _ _ _ (c.extend_reserved.ensures.items ∙ ap (λ (z : List ℕ). z ++ c.to_be_bytes.result) c.reserve.ensures.items) c.to_be_bytes.ensures
    (behind _ _ _ _ _ _ c.extend_reserved-2.ensures.items (c.to_be_bytes-2.ensures ∙ ap (λ (k : ℕ). k ∷ []) c.kind.ensures ∙ kind_is c.args.m.now.body)
    (behind _ _ _ _ _ _ c.extend_reserved-3.ensures.items (c.to_be_bytes-3.ensures ∙ ap (to_be_bytes w16) c.get.ensures)
    (behind _ _ _ _ _ _ c.extend_reserved-4.ensures.items (c.to_be_bytes-4.ensures ∙ ap (to_be_bytes w32) c.get-2.ensures)
    (behind _ _ _ _ _ _ c.extend_reserved-5.ensures.items (c.to_be_bytes-5.ensures ∙ ap (to_be_bytes w32) c.get-3.ensures)
    (behind _ _ _ _ _ _ c.extend_reserved-6.ensures.items (c.to_be_bytes-6.ensures ∙ ap (to_be_bytes w64) c.get-4.ensures)
    (behind _ _ _ _ _ _ c.extend_reserved-7.ensures.items c.to_be_bytes-7.ensures
    (c.extend_reserved-8.ensures.items ∙ ap (λ (z : List ℕ). c.extend_reserved-7.new.self.items ++ z) (c.to_be_bytes-8.ensures ∙ ap (to_be_bytes w64) c.get-5.ensures))))))))
