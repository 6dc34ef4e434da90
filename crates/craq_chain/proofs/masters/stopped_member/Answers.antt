use Rattle.std.proofs.Common.{◌≡◌, subst, true, false, sym, ap, ◌∙◌}
use Rattle.craq_model.specs.Members.{is_member}
use Rattle.craq_chain.specs.Parts.{HasStopped}
use Rattle.craq_chain.proofs.Commands.{not_member, has_place, shown, shown_by}
use Rattle.craq_chain.proofs.masters.stopped_member.Goals as goal

pub returns-then-not-is_among : goal.returns-then-not-is_among
returns-then-not-is_among g c = λ d h.
    let e : is_member c.args.master.now.members c.args.id ≡ false = subst (λ xs. is_member xs c.args.id ≡ false) (c.as_slice.ensures ∙ ap (λ x. x.members) c.config.ensures.config) (sym c.is_among.ensures ∙ c.if-not-is_among.true) in
    not_member g.C.Core.represents c.args.cores.now c.args.master.now d c.args.id h e

pub returns-in_default : goal.returns-in_default
returns-in_default g c = λ d h.
    let e : is_member c.args.master.now.members c.args.id ≡ true = subst (λ xs. is_member xs c.args.id ≡ true) (c.as_slice.ensures ∙ ap (λ x. x.members) c.config.ensures.config) (sym c.is_among.ensures ∙ c.if-not-is_among.false) in
    absurd (has_place g.C.Core.represents c.args.cores.now c.args.master.now d c.args.id h c.config.ensures.mastered e (sym (c.place_of.ensures.place d.nodes h.nodes) ∙ c.in_default.is))

pub returns-in-None : goal.returns-in-None
returns-in-None g c = λ d h.
    let e : is_member c.args.master.now.members c.args.id ≡ true = subst (λ xs. is_member xs c.args.id ≡ true) (c.as_slice.ensures ∙ ap (λ x. x.members) c.config.ensures.config) (sym c.is_among.ensures ∙ c.if-not-is_among.false) in
    subst (λ r. HasStopped d c.args.id (shown_by r)) c.in-None.is (shown g.C.Core.represents c.args.cores.now c.args.master.now d c.args.id c.in-Some.place c.index-cores-place.result c.switch.result.now c.receipt.result h e (sym (c.in-Some.ensures.place d.nodes h.nodes)) c.in-Some.ensures.within c.index-cores-place.is c.switch.ensures c.receipt.ensures)

pub returns-in-Some-receipt : goal.returns-in-Some-receipt
returns-in-Some-receipt g c = λ d h.
    let e : is_member c.args.master.now.members c.args.id ≡ true = subst (λ xs. is_member xs c.args.id ≡ true) (c.as_slice.ensures ∙ ap (λ x. x.members) c.config.ensures.config) (sym c.is_among.ensures ∙ c.if-not-is_among.false) in
    subst (λ r. HasStopped d c.args.id (shown_by r)) c.in-Some-receipt.is (shown g.C.Core.represents c.args.cores.now c.args.master.now d c.args.id c.in-Some.place c.index-cores-place.result c.switch.result.now c.receipt.result h e (sym (c.in-Some.ensures.place d.nodes h.nodes)) c.in-Some.ensures.within c.index-cores-place.is c.switch.ensures c.receipt.ensures)
