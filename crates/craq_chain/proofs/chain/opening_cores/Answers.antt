use Rattle.std.proofs.Common.{◌≡◌, ◌≤◌, ◌<◌, length, get_or, sym, ap, subst, arith, ◌∙◌, true, [], ◌∷◌, ◌++◌, take}
use Rattle.std.specs.List.{AllZip}
use Rattle.craq_chain.specs.Chained.{openings}
use Rattle.std.proofs.lemmas.List.{take_more, get_or_read}
use Rattle.craq_model.specs.Members.{IsMembership, is_member}
use Rattle.craq_model.specs.Plain.{opening_member}
use Rattle.craq_chain.proofs.Opening.{openings_push, id_from_one, own_member}
use Rattle.craq_chain.proofs.Places.{zip_push}
use Rattle.craq_chain.proofs.chain.opening_cores.Goals as goal

pub open-requires : goal.open-requires
open-requires g c =
    let xs = c.as_slice-members.result.now in
    let are : xs ≡ c.args.master.now.members = c.as_slice-members.ensures ∙ ap (λ x. x.members) c.config-config.ensures.config in
    let member : IsMembership xs = subst IsMembership (sym are) c.config-config.ensures.mastered.membership in
    let within : c.loop-id.id-index < length xs = omega arith in
    let at : c.id-item.result ≡ get_or xs c.loop-id.id-index 0 = get_or_read xs _ _ within c.id-item.is 0 in (
      subst (λ n. 1 ≤ n) (sym at) (id_from_one xs c.loop-id.id-index member.ids within),
      record {
        epoch = ap (λ x. x.epoch) c.config-config.ensures.config ∙ c.requires;
        members = subst IsMembership c.as_slice-members.ensures member;
        own = subst (λ ms. is_member ms c.id-item.result ≡ true) c.as_slice-members.ensures (subst (λ n. is_member xs n ≡ true) (sym at) (own_member xs c.loop-id.id-index within));
      },
    )

pub loop-id-preserved : goal.loop-id-preserved
loop-id-preserved g c =
    let xs = c.as_slice-members.result.now in
    let within : c.loop-id.id-index < length xs = omega arith in
    let at : c.id-item.result ≡ get_or xs c.loop-id.id-index 0 = get_or_read xs _ _ within c.id-item.is 0 in
    let core : g.C.Core.represents c.in_ok-core.core (opening_member (record { chain = c.chain-chain.result; node = get_or xs c.loop-id.id-index 0 }) xs) =
    subst (λ n. g.C.Core.represents c.in_ok-core.core (opening_member (record { chain = c.chain-chain.result; node = n }) xs)) at
    (subst (λ ms. g.C.Core.represents c.in_ok-core.core (opening_member (record { chain = c.chain-chain.result; node = c.id-item.result }) ms)) (sym c.as_slice-members.ensures) c.in_ok-core.ensures.ok) in
    let more : AllZip g.C.Core.represents (c.loop-id.cores.items ++ c.in_ok-core.core ∷ []) (openings c.chain-chain.result xs (take c.loop-id.id-index xs ++ get_or xs c.loop-id.id-index 0 ∷ [])) =
    subst (AllZip g.C.Core.represents (c.loop-id.cores.items ++ c.in_ok-core.core ∷ [])) (sym (openings_push c.chain-chain.result xs (take c.loop-id.id-index xs) (get_or xs c.loop-id.id-index 0)))
    (zip_push g.C.Core.represents _ _ _ _ c.loop-id.invariant core) in
    rw (c.in_ok-push.ensures.items, take_more xs c.loop-id.id-index 0 within) more
