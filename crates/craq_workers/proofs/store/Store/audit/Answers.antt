use Rattle.std.proofs.Common.{rules, arith, ◌≡◌, ◌<◌, length, true, Some, slice_get, sym, ap, ◌∙◌}
use Rattle.std.proofs.lemmas.List.{length-map}
use Rattle.craq_epochs.specs.Mastered.{opened_master}
use Rattle.craq_seat.specs.Books.{first_master}
use Rattle.craq_workers.specs.Stores.{IsMasterOf}
use Rattle.craq_workers.proofs.Answered.{answered, finds_senders, master_at}
use Rattle.craq_workers.proofs.store.Store.audit.Goals as goal

pub returns-clause-answers : goal.returns-clause-answers
returns-clause-answers g c =
    let size : length c.args.self.now.names ≡ length c.self.inside.shared.value.chains.items = ap (λ s. length s.names) (sym c.self.view_is) ∙ length-map _ _ in
    let there : c.args.chain < length c.args.self.now.names = omega (arith, size, rw c.deref.ensures at c.in_ok-place.ensures.there) in
    let journals : c.args.self.now.journals ≡ true = search rules in
    let place = c.in_ok-place.place.now in
    let here : slice_get c.self.inside.shared.value.chains.items c.args.chain ≡ Some place = rw c.deref.ensures at c.in_ok-place.ensures.found in
    let master : slice_get c.args.self.now.masters c.args.chain ≡ Some (opened_master place.id place.first.members) =
    master_at (λ x. opened_master x.id x.first.members) _ c.self.inside.shared.value.chains.items c.args.chain place (ap (λ s. s.masters) (sym c.self.view_is)) here in
    let is : first_master c.opening.result.now ≡ opened_master place.id place.first.members = search rules in
    let same : c.in_ok-lock_chain.field-0.book.opening ≡ c.opening.result.now = search rules in
    let such : IsMasterOf c.args.self.now c.args.chain c.in_ok-lock_chain.field-0.book = master ∙ ap Some (sym (ap first_master same ∙ is)) in
    answered g.C.Core.represents c.args.self.now c.args.chain c.args.receipts.now c.audit.result (there, journals)
    (record { held = c.in_ok-lock_chain.field-0; own = c.audit.ensures.own; such = such; audited = c.audit.ensures.audited })

pub returns-clause-sent : goal.returns-clause-sent
returns-clause-sent g c = finds_senders c.audit.result c.audit.ensures.sent
