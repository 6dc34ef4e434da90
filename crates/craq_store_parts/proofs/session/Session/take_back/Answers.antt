use Rattle.std.proofs.Common.{◌≡◌, ◌∙◌, ap, sym, subst}
use Rattle.craq_store_history.specs.declared.entry.CallId.{CallId}
use Rattle.craq_store_history.proofs.Adding.{withdrawn_may}
use Rattle.craq_store_parts.specs.Witnessed.{IsNeverAccepted}
use Rattle.craq_store_parts.proofs.Sessions.{added_later, fresh_withdrawn, never_accepted}
use Rattle.craq_store_parts.proofs.session.Session.take_back.Goals as goal

pub add_with-requires-clause-own : goal.add_with-requires-clause-own
add_with-requires-clause-own g c =
    let mine : c.into_parts-grant.result.0.client ≡ c.self.inside.client = ap (λ (k : CallId). k.client) c.into_parts-grant.ensures.call ∙ (c.requires ∙ sym (ap (λ x. x.client) c.self.view_is)) in
    rw mine (sym c.self.invariant.author)

pub add_with-requires-clause-may : goal.add_with-requires-clause-may
add_with-requires-clause-may g c = withdrawn_may c.self.inside.writer.seen c.into_parts-grant.result.1.seen c.into_parts-grant.result.0

pub invariant_of-self : goal.invariant_of-self
invariant_of-self g c =
    let s = c.self.inside in
    let mine : c.into_parts-grant.result.0.client ≡ s.client = ap (λ (k : CallId). k.client) c.into_parts-grant.ensures.call ∙ (c.requires ∙ sym (ap (λ x. x.client) c.self.view_is)) in
    record {
      author = c.add_with.ensures.author ∙ c.self.invariant.author;
      permits = c.add_with.ensures.next ∙ c.self.invariant.permits;
      fresh = fresh_withdrawn s.client s.next s.writer.seen c.into_parts-grant.result.1.seen c.add_with.new.self.seen c.into_parts-grant.result.0 mine c.self.invariant.fresh c.add_with.ensures.added;
    }

pub returns-clause-never : goal.returns-clause-never
returns-clause-never g c =
    subst (IsNeverAccepted c.add_with.new.self.seen) c.into_parts-grant.ensures.call
    (never_accepted c.self.inside.writer.seen c.into_parts-grant.result.1.seen c.add_with.new.self.seen c.into_parts-grant.result.0 c.add_with.ensures.added)

pub returns-clause-later : goal.returns-clause-later
returns-clause-later g c =
    rw (sym (ap (λ x. x.seen) c.self.view_is)) (added_later c.self.inside.writer.seen c.into_parts-grant.result.1.seen c.add_with.new.self.seen _ c.add_with.ensures.added)
