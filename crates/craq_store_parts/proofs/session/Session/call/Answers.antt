use Rattle.std.proofs.Common.{◌≡◌, ◌+◌, ◌∙◌, ℕ, [], List, ap, sym, subst}
use Rattle.craq_store_history.specs.declared.entry.HistoryEntry.{HistoryEntry}
use Rattle.craq_store_history.specs.Steps.{MayMake}
use Rattle.craq_store_history.proofs.Adding.{called_may}
use Rattle.craq_store_parts.proofs.Sessions.{fresh_after}
use Rattle.craq_store_parts.proofs.session.Session.call.Goals as goal

pub add-requires-clause-may : goal.add-requires-clause-may
add-requires-clause-may g c =
    let s = c.self.inside in called_may s.writer.seen [] (record { client = s.client; number = s.next }) c.args.name c.of.result c.self.invariant.fresh

pub invariant_of-self : goal.invariant_of-self
invariant_of-self g c =
    let s = c.self.inside in
    let author = c.add.ensures.author ∙ c.self.invariant.author in
    let next : c.add.new.self.next ≡ s.next = c.add.ensures.next ∙ c.self.invariant.permits in
    record {
      author = c.permit-grant.ensures.same.0 ∙ author;
      permits = c.permit-grant.ensures.next s.client author ∙ ap (λ (n : ℕ). n + 1) next;
      fresh = subst (λ (l : List HistoryEntry). MayMake l (record { client = s.client; number = s.next + 1 })) (sym c.permit-grant.ensures.same.1)
          (fresh_after s.client s.next s.writer.seen [] c.add.new.self.seen c.args.name c.of.result c.self.invariant.fresh c.add.ensures.added);
    }
