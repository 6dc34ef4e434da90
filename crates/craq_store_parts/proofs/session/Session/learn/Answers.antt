use Rattle.std.proofs.Common.{◌≡◌, ◌∙◌, sym, subst}
use Rattle.craq_ghost_history.specs.declared.author.Author.{Author}
use Rattle.craq_ghost_history.specs.Authors.{of}
use Rattle.craq_store_history.specs.Entries.{author_of}
use Rattle.craq_store_parts.proofs.Sessions.{fresh_later}
use Rattle.craq_store_parts.proofs.session.Session.learn.Goals as goal

pub invariant_of-self : goal.invariant_of-self
invariant_of-self g c =
    let s = c.self.inside in
    let own = subst (λ (a : Author). of author_of a c.learn.new.self.seen ≡ of author_of a s.writer.seen) c.self.invariant.author c.learn.ensures.own in
    record {
      author = c.learn.ensures.author ∙ c.self.invariant.author;
      permits = c.learn.ensures.next ∙ c.self.invariant.permits;
      fresh = fresh_later s.client s.next s.writer.seen c.learn.new.self.seen (sym own) c.self.invariant.fresh;
    }
