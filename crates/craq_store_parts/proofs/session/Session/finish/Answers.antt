use Rattle.std.proofs.Common.{◌≡◌, ◌∙◌, sym, subst}
use Rattle.craq_ghost_history.specs.declared.author.Author.{Author}
use Rattle.craq_ghost_history.specs.Authors.{of}
use Rattle.craq_store_history.specs.Entries.{author_of}
use Rattle.craq_store_parts.proofs.Recording.{answered_later}
use Rattle.craq_store_parts.proofs.Sessions.{fresh_later}
use Rattle.craq_store_parts.proofs.session.Session.finish.Goals as goal

pub invariant_of-self : goal.invariant_of-self
invariant_of-self g c =
    let s = c.self.inside in
    let own = subst (λ (a : Author). of author_of a c.learn_both.new.writer.seen ≡ of author_of a s.writer.seen) c.self.invariant.author c.learn_both.ensures.own in
    record {
      author = c.learn_both.ensures.author ∙ c.self.invariant.author;
      permits = c.learn_both.ensures.next ∙ c.self.invariant.permits;
      fresh = fresh_later s.client s.next s.writer.seen c.learn_both.new.writer.seen (sym own) c.self.invariant.fresh;
    }

pub returns-in-Some-clause-replied : goal.returns-in-Some-clause-replied
returns-in-Some-clause-replied g c =
    rw c.in-Some.ensures.receipt
    (answered_later c.in-Some.replied c.learn_both.new.writer.seen c.args.name c.args.answered.call.ticket c.args.answered.answered.stamp c.args.answered.answer c.learn_both.ensures.second c.in-Some.ensures.replied)
