use Rattle.std.proofs.Common.{◌≡◌, ◌∙◌, subst}
use Rattle.craq_ghost_history.specs.declared.author.Author.{Author}
use Rattle.craq_ghost_history.specs.Authors.{of}
use Rattle.craq_ghost_history.proofs.Prefixes.{prefix_trans}
use Rattle.craq_store_history.specs.Entries.{author_of}
use Rattle.craq_store_parts.proofs.session.learn_both.Goals as goal

pub returns-clause-this : goal.returns-clause-this
returns-clause-this g c = prefix_trans c.args.writer.now.seen c.learn.new.self.seen c.learn-2.new.self.seen c.learn.ensures.this c.learn-2.ensures.this

pub returns-clause-first : goal.returns-clause-first
returns-clause-first g c = prefix_trans c.args.first c.learn.new.self.seen c.learn-2.new.self.seen c.learn.ensures.that c.learn-2.ensures.this

pub returns-clause-own : goal.returns-clause-own
returns-clause-own g c =
    subst (λ (a : Author). of author_of a c.learn-2.new.self.seen ≡ of author_of a c.learn.new.self.seen) c.learn.ensures.author c.learn-2.ensures.own ∙ c.learn.ensures.own
