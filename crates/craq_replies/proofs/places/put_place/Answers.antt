use Rattle.std.proofs.Common.{ap, ◌∙◌}
use Rattle.craq_replies.specs.Replies.{unless_empty}
use Rattle.craq_replies.proofs.Tables.{kept_put, some_shown}
use Rattle.craq_replies.proofs.places.put_place.Goals as goal

pub returns-clause-ok : goal.returns-clause-ok
returns-clause-ok c =
    kept_put c.args.places.now.entries c.insert.new.self.entries c.args.client c.of.result c.args.replies.items (ap unless_empty c.of.ensures ∙ some_shown c.args.replies.items c.requires.some) c.insert.ensures.was_ordered c.insert.ensures.ordered c.in_ok-insert.ensures.updates.0
