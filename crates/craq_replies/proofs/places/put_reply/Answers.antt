use Rattle.std.proofs.Common.{◌∙◌, ap}
use Rattle.craq_commands.specs.Kept.{Window, keep}
use Rattle.craq_replies.proofs.Tables.{kept_first, others_kept}
use Rattle.craq_replies.proofs.places.put_reply.Goals as goal

pub returns-clause-ok : goal.returns-clause-ok
returns-clause-ok c =
    kept_first c.args.places.now.entries c.insert.new.self.entries c.args.client c.keep.new.self c.args.number c.args.reply c.insert.ensures.was_ordered c.insert.ensures.ordered c.requires.absent c.in_ok-insert.ensures.updates.0
    (c.in_ok-keep.ensures.ok ∙ ap (λ (w : Window). keep w c.args.number c.args.reply) c.requires.empty)

pub returns-clause-rooms : goal.returns-clause-rooms
returns-clause-rooms c = others_kept c.args.places.now.entries c.insert.new.self.entries c.args.client c.keep.new.self c.in_ok-insert.ensures.updates.0
