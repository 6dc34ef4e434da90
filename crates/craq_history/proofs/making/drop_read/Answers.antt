use Rattle.std.proofs.Common.{rules}
use Rattle.std.specs.Prelude.{not, ◌==◌}
use Rattle.std.proofs.lemmas.Fn.{filter_same}
use Rattle.craq_model.specs.declared.waiting.WaitingRead.{WaitingRead}
use Rattle.craq_model.specs.Deliveries.{reads_without}
use Rattle.craq_history.proofs.making.drop_read.Goals as goal

pub returns : goal.returns
unfolding reads_without
returns c = filter_same _ (λ (r : WaitingRead). not (r.ticket == c.args.ticket)) _ (λ x b f t. search rules) _ _ c.retain.ensures.filtered
