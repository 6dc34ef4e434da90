use Rattle.std.proofs.Common.{◌∷◌, [], ◌∙◌, ap}
use Rattle.std.specs.Prelude.{Option}
use Rattle.std.specs.Option.{option_or}
use Rattle.craq_runs.specs.Seen.{Asked, ask_with}
use Rattle.craq_check.proofs.Asks.{one_more, none_in}
use Rattle.craq_check.proofs.index.index_of.Goals as goal

pub loop-ask-init : goal.loop-ask-init
loop-ask-init c = λ node ticket. none_in c.new-index.result node ticket c.new-index.ensures.empty

pub loop-ask-preserved : goal.loop-ask-preserved
loop-ask-preserved c = λ node ticket.
    c.in_ok-keep_first.ensures node ticket
    ∙ ap (λ (o : Option Asked). option_or o (ask_with (c.ask-item.result ∷ []) node ticket)) (c.loop-ask.invariant node ticket)
    ∙ one_more c.args.asks.now c.loop-ask.ask-index c.ask-item.result node ticket c.loop-ask-test.true c.ask-item.is
