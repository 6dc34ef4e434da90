use Rattle.std.proofs.Common.{◌≡◌, sym, ap, ◌∙◌}
use Rattle.craq_runs.specs.Runs.{after_move}
use Rattle.craq_runs.specs.Explain.{tail_word}
use Rattle.craq_chain.specs.Chained.{chain_of_run, with_move}
use Rattle.craq_full_history.specs.contracts.history.FullHistoryHistory.TheImpl.{past-value}
use Rattle.craq_explain.specs.Shown.{plain_in}
use Rattle.craq_explain.proofs.Accounts.{chain_with, noted_after, took_again}
use Rattle.craq_explain.proofs.replay.replay_move.Goals as goal

pub returns : goal.returns
returns c = λ w noted ec count asks takes.
    let t = c.args.taken.now in
    let b = c.args.core.now in
    let core_is : c.take_again.new.core ≡ with_move b t = took_again b c.take_again.new.core t takes c.in_ok-take_again.ensures in
    let word : c.tail_word-word.result ≡ tail_word w t.chosen = c.tail_word-word.ensures w ec (sym noted.sent_at ∙ sym c.sent_at.ensures) in (
      noted_after w t (chain_of_run b) (chain_of_run c.take_again.new.core) c.mover-node.result (plain_in past-value.it c.node_in.result) c.add.new.self ec (ap chain_of_run core_is ∙ chain_with b t) c.mover-node.ensures c.node_in.ensures (c.in_ok-add.ensures w (after_move w.chain t.chosen) noted count asks word),
      core_is,
    )
