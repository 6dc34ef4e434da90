use Rattle.std.proofs.Common.{◌+◌, ◌++◌, length, map, sym, ap, subst, ◌∙◌}
use Rattle.craq_model.specs.declared.message.LinkMessage.{LinkMessage}
use Rattle.craq_runs.specs.Chain.{sent_in}
use Rattle.craq_runs.specs.Explain.{committed_by, pending_in}
use Rattle.craq_runs.specs.Seen.{ask_in}
use Rattle.craq_full_history.specs.contracts.history.FullHistoryHistory.TheImpl.{past-value}
use Rattle.craq_explain.specs.Shown.{plain_in}
use Rattle.craq_explain.specs.Tables.{AreTables}
use Rattle.craq_explain.proofs.Adding.{added}
use Rattle.craq_explain.proofs.account.Notes.add.Goals as goal

pub returns : goal.returns
returns c = λ w next h count asks word.
    let t = c.args.replayed.now.taken.now in
    let moves = c.args.moves.now in
    let p = plain_in past-value.it c.args.stands in
    let pending = w.pending ++ pending_in (length w.committed) t.step.ticket p t.chosen in
    let entries = committed_by w.committed p in
    let tables = c.in_ok-add.ensures w.asks w.pending w.committed h.tables in
    let again = subst (λ xs. AreTables xs pending entries c.add.new.self) (ap (λ k. w.asks ++ ask_in k t.step.ticket t.chosen) count ∙ sym asks) tables in
    added w t c.args.replayed.now.node next p _ (length moves) c.count-count.result c.args.replayed.now.word c.args.self.now _ h count asks word tables (c.count-count.ensures entries tables.committed) c.in_ok-push.ensures.items (c.in_ok-add_sends.ensures ∙ ap (λ os. c.args.self.now.sent_at.items ++ map (λ (m : LinkMessage). c.count-count.result) (sent_in os)) c.as_slice.ensures) (c.in_ok-add_places.ensures (w.chain.moves + 1) pending entries again)
