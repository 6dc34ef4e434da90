use Rattle.std.proofs.Common.{◌<◌, refl, sym, ◌∙◌, inl, inr}
use Rattle.craq_audit.proofs.Sendings.{sent_by_book, sent_by_node, where_sent}
use Rattle.craq_audit.proofs.Tests.{not_both, not_ge}
use Rattle.craq_audit.proofs.senders.was_sent.Goals as goal

pub returns-then-book_has_sent : goal.returns-then-book_has_sent
returns-then-book_has_sent g c =
    let t = c.book_has_sent.ensures.0 c.if-book_has_sent.true in
    let less : c.args.message.now.stamp < c.args.stamp = not_ge _ _ (sym c.ge.ensures ∙ c.if-ge.false) in
    (λ h. sent_by_book c.args.book.now c.args.cells.now c.args.stamp c.args.message.now less t.0 t.1, λ h. refl)

pub returns : goal.returns
returns g c =
    let less : c.args.message.now.stamp < c.args.stamp = not_ge _ _ (sym c.ge.ensures ∙ c.if-ge.false) in (
      λ h. sent_by_node c.args.book.now c.args.cells.now c.args.stamp c.args.message.now less (c.node_has_sent.ensures.0 h),
      λ w. elim (where_sent c.args.book.now c.args.cells.now c.args.stamp c.args.message.now w) [
        | inl b ↦ not_both c.book_has_sent.result (c.book_has_sent.ensures.1 b) c.if-book_has_sent.false
        | inr f ↦ c.node_has_sent.ensures.1 f
      ],
    )
