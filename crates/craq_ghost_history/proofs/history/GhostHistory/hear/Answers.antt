use Rattle.std.proofs.Common.{◌≡◌, ◌∙◌, ap, sym, arith}
use Rattle.craq_ghost_history.proofs.Keeping.{hears_joins}
use Rattle.craq_ghost_history.proofs.history.GhostHistory.hear.Goals as goal

pub join_seat-requires : goal.join_seat-requires
join_seat-requires g c =
    let is = c.args.self.now.is in
    let words : c.args.self.now.table.shared.table_id.words ≡ 1 = ap (λ z. z.words) is.0 ∙ is.1 in
    let r = c.requires.table in
    (r.0 ∙ sym is.0, r.1 ∙ sym is.0, r.2, omega arith, hears_joins g.X.HistoryRule.author g.X.HistoryRule.permit g.X.HistoryRule.holds c.args.seat.now.id c.args.seat.now.me.0 c.args.other.id c.args.other.me.0)
