use Rattle.std.proofs.Common.{[]}
use Rattle.craq_ghost_history.proofs.Keeping.{begins}
use Rattle.craq_ghost_history.proofs.opening.Opened.new.Goals as goal

pub of_words-requires : goal.of_words-requires
of_words-requires g c = begins g.X.HistoryRule.author g.X.HistoryRule.permit g.X.HistoryRule.holds [] c.requires
