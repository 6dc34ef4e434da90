use Rattle.std.proofs.Common.{◌∙◌}
use Rattle.craq_explain.proofs.Noting.{reported}
use Rattle.craq_explain.proofs.account.Notes.explained.Goals as goal

pub returns : goal.returns
returns c = λ w h. reported w c.of.result c.of-2.result c.of-3.result (c.of.ensures ∙ c.in_ok-asks.ensures w.asks w.pending w.committed h.tables) (c.of-2.ensures ∙ h.lens) (c.of-3.ensures ∙ h.places)
