-- The notes of a run, without its chain.
use Rattle.std.specs.Prelude.{◌≡◌}
use Rattle.craq_runs.specs.Explain.{Account}
use Rattle.craq_explain.specs.declared.account.Notes.{Notes}
use Rattle.craq_explain.specs.Tables.{AreTables}

-- the notes of an account
pub record IsNoted (w : Account) (n : Notes) : Type 0 where
  pub tables : AreTables w.asks w.pending w.committed n.tables
  pub lens : n.lens.items ≡ w.lens
  pub sent_at : n.sent_at.items ≡ w.sent_at
  pub places : n.places.items ≡ w.places
