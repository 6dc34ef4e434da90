-- Nodes that differ only in what compaction forgets.
use Rattle.std.specs.Prelude.{◌≡◌}
use Rattle.craq_model.specs.Past.{clean_in, entries_in}
use Rattle.craq_model.specs.Plain.{Plain}

-- the nodes differ at most in settled entries, and have the same clean state
pub record DiffersInSettled (p q : Plain) : Type 0 where
  pub rest : record p { past = q.past } ≡ q
  pub acknowledged : p.past.acknowledged ≡ q.past.acknowledged
  pub clean : clean_in p.past ≡ clean_in q.past
  pub later : entries_in p.past p.past.acknowledged ≡ entries_in q.past q.past.acknowledged
