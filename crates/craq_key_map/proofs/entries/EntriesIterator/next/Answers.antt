use Rattle.craq_key_map.specs.Rising.{lent_pair}
use Rattle.craq_key_map.proofs.Next.{drop_next}
use Rattle.craq_key_map.proofs.entries.EntriesIterator.next.Goals as goal

pub returns-clause-steps : goal.returns-clause-steps
returns-clause-steps g c = rw (← c.self.view_is) (drop_next c.self.inside.map.now c.self.inside.next (lent_pair c.entry-entry.result) c.entry-entry.ensures)
