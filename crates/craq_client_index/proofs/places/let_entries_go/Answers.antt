use Rattle.craq_client_index.specs.Indexed.{noted_of}
use Rattle.craq_client_index.proofs.Through.{less_at}
use Rattle.craq_client_index.proofs.places.let_entries_go.Goals as goal

pub loop-entry-preserved : goal.loop-entry-preserved
loop-entry-preserved c = record {
  noted = λ after later q h. less_at q after c.loop-entry.entry-index c.get.result c.args.entries.now later c.entry-item.result (noted_of c.loop-entry.places.entries q) (noted_of c.let_first_go.new.places.entries q) c.loop-entry-test.true c.entry-item.is c.get.ensures (c.let_first_go.ensures.noted q) (c.loop-entry.invariant.noted after later q h);
  ordered = c.let_first_go.ensures.ordered;
}
