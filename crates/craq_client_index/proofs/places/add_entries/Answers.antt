use Rattle.std.proofs.Common.{ℕ, List, ◌++◌, sym, ap, ◌∙◌}
use Rattle.craq_commands.specs.declared.entry.Entry.{Entry}
use Rattle.craq_client_index.specs.Indexed.{noted_of}
use Rattle.craq_client_index.proofs.Placing.{none_more, not_err}
use Rattle.craq_client_index.proofs.Through.{more_at, no_entries}
use Rattle.craq_client_index.proofs.places.add_entries.Goals as goal

pub loop-index-init : goal.loop-index-init
loop-index-init c = record {
  noted = λ q. none_more (noted_of c.args.places.now.entries q) ∙ ap (λ (l : List ℕ). noted_of c.args.places.now.entries q ++ l) (sym (no_entries q c.args.after));
  ordered = c.requires.ordered;
}

pub loop-index-preserved : goal.loop-index-preserved
loop-index-preserved c =
    let more = not_err c.add_position.result (sym c.is_err.ensures.value ∙ c.if-is_err.false) c.add_position.ensures.ok in
    record {
      noted = λ q. more_at q c.args.after c.loop-index.index c.get.result c.args.entries.now c.index-entries-index.result (noted_of c.args.places.now.entries q) (noted_of c.loop-index.places.entries q) (noted_of c.add_position.new.places.entries q) c.loop-index-test.true c.index-entries-index.is (c.get.ensures ∙ ap (λ (x : Entry). x.client) (sym c.index-entries-index.is)) (more q) (c.loop-index.invariant.noted q);
      ordered = c.add_position.ensures.ordered;
    }
